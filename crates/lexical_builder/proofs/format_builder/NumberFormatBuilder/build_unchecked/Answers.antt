use Rattle.std.proofs.Common.{rules, slice_index}
use Rattle.lexical_builder.proofs.Common.{◌≡◌, ◌∙◌, ℕ, if◌then◌else◌, ap, sym, subst, arith, ◌*◌, ◌%◌, ◌^◌, or_lt, Byte, Record, pack, trim, raw, HasBytes}
use Rattle.lexical_builder.proofs.Common.{raw-pack, pack-clean, builder_record}
use Rattle.std.proofs.lemmas.Nat.{shl_whole}
use Rattle.lexical_flags.specs.Layout.{IsClean}
use Rattle.lexical_flags.specs.Record.{separator_allowed}
use Rattle.lexical_flags.proofs.Packing.{HasBytes-trim, pack-injective}
use Rattle.lexical_flags.proofs.FlagBits.{separator_allowed-flags}
use Rattle.lexical_builder.specs.BuilderBits.{byte_index}
use Rattle.lexical_flags.specs.Layout as layout
use Rattle.lexical_builder.proofs.UpperHalf.{upper_of, upper-lt, halves_joined}
use Rattle.lexical_builder.proofs.format_builder.NumberFormatBuilder.build_unchecked.Goals as goal

pub overflow_cast-result : goal.overflow_cast-result
overflow_cast-result c =
    let moved : ℕ → ℕ → ℕ = λ i k. slice_index c.self.inside.bytes i * 2 ^ k % 2 ^ 64 in
    let two = or_lt 128 (moved 1 24) (moved 2 32) (omega arith) (omega arith) in
    let four = or_lt 128 _ c.kept_separator.result (or_lt 128 _ (moved 3 40) two (omega arith)) (omega arith) in
    record { fits = or_lt 128 _ (moved 5 56) (or_lt 128 _ (moved 4 48) four (omega arith)) (omega arith) }

pub returns-clause-bytes : goal.returns-clause-bytes
returns-clause-bytes c = search (rules, builder_record)

pub returns-clause-word : goal.returns-clause-word
returns-clause-word c =
    let r : Record = builder_record c.self.inside in
    let byte : Byte → ℕ = λ b. slice_index c.self.inside.bytes (byte_index b) in
    let bytes : HasBytes r = record { each = λ b. grind arith } in
    let kept : HasBytes (trim r) = HasBytes-trim r bytes in
    let separator : c.kept_separator.result ≡ (trim r).byte layout.digit_separator = c.kept_separator.ensures
    ∙ ap (λ allowed. if allowed then r.byte layout.digit_separator else 0)
    (ap (λ word. separator_allowed (raw word)) c.word_flags-flags.ensures ∙ separator_allowed-flags r) in
    let same = ap pack c.self.view_is in
    let joined = halves_joined r kept in
    let prefix = shl_whole (byte layout.base_prefix) 8 24 64 (omega arith) (omega arith) in
    let suffix = shl_whole (byte layout.base_suffix) 8 32 64 (omega arith) (omega arith) in
    let radix = shl_whole (byte layout.mantissa_radix) 8 40 64 (omega arith) (omega arith) in
    let exponent_base = shl_whole (byte layout.exponent_base) 8 48 64 (omega arith) (omega arith) in
    let exponent_radix = shl_whole (byte layout.exponent_radix) 8 56 64 (omega arith) (omega arith) in
    let upper = shl_whole (upper_of (trim r)) 64 64 128 (upper-lt (trim r) kept) (omega arith) in
    cc

pub returns-clause-fields : goal.returns-clause-fields
returns-clause-fields c = ap raw (returns-clause-word c) ∙ raw-pack _ (returns-clause-bytes c)

pub returns-clause-clean : goal.returns-clause-clean
returns-clause-clean c = subst IsClean (sym (returns-clause-word c)) (pack-clean _ (returns-clause-bytes c))

pub returns-clause-alike : goal.returns-clause-alike
returns-clause-alike c s bytes =
    let alike = pack-injective c.args.self.now s (returns-clause-bytes c) bytes in
    (λ e. alike.0 (e ∙ returns-clause-word c), λ e. alike.1 e ∙ sym (returns-clause-word c))
