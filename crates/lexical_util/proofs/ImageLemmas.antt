-- Lemmas on the words that a builder can pack.
use Rattle.std.proofs.Common.{◌≡◌, ℕ, ◌<◌, ◌^◌, ◌↔◌, ◌⊎◌, Bool, if◌then◌else◌, IsTrue, sym, ap, ◌∙◌, subst, arith}
use Rattle.lexical_flags.specs.Layout as layout
use Rattle.lexical_flags.specs.Record.{Record, raw, pack, separator_allowed, HasBytes, IsBuilt}
use Rattle.lexical_builder.specs.Writes.{new_record, after}
use Rattle.lexical_util.proofs.Lower.{raw-pack, pack-clean, pack-raw, HasBytes-raw, HasBytes-after, HasBytes-new}
use Rattle.lexical_util.proofs.FieldWrites.{after-field_writes, legal-field_writes}
use Rattle.lexical_util.specs.Listing.{field_writes, IsBuiltByWrites}

used_or_none : (on : Bool) (n : ℕ) → IsTrue on ⊎ ((if on then n else 0) ≡ 0)
used_or_none on n = grind arith

-- The word into which a record packs is built.
IsBuilt-pack : (R : Record) → HasBytes R → IsBuilt (pack R)
IsBuilt-pack R bytes = record {
  clean = pack-clean R bytes;
  separator_used = subst (λ (S : Record). IsTrue (separator_allowed S) ⊎ (S.byte layout.digit_separator ≡ 0)) (sym (raw-pack R bytes))
      (used_or_none (separator_allowed R) (R.byte layout.digit_separator));
}

-- A word is built if and only if some legal writes build it, such as its field writes.
pub built_by_writes : (w : ℕ) → w < 2 ^ 128 → IsBuilt w ↔ IsBuiltByWrites w
built_by_writes w fits = (
  λ built. record {
    writes = field_writes (raw w);
    legal = legal-field_writes (raw w) (HasBytes-raw w);
    makes = ap pack (after-field_writes new_record (raw w)) ∙ (pack-raw w fits).1 built;
  },
  λ made. subst IsBuilt made.makes (IsBuilt-pack (after new_record made.writes) (HasBytes-after new_record made.writes HasBytes-new made.legal)),
)
