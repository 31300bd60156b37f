-- Lemmas on the rules of a word with another mantissa radix, and of a word without its digit separator.
use Rattle.lexical_builder.proofs.Common.{◌≡◌, ℕ, inr, [], ◌∷◌, refl, sym, ap, subst, ◌∙◌, arith, nat_tests, Record, HasBytes, raw, pack, trim, Rule, IsRadix}
use Rattle.lexical_builder.proofs.Common.{shape_of, raw-pack, pack-clean, trim-same, record_same, FieldsMeet}
use Rattle.std.proofs.Common.{◌≤◌}
use Rattle.lexical_base.specs.Digits.{byte_value}
use Rattle.lexical_flags.specs.Record.{set_byte}
use Rattle.lexical_flags.specs.Rules.{IsAbsentOrPunctuation, IsPunctuation, Holds}
use Rattle.lexical_flags.proofs.NormalRules.{Demands-bare, Demands-trim}
use Rattle.lexical_builder.specs.Writes.{write_byte, after}
use Rattle.lexical_flags.specs.Layout as layout
use Rattle.lexical_flags.specs.declared.format_flags.rule.Rule.TheVariants as rules

-- `changed word radix` has the fields of `word`, but the mantissa radix `radix`.
abbrev changed : ℕ → ℕ → Record
changed word radix = after (raw word) (write_byte layout.mantissa_radix radix ∷ [])

module _ (word radix : ℕ) (all : (rule : Rule) → Holds rule word) (in_range : IsRadix radix)
    (separator : radix ≤ byte_value ((raw word).byte layout.digit_separator)) (prefix : radix ≤ byte_value ((raw word).byte layout.base_prefix))
    (suffix : radix ≤ byte_value ((raw word).byte layout.base_suffix)) where
  -- A byte that is absent or punctuation, and not a digit of the new radix, stays absent or punctuation.
  still_free : (byte : ℕ) → radix ≤ byte_value byte → IsAbsentOrPunctuation (raw word) byte → IsAbsentOrPunctuation (changed word radix) byte
  unfolding after IsPunctuation
  still_free byte above given = grind (arith, nat_tests)

  meets : (rule : Rule) → FieldsMeet (shape_of rule) (changed word radix)
  unfolding after Holds
  meets rule = grind (arith, nat_tests, still_free)

  bytes : HasBytes (changed word radix)
  unfolding after
  bytes = record { each = λ b. grind (arith, nat_tests) }

  -- A word that satisfies all rules does so with another mantissa radix, if none of its bytes is a digit of that radix.
  pub Holds-radix : (rule : Rule) → Holds rule (pack (after (raw word) (write_byte layout.mantissa_radix radix ∷ [])))
  unfolding Holds
  Holds-radix rules.ReservedBitsAreZero = pack-clean _ bytes
  Holds-radix rule = subst (FieldsMeet (shape_of rule)) (sym (raw-pack _ bytes)) (Demands-trim rule (changed word radix) (meets rule))

-- Writing an absent digit separator is setting its byte to 0.
written : (r : Record) → after r (write_byte layout.digit_separator 0 ∷ []) ≡ set_byte r layout.digit_separator 0
unfolding after
written r = record_same _ _ (λ f. refl) (λ b. grind arith)

bare_bytes : (word : ℕ) → HasBytes (after (raw word) (write_byte layout.digit_separator 0 ∷ []))
unfolding after
bare_bytes word = record { each = λ b. grind (arith, nat_tests) }

-- A word without its digit separator has the other fields of the word.
pub raw-bare : (word : ℕ) → raw (pack (after (raw word) (write_byte layout.digit_separator 0 ∷ []))) ≡ set_byte (raw word) layout.digit_separator 0
raw-bare word = raw-pack _ (bare_bytes word) ∙ ap trim (written (raw word)) ∙ trim-same _ (inr refl)

-- A word without its digit separator satisfies each rule that the word satisfies.
pub Holds-bare : (word : ℕ) (rule : Rule) → Holds rule word → Holds rule (pack (after (raw word) (write_byte layout.digit_separator 0 ∷ [])))
unfolding Holds
Holds-bare word rules.ReservedBitsAreZero h = pack-clean _ (bare_bytes word)
Holds-bare word rule h = subst (FieldsMeet (shape_of rule)) (sym (raw-bare word)) (Demands-bare rule (raw word) h)
