-- Lemmas that the format of one radix is lawful if and only if the radix is between 2 and 36.
use Rattle.lexical_builder.proofs.Common.{ℕ, ◌≡◌, ◌↔◌, ◌<◌, inr, ◌∙◌, refl, sym, subst, arith, nat_tests, effective, Record, HasBytes, raw, pack, Rule, IsRadix}
use Rattle.lexical_builder.proofs.Common.{shape_of, raw-pack, pack-clean, trim-same, FieldsMeet}
use Rattle.lexical_flags.specs.Literals.{on_literals}
use Rattle.lexical_flags.specs.Rules.{Holds, Lawful}
use Rattle.lexical_builder.specs.Writes.{radix_record}
use Rattle.lexical_flags.specs.Layout as layout
use Rattle.lexical_flags.specs.declared.format_flags.rule.Rule.TheVariants as rules

-- If a radix is below 256, then each byte of its record is below 256.
radix-bytes : (radix : ℕ) → radix < 256 → HasBytes (radix_record radix)
radix-bytes radix fits = record { each = λ b. grind arith }

raw-radix : (radix : ℕ) → radix < 256 → raw (pack (radix_record radix)) ≡ radix_record radix
raw-radix radix fits = raw-pack (radix_record radix) (radix-bytes radix fits) ∙ trim-same (radix_record radix) (inr refl)

-- If a radix is between 2 and 36, then its record satisfies each rule.
radix-demands : (radix : ℕ) → IsRadix radix → (rule : Rule) → FieldsMeet (shape_of rule) (radix_record radix)
unfolding on_literals
radix-demands radix h rule = grind (arith, nat_tests)

radix-kept : (radix : ℕ) → radix < 256 → IsRadix radix → (rule : Rule) → Holds rule (pack (radix_record radix))
unfolding Holds
radix-kept radix fits h rules.ReservedBitsAreZero = pack-clean (radix_record radix) (radix-bytes radix fits)
radix-kept radix fits h rule = subst (FieldsMeet (shape_of rule)) (sym (raw-radix radix fits)) (radix-demands radix h rule)

mantissa_itself : (radix : ℕ) → IsRadix (effective radix radix) → IsRadix radix
mantissa_itself radix h = grind (arith, nat_tests)

-- The format of a radix is lawful if and only if the radix is between 2 and 36.
pub radix-lawful : (radix : ℕ) → radix < 256 → ((word : ℕ) → Lawful word ↔ ((rule : Rule) → Holds rule word))
    → Lawful (pack (radix_record radix)) ↔ IsRadix radix
unfolding Holds
radix-lawful radix fits law = (
  λ lawful. subst (λ (r : Record). IsRadix (r.byte layout.mantissa_radix)) (raw-radix radix fits)
      (mantissa_itself _ ((law (pack (radix_record radix))).0 lawful rules.MantissaRadixInRange)),
  λ h. (law (pack (radix_record radix))).1 (radix-kept radix fits h),
)
