-- Lemmas that a rule depends only on the bits that it reads.
use Rattle.std.proofs.lemmas.Bool.Decides.{nat_tests}
use Rattle.std.proofs.Common.{arith, IsFalse}
use Rattle.lexical_flags.proofs.Common.{ℕ, ◌≡◌, ◌-◌, ◌*◌, ◌/◌, ◌^◌, ◌==◌, ◌⊎◌, ◌&&◌, ◌||◌, not, true, IsTrue, List, [], ◌∷◌, bit_and, refl, ap, sym, subst, ◌∙◌}
use Rattle.lexical_flags.proofs.Common.{allowed_ascii, digits_of, Flag, Byte, part, bit, shift, Record, raw, effective, AreDisjoint, format_roles, signs}
use Rattle.lexical_flags.proofs.Common.{IsRadix, IsAbsentOrPunctuation, shape_of, list_all, AllByRecursion, and_parts, Rule}
use Rattle.std.proofs.lemmas.Nat.{and_assoc}
use Rattle.lexical_flags.specs.Roles.{cased}
use Rattle.lexical_flags.specs.Rules.{IsPunctuation, Shape, radix_in_range, absent_or_punctuation, roles_differ, not_both, position_allowed, reserved_zero}
use Rattle.lexical_flags.specs.Rules.{Holds, lacks_position}
use Rattle.std.specs.Bool.{⊤}
use Rattle.std.proofs.lemmas.Bool.{eqb-true}
use Rattle.lexical_flags.specs.Additions.RuleFields.{flags_read, bytes_read, mask_read}
use Rattle.lexical_flags.specs.Layout as layout
use Rattle.lexical_flags.specs.declared.format_flags.rule.Rule.TheVariants as rules
use Rattle.lexical_flags.proofs.ByteParts.{masked_part}
use Rattle.lexical_flags.proofs.FlagBits.{flag_test}
use Rattle.lexical_flags.proofs.ReservedBits.{reserved_bits}

-- `FieldsMeet shape r` is `Meets shape` of each word with the fields `r`, if `shape` is one of fields. `reserved_zero` is
-- not.
abbrev pub FieldsMeet : Shape → Record → Type 0
FieldsMeet (radix_in_range byte) r = IsRadix (effective (r.byte byte) (r.byte layout.mantissa_radix))
FieldsMeet (absent_or_punctuation byte) r = IsAbsentOrPunctuation r (r.byte byte)
FieldsMeet roles_differ r = AreDisjoint (format_roles r)
FieldsMeet (not_both a b) r = IsFalse (r.flag a && r.flag b)
FieldsMeet (position_allowed part) r = IsFalse (lacks_position r part)
FieldsMeet reserved_zero r = ⊤

-- Two words agree in a flag, in a byte, and in all fields on which a shape depends.
abbrev pub SameFlag : ℕ → ℕ → Flag → Type 0
SameFlag v w f = (part v (bit f) 1 == 1) ≡ (part w (bit f) 1 == 1)

abbrev pub SameByte : ℕ → ℕ → Byte → Type 0
SameByte v w b = part v (shift b) 8 ≡ part w (shift b) 8

abbrev pub SameFields : ℕ → ℕ → Shape → Type 0
SameFields v w shape = AllByRecursion (SameFlag v w) (flags_read shape) × AllByRecursion (SameByte v w) (bytes_read shape)

-- In this section, the words `v` and `w` agree under a mask.
module _ (v w mask : ℕ) (same : bit_and v mask ≡ bit_and w mask) where
  -- The words agree under each part of the mask.
  part_of_mask : (m : ℕ) → bit_and mask m ≡ m → bit_and v m ≡ bit_and w m
  part_of_mask m inside = ap (bit_and v) (sym inside) ∙ sym (and_assoc m v mask) ∙ ap (λ n. bit_and n m) same ∙ and_assoc m w mask ∙ ap (bit_and w) inside

  -- The words agree in each flag and in each byte whose bits are in the mask.
  pub flag : (f : Flag) → bit_and mask (2 ^ bit f) ≡ 2 ^ bit f → SameFlag v w f
  flag f inside = sym (flag_test v (bit f)) ∙ ap (λ n. not (n == 0)) (part_of_mask (2 ^ bit f) inside) ∙ flag_test w (bit f)

  pub byte : (b : Byte) → bit_and mask ((2 ^ 8 - 1) * 2 ^ shift b) ≡ (2 ^ 8 - 1) * 2 ^ shift b → SameByte v w b
  byte b inside = sym (masked_part v (shift b) 8) ∙ ap (λ n. n / 2 ^ shift b) (part_of_mask ((2 ^ 8 - 1) * 2 ^ shift b) inside) ∙ masked_part w (shift b) 8

  pub flags_agree : (fs : List Flag) → list_all (λ f. bit_and mask (2 ^ bit f) == 2 ^ bit f) fs ≡ true → AllByRecursion (SameFlag v w) fs
  flags_agree [] inside = tt
  flags_agree (f ∷ fs) inside =
      let parts = and_parts _ _ inside in (flag f (eqb-true _ _ parts.0), flags_agree fs parts.1)

  pub bytes_agree : (bs : List Byte) → list_all (λ b. bit_and mask ((2 ^ 8 - 1) * 2 ^ shift b) == (2 ^ 8 - 1) * 2 ^ shift b) bs ≡ true
      → AllByRecursion (SameByte v w) bs
  bytes_agree [] inside = tt
  bytes_agree (b ∷ bs) inside =
      let parts = and_parts _ _ inside in (byte b (eqb-true _ _ parts.0), bytes_agree bs parts.1)

-- If two words agree in the fields on which a shape depends, then both meet it or neither meets it.
Meets-same : (v w : ℕ) (shape : Shape) → SameFields v w shape → FieldsMeet shape (raw v) ≡ FieldsMeet shape (raw w)
unfolding IsPunctuation
Meets-same v w (radix_in_range layout.mantissa_radix) (flags, (m, none)) = ap (λ m. IsRadix (effective m m)) m
Meets-same v w (radix_in_range byte) (flags, (b, (m, none))) = λ i. IsRadix (effective (b i) (m i))
Meets-same v w (absent_or_punctuation byte) (flags, (b, (m, (e, none)))) = λ i. (b i ≡ 0) ⊎ (IsTrue (allowed_ascii (b i))
    × (IsTrue (digits_of (m i) (b i) || digits_of (effective (e i) (m i)) (b i)) → ⊥) × (IsTrue (signs (b i)) → ⊥))
Meets-same v w roles_differ ((p, (s, none)), (separator, (prefix, (suffix, nothing)))) =
    λ i. AreDisjoint (cased true (separator i) ∷ cased (p i) (prefix i) ∷ cased (s i) (suffix i) ∷ [])
Meets-same v w (not_both a b) ((on, (other, none)), bytes) = λ i. IsFalse (on i && other i)
Meets-same v w (position_allowed part) ((between, (before, (after, (several, none)))), bytes) = grind (arith, nat_tests)
Meets-same v w reserved_zero same = refl

-- If two words agree in the bits that a rule reads, then the demands of the rule on both are equal.
Demands-same : (rule : Rule) (v w : ℕ) → bit_and v (mask_read rule) ≡ bit_and w (mask_read rule)
    → FieldsMeet (shape_of rule) (raw v) ≡ FieldsMeet (shape_of rule) (raw w)
Demands-same rule v w same = grind (arith, nat_tests, Meets-same, bytes_agree, shape_of, flags_agree)

-- If two words agree in the bits that a rule reads, and the first satisfies the rule, then so does the second.
pub kept_alike : (rule : Rule) (v w : ℕ) → bit_and v (mask_read rule) ≡ bit_and w (mask_read rule) → Holds rule v → Holds rule w
unfolding Holds
kept_alike rules.ReservedBitsAreZero v w same clean = (reserved_bits w).0 (subst (λ n. IsTrue (n == 0)) same ((reserved_bits v).1 clean))
kept_alike rule v w same h = subst (λ X. X) (Demands-same rule v w same) h
