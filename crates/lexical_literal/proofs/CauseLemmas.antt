-- The flags of masks, and the bytes to show.
use Rattle.lexical_literal.proofs.Common.{Bool, ByteSet, Flag, List, Notation, Record, SEPARATORS, [], and_assoc, ap, arith, bare, bit, bit_and, bit_not}
use Rattle.lexical_literal.proofs.Common.{bit_or, cases_Bool, eqb-true, false, false≢true, flag_bits, if◌then◌else◌, index_behind, inl, inr, is_one_of, length}
use Rattle.lexical_literal.proofs.Common.{list_any, list_any-append, mask_of, mod-lt, nat_tests, no_condition, not, number_separator_flags, or_parts, part, raw}
use Rattle.lexical_literal.proofs.Common.{refl, requirement_flags, sum_by, sym, true, w128, with_rules, ℕ, ◌&&◌, ◌++◌, ◌+◌, ◌<◌, ◌==◌, ◌^◌, ◌||◌, ◌∙◌, ◌∷◌, ◌≡◌}
use Rattle.lexical_literal.specs.Additions.Explained.{leading_zero_flags}
use Rattle.lexical_literal.specs.Cause.{flag_at}
use Rattle.std.proofs.lemmas.Nat.Bits.{bit_at-pow_other, bit_at-pow_same, bit_at-zero, bit_at_and, bit_at_not, bit_at_or}
use Rattle.lexical_util.specs.Groups.{bits_of}
use Rattle.lexical_util.specs.Record.{word_of}
use Rattle.lexical_util.specs.Layout as layout
use Rattle.lexical_util.proofs.ViewLemmas.{bits_by_mask}
use Rattle.lexical_flags.proofs.Packing.{raw-word_of}
use Rattle.lexical_flags.specs.declared.format_flags.TheConstants.{FLAG_MASK}
use Rattle.lexical_literal.specs.declared.cause.TheConstants.{FLOAT_REQUIREMENTS, REQUIREMENTS, ZEROS}

-- FLAGS

flag_at_bit : (f : Flag) → flag_at (bit f) ≡ f
flag_at_bit x0 = grind arith

-- Two flags with the same bit are one.
pub same_flag : (g f : Flag) → bit g ≡ bit f → g ≡ f
same_flag g f same = sym (flag_at_bit g) ∙ ap flag_at same ∙ flag_at_bit f

-- An item of a list for which a test is true.
pub found_in : {X : Type 0} (P : X → Bool) (xs : List X) → list_any P xs ≡ true → (x : X) × (P x ≡ true)
found_in P [] is = absurd (false≢true is)
found_in P (x ∷ xs) is = elim (cases_Bool (P x)) [
  | inl here ↦ (x, here)
  | inr other ↦ found_in P xs (ap (λ t. t || list_any P xs) (sym other) ∙ is)
]

module _ (P : Flag → Bool) where
  none_in : (fs : List Flag) (f : Flag) → list_any P fs ≡ false → is_one_of fs f ≡ true → P f ≡ false
  none_in [] f none is = absurd (false≢true is)
  none_in (g ∷ fs) f none is =
      let both = or_parts (P g) (list_any P fs) none in elim (cases_Bool (bit g == bit f)) [
        | inl same ↦ ap P (sym (same_flag g f (eqb-true (bit g) (bit f) same))) ∙ both.0
        | inr other ↦ none_in fs f both.1 (ap (λ t. t || is_one_of fs f) (sym other) ∙ is)
      ]

-- THE FLAGS OF MASKS

pub bit_below : (f : Flag) → bit f < 45
bit_below x0 = grind arith

pub bit_small : (n k : ℕ) → part n k 1 < 2
bit_small n k = mod-lt _ (omega arith)

module _ (f : Flag) where
  pub flag_and : (a b : ℕ) → (raw (bit_and a b)).flag f ≡ ((raw a).flag f && (raw b).flag f)
  flag_and a b = let bits = bit_at_and a b (bit f) in let one = bit_small a (bit f) in let two = bit_small b (bit f) in grind (arith, nat_tests)

  pub flag_or : (a b : ℕ) → (raw (bit_or a b)).flag f ≡ ((raw a).flag f || (raw b).flag f)
  flag_or a b = let bits = bit_at_or a b (bit f) in let one = bit_small a (bit f) in let two = bit_small b (bit f) in grind (arith, nat_tests)

  pub flag_not : (a : ℕ) → a < 2 ^ 128 → (raw (bit_not w128 a)).flag f ≡ not ((raw a).flag f)
  flag_not a fits = let bits = bit_at_not w128 a (bit f) fits (omega (arith, bit_below f)) in let one = bit_small a (bit f) in grind (arith, nat_tests)

  pub flag_zero : (raw 0).flag f ≡ false
  flag_zero = ap (λ n. n == 1) (bit_at-zero (bit f))

  pub flag_pow : (k : ℕ) → (raw (2 ^ k)).flag f ≡ (bit f == k)
  flag_pow k = let same = bit_at-pow_same k in let other = bit_at-pow_other k (bit f) in grind (arith, nat_tests)

pub requirement_mask : (f : Flag) → (raw REQUIREMENTS).flag f ≡ is_one_of requirement_flags f
requirement_mask x0 = grind arith

pub float_mask : (f : Flag) → (raw FLOAT_REQUIREMENTS).flag f ≡ (is_one_of requirement_flags f && not (bit f == 12))
float_mask x0 = grind arith

pub zeros_mask : (f : Flag) → (raw ZEROS).flag f ≡ is_one_of leading_zero_flags f
zeros_mask x0 = grind arith

pub separators_mask : (f : Flag) → (raw SEPARATORS).flag f ≡ is_one_of number_separator_flags f
separators_mask x0 = grind arith

-- The flags of a word without requirements.
pub bare_flags : (word : ℕ) (f : Flag) → (raw (bit_and word (bit_not w128 REQUIREMENTS))).flag f ≡ ((raw word).flag f && not (is_one_of requirement_flags f))
bare_flags word f = grind (arith, flag_and, flag_not)

-- Two sets of flags that have the same flags have the same mask.
pub same_mask : (P Q : Flag → Bool) → ((f : Flag) → P f ≡ Q f) → mask_of P ≡ mask_of Q
same_mask P Q same = λ j. mask_of (λ f. same f j)

-- The flags of the mask of some flags are these flags.
pub mask_flags : (P : Flag → Bool) (f : Flag) → (raw (mask_of P)).flag f ≡ P f
mask_flags P f = ap (λ (r : Record). r.flag f) (raw-word_of (record { flag = P; byte = λ b. 0 }) (record { each = λ b. omega arith }))

mask_sum : (P : Flag → Bool) → sum_by (λ f. if P f then 2 ^ bit f else 0) layout.flags ≡ mask_of P
unfolding word_of
mask_sum P = omega arith

pub only_mask : (P : Flag → Bool) → mask_of P ≡ sum_by (flag_bits (raw (mask_of P))) layout.flags
only_mask P = sym (mask_sum P) ∙ (λ j. sum_by (λ f. if sym (mask_flags P f) j then 2 ^ bit f else 0) layout.flags)

-- A mask without the bits that are not those of flags.
pub masked : (mask : ℕ) (P : Flag → Bool) → ((f : Flag) → (raw mask).flag f ≡ P f) → bit_and mask FLAG_MASK ≡ mask_of P
unfolding bits_of
masked mask P each = bits_by_mask mask FLAG_MASK layout.flags refl refl ∙ (λ j. sum_by (λ f. if each f j then 2 ^ bit f else 0) layout.flags) ∙ mask_sum P

-- A mask whose other bits a mask of flags clears.
pub masked_by : (mask list : ℕ) (P : Flag → Bool) → bit_and list FLAG_MASK ≡ list → ((f : Flag) → (raw (bit_and mask list)).flag f ≡ P f)
    → bit_and mask list ≡ mask_of P
masked_by mask list P only each = ap (bit_and mask) (sym only) ∙ sym (and_assoc FLAG_MASK mask list) ∙ masked (bit_and mask list) P each

pub no_mask : mask_of (λ f. false) ≡ 0
no_mask = sym (mask_sum (λ f. false))

module _ (P : Flag → Bool) where
  -- A mask that is 0 has no flag, and another one has one.
  pub none_of : (mask_of P == 0) ≡ true → (f : Flag) → P f ≡ false
  none_of zero f = sym (mask_flags P f) ∙ ap (λ n. (raw n).flag f) (eqb-true (mask_of P) 0 zero) ∙ flag_zero f

  pub some_of : (mask_of P == 0) ≡ false → (f : Flag) × (P f ≡ true)
  some_of some = elim (cases_Bool (list_any P layout.flags)) [
    | inl is ↦ found_in P layout.flags is
    | inr none ↦
        absurd (false≢true (sym some ∙ ap (λ n. n == 0) (same_mask P (λ f. false) (λ f. none_in P layout.flags f none (grind arith)) ∙ no_mask)))
  ]

-- A mask of one flag, if `t` is true.
pub one_flag : (t : Bool) (k : ℕ) (f : Flag) → (raw (if t then 2 ^ k else 0)).flag f ≡ (t && (bit f == k))
one_flag x0 k f = grind (arith, flag_pow)

-- A bit that a mask has not.
pub is_unset : (n k : ℕ) → bit_and n (2 ^ k) ≡ 0 → part n k 1 ≡ 0
is_unset n k none = omega (arith, bit_small n k, bit_at-pow_same k, bit_at_and n (2 ^ k) k, ap (λ n. part n k 1) none, bit_at-zero k)

-- A mask as the flags of a notation.
pub as_bare : (m : Notation) (mask : ℕ) → ((f : Flag) → (raw mask).flag f ≡ (bare m).flag f) → with_rules m (raw mask).flag no_condition ≡ bare m
as_bare m mask each = λ j. with_rules m (λ f. each f j) no_condition

-- THE BYTES TO SHOW

module _ (A : ByteSet) where
  pub behind_more : (text : List ℕ) (byte : ℕ) → index_behind A (text ++ byte ∷ []) ≡ (if A byte then length text + 1 else index_behind A text)
  behind_more [] byte = grind arith
  behind_more (b ∷ text) byte = let more = behind_more text byte in let any = list_any-append A text (byte ∷ []) in grind arith
