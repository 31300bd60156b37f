-- Grouped digits.
use Rattle.lexical_writer.proofs.Common.{AllBelowBase, Bool, ByteSet, List, Notation, Part, Pattern, [], all_below_base_digits_of, and_from, ap, arith}
use Rattle.lexical_writer.proofs.Common.{at_least, byte_value, cases_lt, character, digits_of, ends_group, false, false≢true, first_digits_of}
use Rattle.lexical_writer.proofs.Common.{get_or, grouped, has_leading_zero, inl, inr, is_grouped, length, mod-mul-add, nat_tests, refl, separators_in, subst}
use Rattle.lexical_writer.proofs.Common.{suc, sym, true, zero, ℕ, ◌%◌, ◌*◌, ◌+◌, ◌-◌, ◌<◌, ◌==◌, ◌∙◌, ◌∷◌, ◌≡◌, ◌≤◌}
use Rattle.lexical_writer.proofs.Common.{eq-eqb, if◌then◌else◌, lt-ltb, nat_le, nat_lt, ◌&&◌}
use Rattle.std.proofs.Common.{le-leb}
use Rattle.lexical_literal.specs.Groups.{all_fit, group_sizes, higher, rest_fits}
use Rattle.lexical_literal.specs.declared.syntax.Condition.TheVariants as conditions
use Rattle.lexical_literal.proofs.RunLemmas.{is_rest}
use Rattle.lexical_writer.proofs.DigitLemmas.{character_value, enough}

-- `Between m part pattern` holds if the separator of `pattern` may be between digits of `part`, where there are groups.
abbrev pub Between : Notation → Part → Pattern → Type 0
Between m part pattern = 0 < pattern.higher
    → (m.separator pattern.separator ≡ true) × (m.flag (separators_in part).internal ≡ true) × (m.digit part pattern.separator ≡ false)

module _ (m : Notation) (part : Part) (radix : ℕ) (pattern : Pattern)
    (digit : (d : ℕ) → d < radix → m.digit part (character pattern.lowercase d) ≡ true) (between : Between m part pattern) where
  -- `Follows h g digits` holds if `digits` may follow a separator between digits, if `g` is true.
  abbrev Follows : Bool → Bool → List ℕ → Type 0
  Follows h g digits = g ≡ true → (h ≡ true) × (0 < length digits) × (m.flag (separators_in part).internal ≡ true)

  next : (d : ℕ) (digits : List ℕ) (h g : Bool) → m.digit part (character pattern.lowercase d) ≡ true → Follows h g (d ∷ digits)
      → is_rest m part true false (grouped pattern digits) ≡ true
      → (ends_group pattern (length digits) ≡ true → (m.separator pattern.separator ≡ true) × (m.digit part pattern.separator ≡ false)
      × (is_rest m part true true (grouped pattern digits) ≡ true))
      → is_rest m part h g (grouped pattern (d ∷ digits)) ≡ true
  next d digits h g first follows rest more = grind arith

  pub grouped_rest : (digits : List ℕ) (h g : Bool) → AllBelowBase radix digits → Follows h g digits
      → is_rest m part h g (grouped pattern digits) ≡ true
  grouped_rest [] h true all follows = absurd (omega (arith, (follows refl).1))
  grouped_rest [] h false all follows = refl
  grouped_rest (d ∷ digits) h g all follows =
      next d digits h g (digit d all.0) follows (grouped_rest digits true false all.1 (λ is. absurd (false≢true is)))
      (λ ends. let has = between (grind (arith, nat_tests)) in
      (has.0, has.2, grouped_rest digits true true all.1 (λ is. (refl, grind (arith, nat_tests), has.1))))

-- `one_more counts` is `counts` with 1 added to the first.
abbrev one_more : List ℕ → List ℕ
one_more [] = []
one_more (count ∷ counts) = (count + 1) ∷ counts

more_first : (S : ByteSet) (n : ℕ) (bytes : List ℕ) → group_sizes S (n + 1) bytes ≡ one_more (group_sizes S n bytes)
more_first S n [] = refl
more_first S n (b ∷ bytes) = go (S b) (more_first S (n + 1) bytes) where
  go : (t : Bool) → group_sizes S (n + 1 + 1) bytes ≡ one_more (group_sizes S (n + 1) bytes)
      → (if t then (n + 1) ∷ group_sizes S 0 bytes else group_sizes S (n + 1 + 1) bytes)
      ≡ one_more (if t then n ∷ group_sizes S 0 bytes else group_sizes S (n + 1) bytes)
  go true rest = refl
  go false rest = rest

module _ (m : Notation) (radix : ℕ) (pattern : Pattern) (digit : (d : ℕ) → d < radix → m.separator (character pattern.lowercase d) ≡ false) where
  -- `sizes digits` are the sizes of the groups in which `digits` are written.
  abbrev sizes : List ℕ → List ℕ
  sizes digits = group_sizes m.separator 0 (grouped pattern digits)

  -- One more digit is in the first group, or in a new one where that ends.
  next_inside : (d : ℕ) (digits : List ℕ) → d < radix → ends_group pattern (length digits) ≡ false → sizes (d ∷ digits) ≡ one_more (sizes digits)
  next_inside d digits below inside = let is = digit d below in rw (is, inside) (more_first m.separator 0 (grouped pattern digits))

  -- Without groups, there is one.
  pub single : (digits : List ℕ) → AllBelowBase radix digits → pattern.higher ≡ 0 → sizes digits ≡ length digits ∷ []
  single [] all none = refl
  single (d ∷ digits) all none =
      let inside : ends_group pattern (length digits) ≡ false = grind (arith, nat_tests) in
      let more : length digits + 1 ≡ length (d ∷ digits) = omega arith in
      next_inside d digits all.0 inside ∙ ap one_more (single digits all.1 none) ∙ ap (λ n. n ∷ []) more

  pub single_fits : (digits : List ℕ) → AllBelowBase radix digits → pattern.higher ≡ 0 → is_grouped m (grouped pattern digits) ≡ true
  single_fits digits all none = ap (all_fit m) (single digits all none)

  module _ (own : m.separator pattern.separator ≡ true) (is_last : pattern.last ≡ m.number conditions.IntegerGroupSize)
      (is_higher : pattern.higher ≡ higher m) (two : 0 < pattern.last) (some : 0 < pattern.higher) where
    next_outside : (d : ℕ) (digits : List ℕ) → d < radix → ends_group pattern (length digits) ≡ true → sizes (d ∷ digits) ≡ 1 ∷ sizes digits
    next_outside d digits below outside = let is = digit d below in rw (is, outside, own) refl

    -- Behind the first group of `count` digits are `inner` groups before the last one.
    pub record Fits (left count : ℕ) (counts : List ℕ) : Type 0 where
      pub inner : ℕ
      pub within : (0 < count) × (count ≤ pattern.higher)
      pub total : left ≡ inner * pattern.higher + count + pattern.last
      pub rest : rest_fits m counts ≡ true

    -- The groups of `left` digits: the last one alone, or others, too.
    abbrev pub State : ℕ → List ℕ → Type 0
    State left [] = ⊥
    State left (count ∷ []) = (count ≡ left) × (0 < left) × (left ≤ pattern.last)
    State left (count ∷ next ∷ counts) = Fits left count (next ∷ counts)

    ends : (p k n : ℕ) → n ≡ p * pattern.higher + k + pattern.last → k ≡ 0 → ends_group pattern n ≡ true
    ends p k n total none = grind (arith, nat_tests, mod-mul-add)

    pub state : (d : ℕ) (digits : List ℕ) → AllBelowBase radix (d ∷ digits) → State (length (d ∷ digits)) (sizes (d ∷ digits))
    state d [] all = let is = digit d all.0 in rw is (refl, omega arith, omega arith)
    state d (e ∷ digits) all =
        subst (λ k. State k (sizes (d ∷ e ∷ digits))) (omega arith) (go (sizes (e ∷ digits)) refl (state e digits all.1)) where
          n : ℕ
          n = length (e ∷ digits)

          go : (counts : List ℕ) → sizes (e ∷ digits) ≡ counts → State n counts → State (n + 1) (sizes (d ∷ e ∷ digits))
          go [] are is = absurd is
          go (count ∷ []) are is =
              elim (cases_lt n pattern.last) [
                | inl part ↦
                    let inside : ends_group pattern n ≡ false = grind (arith, nat_tests) in
                    subst (State (n + 1)) (sym (next_inside d (e ∷ digits) all.0 inside ∙ ap one_more are))
                    (omega (arith, is.0), omega arith, omega (arith, part))
                | inr whole ↦
                    let same : n ≡ 0 * pattern.higher + 0 + pattern.last = omega (arith, whole, is.2) in
                    let fits = eq-eqb count (m.number conditions.IntegerGroupSize) (omega (arith, whole, is.0, is.2, is_last)) in
                    subst (State (n + 1)) (sym (next_outside d (e ∷ digits) all.0 (ends 0 0 n same (refl)) ∙ ap (λ counts. 1 ∷ counts) are))
                    (record { inner = 0; within = (omega arith, omega arith); total = omega (arith, same); rest = fits })
              ]
          go (count ∷ next ∷ counts) are is =
              elim (cases_lt count pattern.higher) [
                | inl part ↦
                    let place : (n - pattern.last) % pattern.higher ≡ count =
                    ap (λ n. n % pattern.higher) {y = is.inner * pattern.higher + count} (omega (arith, is.total))
                    ∙ mod-mul-add is.inner pattern.higher count part in
                    let inside : ends_group pattern n ≡ false = let positive = is.within.0 in grind (arith, nat_tests) in
                    subst (State (n + 1)) (sym (next_inside d (e ∷ digits) all.0 inside ∙ ap one_more are))
                    (record { inner = is.inner; within = (omega arith, omega (arith, part)); total = omega (arith, is.total); rest = is.rest })
                | inr whole ↦
                    let full : count ≡ pattern.higher = omega (arith, whole, is.within.1) in
                    let same : n ≡ (is.inner + 1) * pattern.higher + 0 + pattern.last = omega (arith, is.total, full) in
                    let fits = eq-eqb count (higher m) (full ∙ is_higher) in
                    subst (State (n + 1)) (sym (next_outside d (e ∷ digits) all.0 (ends (is.inner + 1) 0 n same refl) ∙ ap (λ counts. 1 ∷ counts) are))
                    (record { inner = is.inner + 1; within = (omega arith, omega arith); total = omega (arith, same); rest = and_from _ _ fits is.rest })
              ]

    fit : (n : ℕ) (counts : List ℕ) → State n counts → all_fit m counts ≡ true
    fit n [] is = absurd is
    fit n (count ∷ []) is = refl
    fit n (count ∷ next ∷ counts) is = and_from (nat_lt 0 count && nat_le count (higher m)) (rest_fits m (next ∷ counts))
        (and_from (nat_lt 0 count) _ (lt-ltb 0 count is.within.0) (le-leb count (higher m) (omega (arith, is.within.1, is_higher)))) is.rest

    -- Digits in groups of the required sizes are in groups.
    pub right_groups : (digits : List ℕ) → AllBelowBase radix digits → is_grouped m (grouped pattern digits) ≡ true
    right_groups [] all = refl
    right_groups (d ∷ digits) all = fit _ _ (state d digits all)

-- A number is written without leading zeros.
pub no_leading_zero : (D : ByteSet) (radix least : ℕ) (pattern : Pattern) (n : ℕ) → least ≤ 1 → 2 ≤ radix → radix ≤ 36
    → ((d : ℕ) → d < radix → D (character pattern.lowercase d) ≡ true)
    → has_leading_zero D (grouped pattern (at_least least (digits_of radix n))) ≡ false
no_leading_zero D radix least pattern zero most two small digit = none least most
  where
    none : (least : ℕ) → least ≤ 1 → has_leading_zero D (grouped pattern (at_least least [])) ≡ false
    none zero most = refl
    none (suc zero) most = grind arith
    none (suc (suc k)) most = absurd (omega (arith, most))
no_leading_zero D radix least pattern (suc n) most two small digit =
    go (digits_of radix (suc n)) (all_below_base_digits_of radix (suc n) two) (first_digits_of radix (suc n) two (omega arith))
  where
    go : (digits : List ℕ) → AllBelowBase radix digits → 0 < get_or digits 0 0 → has_leading_zero D (grouped pattern (at_least least digits)) ≡ false
    go [] all some = absurd (omega (arith, some))
    go (d ∷ digits) all some =
        let first = digit d all.0 in
        let value = character_value pattern.lowercase d (omega (arith, small, all.0)) in
        let zero_is : byte_value 48 ≡ 0 = character_value false 0 (omega arith) in
        let other : (character pattern.lowercase d == 48) ≡ false = grind (arith, nat_tests) in
        ap (λ digits. has_leading_zero D (grouped pattern digits)) (enough least (d ∷ digits) (omega (arith, most))) ∙ grind arith
