-- The highest bit becomes bit 127, and then bit 55.
use Rattle.lexical_number.proofs.Common.{ap, arith, count_leading_zeros, leading_top, lt_of_mul-lt-mul_right, lt_of_not-le, mod-eq_of_lt, mul-le-mul_right}
use Rattle.lexical_number.proofs.Common.{nat_tests, pow-add, pow_mono, pow_pos, suc, sym, true, ℕ, ◌%◌, ◌*◌, ◌+◌, ◌-◌, ◌/◌, ◌<◌, ◌^◌, ◌∙◌, ◌≡◌, ◌≤◌}
use Rattle.lexical_number.proofs.BinaryLemmas.{to_top}
use Rattle.lexical_number.proofs.LeadingLemmas.{multiple}
use Rattle.lexical_number.proofs.binary.leading_word.Goals as goal

module _ (c : goal.Start) where
  abbrev zeros : ℕ
  zeros = count_leading_zeros 128 c.args.digits

  abbrev lifted : ℕ
  lifted = c.args.digits * 2 ^ zeros

  abbrev word : ℕ
  word = lifted % 2 ^ 128 / 2 ^ 72

  is : (2 ^ 127 ≤ lifted) × (lifted < 2 ^ 128)
  is = let t = leading_top 128 c.args.digits c.requires.digits (omega arith) in to_top c.args.digits t.0 zeros 127 t.2 t.3 (omega (arith, t.1))

  kept : lifted % 2 ^ 128 ≡ lifted
  kept = mod-eq_of_lt is.1

  -- If more follows, the bits that are dropped are whole units.
  below : c.args.more ≡ true → (c.args.digits + 1) * 2 ^ zeros ≤ (word + 1) * 2 ^ 72
  below more =
      let t = leading_top 128 c.args.digits c.requires.digits (omega arith) in
      let long : 55 < suc t.0 = lt_of_not-le (λ g. let p : 2 ^ suc t.0 ≤ 2 ^ 55 = pow_mono g in omega (arith, c.requires.more more, t.3)) in
      let unit : 2 ^ (72 - zeros) * 2 ^ zeros ≡ 2 ^ 72 =
      sym (pow-add 2 (72 - zeros) zeros) ∙ ap (λ k. 2 ^ k) {x = 72 - zeros + zeros} {y = 72} (omega (arith, t.1)) in
      let parts : (word + 1) * 2 ^ (72 - zeros) * 2 ^ zeros ≡ (word + 1) * 2 ^ 72 = omega (arith, ap (λ u. (word + 1) * u) unit) in
      let less : c.args.digits < (word + 1) * 2 ^ (72 - zeros) = lt_of_mul-lt-mul_right (2 ^ zeros) (omega (arith, kept, parts)) in
      omega (arith, parts, mul-le-mul_right (2 ^ zeros) less)

pub returns-clause-top : goal.returns-clause-top
returns-clause-top c = let i = is c in omega (arith, kept c)

pub returns-clause-value : goal.returns-clause-value
returns-clause-value c n unit U cut =
    let same = kept c in
    multiple n c.args.digits unit (2 ^ zeros c) (2 ^ 72) (word c) (pow_pos (zeros c)) U (omega arith) c.args.more _ (λ _. omega arith) (below c)
    (grind (arith, nat_tests)) cut
