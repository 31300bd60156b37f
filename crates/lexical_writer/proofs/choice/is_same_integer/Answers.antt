-- Both literals are worth the same integer: the digits are the same bytes, of the same radix.
use Rattle.lexical_writer.proofs.Common.{Bool, IsFalse, IsWhole, Read, Some, ap, arith, bytes_decides, integer_worth, is_float, magnitude_size, number, raw}
use Rattle.lexical_writer.proofs.Common.{refl, subst, sym, with_sign, ℕ, ℤ, ◌∙◌, ◌≡◌}
use Rattle.lexical_writer.proofs.choice.is_same_integer.Goals as goal

worth_is : (read : Read) (s : Bool) (n : ℕ) (z : ℤ) → IsFalse (is_float read.literal)
    → integer_worth read.kind.integers (raw read.format).byte read.literal ≡ Some (s, n) → z ≡ with_sign s n → IsWhole z read
worth_is read s n z whole is same = grind arith

pub returns-then-radix-base : goal.returns-then-radix-base
returns-then-radix-base c equal =
    let it = c.in-Ok-Ok in
    let of = c.in-Digits-Digits in
    let bytes = (bytes_decides of.bytes.now of.digits.now).0 (sym c.eq.ensures ∙ equal) in
    let radix : of.radix ≡ of.base = c.if-radix-base.true.1 in
    let size : magnitude_size it.own.magnitude ≡ magnitude_size it.numeral.magnitude =
    ap magnitude_size of.is-0 ∙ subst (λ k. number of.radix of.bytes.now ≡ number k of.bytes.now) radix refl ∙ ap (number of.base) bytes
    ∙ sym (ap magnitude_size of.is-1) in
    let sign : it.own.negative ≡ it.numeral.negative = grind (arith, c.if-radix-base.true.0) in
    let own = it.ensures in let other = it.ensures' in (
      with_sign it.own.negative (magnitude_size it.own.magnitude),
      worth_is c.args.own.now it.own.negative (magnitude_size it.own.magnitude) _ own.0 own.1 refl,
      worth_is c.args.literal.now it.numeral.negative (magnitude_size it.numeral.magnitude) _ other.0 other.1
          (ap (λ s. with_sign s (magnitude_size it.own.magnitude)) sign ∙ ap (with_sign it.numeral.negative) size),
    )
