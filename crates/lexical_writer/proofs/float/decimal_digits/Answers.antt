-- The digits are those of the decimal number, which is read as the float.
use Rattle.lexical_writer.proofs.Common.{IsShape, ap, arith, format_of, inr, length, mul-mod_left, number, number_digits_of, number_from_digits, one-le-pow, places}
use Rattle.lexical_writer.proofs.Common.{pow-zero, raised_down, raised_up, raw, round_same, subst, sym, ◌%◌, ◌*◌, ◌^◌, ◌∙◌, ◌≡◌}
use Rattle.lexical_util.specs.Layout as layouts
use Rattle.lexical_writer.proofs.FloatLemmas.{some_down}
use Rattle.lexical_writer.proofs.float.decimal_digits.Goals as goal

pub returns : goal.returns
returns c =
    let s = c.args.syntax.now in
    let decimal = c.shortest-decimal in
    let d = decimal.result.digits in
    let minus = decimal.result.negative in
    let e = decimal.result.exponent in
    let it = c.decimal_powers.result in
    let made = c.decimal_powers.ensures in
    let moved = c.shape.result.0 in
    let shape = c.shape.result.1 in
    let bytes = c.put_word-bytes.result.now in
    let num = it.number * it.base ^ it.power in
    let den = it.base ^ it.zero in
    let radix = c.requires.radix.0 in
    let some = one-le-pow it.zero it.base (let two = it.bases.0 in omega (arith, two)) in
    let still : it.base ^ moved ≡ 1 = ap (λ k. it.base ^ k) {x = moved} {y = 0} (omega (arith, c.shape.ensures.moved, made.bases.1)) ∙ pow-zero it.base in
    let units : number ((raw s.word).byte layouts.mantissa_radix) bytes * (raw s.word).byte layouts.mantissa_radix ^ shape.after
    ≡ it.number * it.base ^ moved * (raw s.word).byte layouts.mantissa_radix ^ shape.after =
    ap (λ n. n * (raw s.word).byte layouts.mantissa_radix ^ shape.after) ((λ i. number (radix i) bytes)
    ∙ ap (number_from_digits 10) c.put_word-bytes.ensures.digits ∙ number_digits_of 10 d (omega arith) ∙ sym made.number
    ∙ omega (arith, ap (λ q. it.number * q) still)) in (
      num,
      den,
      record {
        some = some;
        near = λ _. decimal.ensures.near.0 ∙ round_same (format_of c.args.double) _ (d * raised_up minus 10 e) (raised_down minus 10 e) num den
            (some_down minus 10 e (omega arith)) some (omega (arith, made.value));
        exact = inr (c.requires.plain, radix);
        whole = λ is. ap (λ n. n % den) (omega (
          arith,
          subst (λ minus. num * raised_down minus 10 e ≡ d * raised_up minus 10 e * den)
              (decimal.ensures.whole is) made.value,
        )) ∙ mul-mod_left (d * 10 ^ e) den;
      },
      subst (IsShape s c.args.style num den shape.exponent shape.places) (sym units) c.shape.ensures.shape,
      subst (λ r. places r bytes ≡ length bytes) (sym radix) c.put_word-bytes.ensures.places,
    )
