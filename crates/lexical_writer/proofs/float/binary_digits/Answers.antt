-- The digits are those of the float, which has the value of its bits.
use Rattle.lexical_writer.proofs.Common.{IsShape, ap, arith, digits_in, digits_of, effective_exponent_base, eqb-true, format_of, from_bits, inl, mod-eq_of_lt}
use Rattle.lexical_writer.proofs.Common.{mul-le-mul_left, number, number_digits_of, number_from_digits, one-le-pow, places, raw, subst, sym, length}
use Rattle.lexical_writer.proofs.Common.{is_power_of_two, ℕ, ◌%◌, ◌*◌, ◌<◌, ◌^◌, ◌∙◌, ◌≡◌, ◌≤◌}
use Rattle.lexical_util.specs.Layout as layouts
use Rattle.lexical_number.proofs.ReadLemmas.{whole_is}
use Rattle.lexical_writer.proofs.FloatLemmas.{binary_radixes, twos}
use Rattle.lexical_writer.proofs.float.binary_digits.Goals as goal

pub binary_powers-powers-requires-clause-radixes : goal.binary_powers-powers-requires-clause-radixes
binary_powers-powers-requires-clause-radixes c =
    let word = c.view-format.ensures.word ∙ c.format.ensures.word in
    let it = binary_radixes (raw c.args.syntax.now.word) c.requires.supported c.requires.radix in (
      ap is_power_of_two (c.mantissa_radix-radix.ensures.value ∙ ap (λ w. (raw w).byte layouts.mantissa_radix) word) ∙ it.0,
      ap is_power_of_two (c.exponent_base-base.ensures.value ∙ ap (λ w. effective_exponent_base (raw w)) word) ∙ it.1,
    )

shifted : (n moved width : ℕ) → n < 2 ^ 53 → moved < width → width ≤ 5 → n * 2 ^ moved % 2 ^ 64 ≡ n * 2 ^ moved
shifted n moved width small less few = mod-eq_of_lt (omega (arith, mul-le-mul_left n (twos moved 5 (omega (arith, less, few))), small))

pub returns : goal.returns
returns c =
    let s = c.args.syntax.now in
    let R = (raw s.word).byte layouts.mantissa_radix in
    let it = c.binary_powers-powers.result in
    let made = c.binary_powers-powers.ensures in
    let num = it.number * it.base ^ it.power in
    let den = it.base ^ it.zero in
    let moved = c.shape-moved.result.0 in
    let shape = c.shape-moved.result.1 in
    let bytes = c.put_word.result.now in
    let word = c.view-format.ensures.word ∙ c.format.ensures.word in
    let radix : c.mantissa_radix-radix.result ≡ R = c.mantissa_radix-radix.ensures.value ∙ ap (λ w. (raw w).byte layouts.mantissa_radix) word in
    let two : 2 ≤ R = subst (λ r. 2 ≤ r) (sym made.bases.1 ∙ radix) (let power = twos 1 it.width it.bases.1 in omega (arith, power)) in
    let units : number R bytes * R ^ shape.after ≡ it.number * it.base ^ moved * R ^ shape.after =
    ap (λ m. m * R ^ shape.after) (ap (number_from_digits R) (subst (λ k. digits_in k bytes ≡ digits_of k (it.number * 2 ^ moved % 2 ^ 64)) radix
    c.put_word.ensures.digits) ∙ number_digits_of R _ two ∙ shifted it.number moved it.width made.limit c.shape-moved.ensures.moved it.bases.2
    ∙ ap (λ b. it.number * b ^ moved) (sym made.bases.0)) in
    let some = one-le-pow it.zero it.base (let two = it.bases.0 in omega (arith, two)) in
    let size = made.size in (
      num,
      den,
      record {
        some = some;
        near = λ _. size.near.0;
        exact = inl size.value;
        whole = λ is. eqb-true _ _ (sym (whole_is (from_bits (format_of c.args.double) c.args.size) _ num den some size.value) ∙ is);
      },
      subst (IsShape s c.args.style num den shape.exponent shape.places) (sym units) c.shape-moved.ensures.shape,
      subst (λ r. places r bytes ≡ length bytes) radix c.put_word.ensures.places,
    )
