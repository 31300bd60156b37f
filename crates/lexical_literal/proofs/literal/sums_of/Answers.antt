-- The digits of the fraction follow those of the integer.
use Rattle.lexical_literal.proofs.Common.{ap, mod-mod, ◌%◌, ◌+◌, ◌^◌, ◌∙◌}
use Rattle.lexical_literal.proofs.MantissaLemmas.{both_digits, both_sums}
use Rattle.lexical_literal.proofs.literal.sums_of.Goals as goal

pub returns-clause-mantissa : goal.returns-clause-mantissa
returns-clause-mantissa c =
    let radix = c.args.radix in
    let x = c.args.parts.now.integer.now in
    let y = c.args.parts.now.fraction.now in
    record {
      digits = both_digits radix x y c.count.result (c.count.result + c.count-places.result) c.count.ensures.value
          (λ j. c.count.result + c.count-places.ensures.value j);
      value = both_sums radix x y c.add_all.result c.add_all-2.result (ap (λ n. n % 2 ^ 64) c.add_all.ensures ∙ mod-mod _ (2 ^ 64))
          (ap (λ n. n % 2 ^ 64) c.add_all-2.ensures ∙ mod-mod _ (2 ^ 64));
    }
