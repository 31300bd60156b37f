-- The numbers, or the digits and the exponent, make the value.
use Rattle.std.proofs.Common.{rules}
use Rattle.lexical_value.proofs.Common.{exponent, false, format_of, number, places, raw, refl, round, ◌++◌, ◌≡◌}
use Rattle.lexical_value.proofs.FloatLemmas.{decimals, of_value}
use Rattle.lexical_value.proofs.float.decimal_size.Goals as goal

pub returns-in-Some-Some : goal.returns-in-Some-Some
returns-in-Some-Some g c = search (rules, decimals, of_value, round, format_of)

pub returns : goal.returns
returns g c =
    let r = raw c.args.literal.now.format in
    let l = c.args.literal.now.literal in
    let same = c.cut-parts.ensures.parts in
    let ten = decimals r c.requires in
    of_value (λ num den. g.F.Float.value c.decimal_to_float.result ≡ round (format_of g.F.Float.DOUBLE) false num den) r l _ _ _ (exponent r.byte l) _ _
    (λ j. number (ten.0 j) ((same j).integer ++ (same j).fraction)) ten.0 ten.1 refl
    (λ j. places (ten.0 j) (same j).fraction) c.has_negative_exponent-negative.ensures (c.decimal_to_float.ensures (exponent r.byte l) c.exponent_of.ensures)
