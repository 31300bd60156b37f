use Rattle.std.proofs.Common.{arith}
use Rattle.std.proofs.lemmas.Fmt.{length-decimal-le}
use Rattle.lexical_base.proofs.short_text.ShortText.decimal.Goals as goal

pub returns : goal.returns
returns c fits =
    let wide = c.ranges.n.fits in
    c.put_decimal.ensures (omega (arith, fits, length-decimal-le 20 c.args.n (omega arith) (omega (arith, wide)) wide))
