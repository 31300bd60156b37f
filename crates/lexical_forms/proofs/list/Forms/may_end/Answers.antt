-- What has been tested of the first form.
use Rattle.lexical_forms.proofs.Common.{arith, get_or, nat_tests, slice_get-get_or, subst}
use Rattle.lexical_forms.specs.Additions.Token.{MayEnd}
use Rattle.lexical_forms.proofs.list.Forms.may_end.Goals as goal

pub returns : goal.returns
returns c _ =
    let inside = c.self.inside in
    subst MayEnd c.self.view_is (record {
      form = get_or inside.forms.now 0 c.index-self-0.result;
      at = slice_get-get_or inside.forms.now 0 c.index-self-0.result c.self.invariant.0;
      bare = let empty = c.is_empty.ensures in let off = c.if-not-is_empty.false in grind (arith, nat_tests);
      decimal = c.is_decimal.ensures.radix (let off = c.if-not-is_decimal.false in grind arith);
      usual = c.is_decimal.ensures.usual (let off = c.if-not-is_decimal.false in grind arith);
      lets = c.self.invariant.2 (let off = c.if-not-self.false in grind arith);
    })
