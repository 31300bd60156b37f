-- The loop reads the text, byte by byte.
use Rattle.lexical_literal.proofs.Common.{ap, arith, drop, group_after, grow, notation_of, sym, take, ◌+◌, ◌∙◌}
use Rattle.lexical_literal.proofs.SizeLemmas.{group_step, grown_small}
use Rattle.lexical_literal.proofs.group_size.group_after.Goals as goal

pub loop-index-preserved : goal.loop-index-preserved
loop-index-preserved c =
    let m = notation_of c.args.grammar in
    let g = c.loop-index.group in
    let grown = sym c.grow.ensures ∙ c.in-Some.is in
    record {
      within = omega (arith, c.loop-index-test.true);
      digits = omega (arith, grown_small m g c.in-Some.next _ grown, c.loop-index.invariant.digits);
      same = c.loop-index.invariant.same ∙ group_step m c.args.text.now c.args.size c.loop-index.index g c.loop-index-test.true c.requires
          ∙ ap (λ o. group_after m o (drop (c.loop-index.index + 1) (take c.args.size c.args.text.now))) (ap (grow m g) (sym c.role_at-role.ensures) ∙ grown);
    }
