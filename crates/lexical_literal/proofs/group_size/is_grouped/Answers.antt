-- The loop counts the first byte.
use Rattle.lexical_literal.proofs.Common.{Bool, List, [], arith, length, length-drop, notation_of, sym, take_all, ℕ, ◌<◌, ◌∙◌, ◌∷◌, ◌≡◌}
use Rattle.lexical_literal.proofs.GroupLemmas.{counted, counts_end, counts_first}
use Rattle.lexical_literal.proofs.group_size.is_grouped.Goals as goal

pub loop-rest-preserved-then-not-is_separator : goal.loop-rest-preserved-then-not-is_separator
loop-rest-preserved-then-not-is_separator c =
    let first = counts_first (notation_of c.args.grammar) c.loop-rest.group c.loop-rest.rest.now c.in-len1-up.len_at_least in
    let inv = c.loop-rest.invariant in let next = c.grown-group.ensures in let is = c.is_separator.ensures in let other = c.if-not-is_separator.true in
    grind (arith, length-drop, take_all)

pub loop-rest-preserved : goal.loop-rest-preserved
loop-rest-preserved c =
    let first = counts_first (notation_of c.args.grammar) c.loop-rest.group c.loop-rest.rest.now c.in-len1-up.len_at_least in
    let inv = c.loop-rest.invariant in let next = c.grown-group-then-follows.ensures in let is = c.is_separator.ensures in
    let separates = c.if-not-is_separator.false in let fit = c.follows.ensures in let fits = c.if-follows.true in grind (arith, length-drop, take_all)

pub returns : goal.returns
returns c =
    let end = counts_end (notation_of c.args.grammar) c.loop-rest.group in let inv = c.loop-rest.invariant in
    end_of c.loop-rest.rest.now (c.follows-2.ensures ∙ end) inv.same c.in_default.len_below where
      end_of : {t u : Bool} (rest : List ℕ) → t ≡ counted (notation_of c.args.grammar) c.loop-rest.group []
          → u ≡ counted (notation_of c.args.grammar) c.loop-rest.group rest → length rest < 1 → t ≡ u
      end_of [] is same none = is ∙ sym same
      end_of (b ∷ rest) is same none = absurd (omega (arith, none))
