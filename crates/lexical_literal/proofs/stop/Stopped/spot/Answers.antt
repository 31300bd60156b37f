-- What has been read decides what may follow, and so why what follows is refused.
use Rattle.lexical_literal.proofs.Common.{Group, IsRefusal, ap, goes, notation_of, refusal_of, slice_get, spot_of, subst, sym, take, ◌∙◌, ◌≡◌}
use Rattle.lexical_literal.proofs.BlameLemmas.{refusal_at}
use Rattle.lexical_literal.proofs.StoppedLemmas.{refused_there}
use Rattle.lexical_literal.proofs.StopLemmas.{goes_too, is_read_of}
use Rattle.lexical_literal.proofs.stop.Stopped.spot.Goals as goal

pub returns-clause-refusal : goal.returns-clause-refusal
returns-clause-refusal c =
    let g = c.args.syntax.now in
    let m = notation_of g in
    let text = c.args.text.now in
    let size = c.args.self.size in
    let front = take size text in
    let s = c.args.self.read in
    let stopped = c.requires.stopped in
    let of = c.grammar.ensures in
    let group = c.group-separated.result in
    let read = c.group-separated.ensures.begun.read in
    let grouped = c.group-separated.ensures.grouped in
    let one_group : stopped.group ≡ group = let other = stopped.read.grouped in cc in
    let refused = sym (goes_too m of.ready of.sizes front s group read grouped (slice_get text size))
    ∙ ap (λ (group : Group). goes m s group (slice_get text size)) (sym one_group) ∙ refused_there m text c.args.self stopped c.requires.refused in
    let made = c.spot.ensures
    ∙ (λ j. spot_of (of.value j) (c.front_of-front.ensures j) s c.byte_at-byte.result c.tail_at-tail.result group.separated) in
    subst (λ spot. IsRefusal m text (refusal_of (notation_of spot.grammar) spot)) (sym made)
    (refusal_at g text s group.separated c.tail_at-tail.result size stopped.valid.within stopped.valid
    (is_read_of m of.ready of.sizes front s group read grouped) refused
    c.byte_at-byte.result c.byte_at-byte.ensures c.tail_at-tail.ensures)
