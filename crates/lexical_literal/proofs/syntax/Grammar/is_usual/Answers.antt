-- The bytes and the flags are those of the word.
use Rattle.lexical_literal.proofs.Common.{Bool, Grammar, ap, arith, not, ◌&&◌, ◌==◌, ◌||◌, ◌∙◌, ◌≡◌}
use Rattle.lexical_util.specs.Layout as layout
use Rattle.lexical_literal.specs.Additions.Scan.{are_usual}
use Rattle.lexical_literal.proofs.FieldLemmas.{byte_is}
use Rattle.lexical_literal.proofs.syntax.Grammar.is_usual.Goals as goal

flat : (a b c d s n u : Bool) → ((((a && (b && c)) && d) && not (s || n)) && u) ≡ (a && (b && (c && (d && (not s && (not n && u))))))
flat a b c d s n u = grind arith

pub returns : goal.returns
returns c =
    let byte = byte_is c.self.inside c.args.self c.self.invariant c.self.view_is in
    let prefix = byte_is c.self-2.inside c.args.self c.self-2.invariant c.self-2.view_is layout.base_prefix in
    let usual = c.are_usual.ensures ∙ ap (λ (g : Grammar). are_usual g.conditions) c.self-2.view_is in
    flat (c.self.inside.radix == 10) (c.self.inside.exponent_base == 10) (c.self.inside.exponent_radix == 10) (c.self-2.inside.prefix == 0)
    c.has.result c.has-2.result c.are_usual.result ∙ (λ i. (byte layout.mantissa_radix i == 10) && ((byte layout.exponent_base i == 10) && ((byte layout.exponent_radix i == 10)
    && ((prefix i == 0) && (not (c.has.ensures i) && (not (c.has-2.ensures i) && usual i))))))
