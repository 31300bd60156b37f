-- A syntax has what reading needs.
use Rattle.lexical_literal.proofs.Common.{Grammar, HasBegun, HasFound, HasSizes, IsReady, IsTrue, ap, has_sizes, notation_of, raw, steps_of, subst, sym, ◌∙◌}
use Rattle.lexical_literal.specs.Additions.Scan.{IsDecimal}
use Rattle.lexical_literal.specs.Additions.Literal.{IsSummed}
use Rattle.lexical_literal.proofs.StoppedLemmas.{begun_free}
use Rattle.lexical_literal.proofs.MadeLemmas.{usual_sizes}
use Rattle.lexical_literal.proofs.syntax.Syntax.begin.Goals as goal

pub scan-requires : goal.scan-requires
scan-requires c =
    record {
      decimal = subst (λ (g : Grammar). IsTrue c.args.decimal → IsDecimal (raw g.word)) (sym c.usual_grammar.ensures.value) c.requires.radix;
      ready = subst (λ (g : Grammar). IsReady (steps_of g)) (sym c.usual_grammar.ensures.value) c.usual_grammar.ensures.ready;
    }

pub scan-begun-requires : goal.scan-begun-requires
scan-begun-requires c =
    record {
      decimal = subst (λ (g : Grammar). IsTrue c.args.decimal → IsDecimal (raw g.word)) (sym c.grammar-grammar.ensures.value) c.requires.radix;
      ready = subst (λ (g : Grammar). IsReady (steps_of g)) (sym c.grammar-grammar.ensures.value) c.grammar-grammar.ensures.ready;
    }

pub returns-then-decimal-clause-found : goal.returns-then-decimal-clause-found
returns-then-decimal-clause-found c =
    begun_free (notation_of c.args.self.now) c.usual_grammar.ensures.ready c.usual_grammar.ensures.sizes c.args.text.now c.scan.result
    (subst (λ (g : Grammar). HasFound (steps_of g) c.args.text.now c.scan.result) c.usual_grammar.ensures.value c.scan.ensures.found)
    (usual_sizes c.args.self.now (c.requires.usual c.if-decimal.true))

pub sized-requires-clause-ready : goal.sized-requires-clause-ready
sized-requires-clause-ready c = subst (λ (g : Grammar). IsReady (steps_of g)) (sym c.grammar-grammar.ensures.value) c.grammar-grammar.ensures.ready

pub sized-requires-clause-sizes : goal.sized-requires-clause-sizes
sized-requires-clause-sizes c = subst (λ (g : Grammar). HasSizes (notation_of g)) (sym c.grammar-grammar.ensures.value) c.grammar-grammar.ensures.sizes

pub sized-requires-clause-found : goal.sized-requires-clause-found
sized-requires-clause-found c = c.scan-begun.ensures.found

pub returns-then-has_sizes-clause-found : goal.returns-then-has_sizes-clause-found
returns-then-has_sizes-clause-found c =
    subst (λ (g : Grammar). HasBegun (notation_of g) c.args.text.now c.sized.result) c.grammar-grammar.ensures.value c.sized.ensures.begun

pub returns-else-has_sizes-clause-found : goal.returns-else-has_sizes-clause-found
returns-else-has_sizes-clause-found c =
    begun_free (notation_of c.args.self.now) c.grammar-grammar.ensures.ready c.grammar-grammar.ensures.sizes c.args.text.now c.scan-begun.result
    (subst (λ (g : Grammar). HasFound (steps_of g) c.args.text.now c.scan-begun.result) c.grammar-grammar.ensures.value c.scan-begun.ensures.found)
    (ap (λ (g : Grammar). has_sizes (notation_of g)) (sym c.grammar-grammar.ensures.value) ∙ sym c.has_sizes.ensures ∙ c.if-has_sizes.false)

pub returns-then-has_sizes-clause-summed : goal.returns-then-has_sizes-clause-summed
returns-then-has_sizes-clause-summed c =
    subst (λ (g : Grammar). IsSummed (raw g.word) c.args.text.now c.sized.result) c.grammar-grammar.ensures.value c.sized.ensures.summed

pub returns-else-has_sizes-clause-summed : goal.returns-else-has_sizes-clause-summed
returns-else-has_sizes-clause-summed c =
    subst (λ (g : Grammar). IsSummed (raw g.word) c.args.text.now c.scan-begun.result) c.grammar-grammar.ensures.value c.scan-begun.ensures.summed
