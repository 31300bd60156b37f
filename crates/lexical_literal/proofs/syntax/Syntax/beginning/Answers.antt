-- Nothing has been read.
use Rattle.lexical_literal.proofs.StoppedLemmas.{first_counted, stops_before}
use Rattle.lexical_literal.proofs.syntax.Syntax.beginning.Goals as goal

pub returns : goal.returns
returns c none = stops_before _ c.grammar-grammar.ensures.ready c.grammar-grammar.ensures.sizes c.args._text.now _ _
    (first_counted _ c.grammar-grammar.ensures.ready c.grammar-grammar.ensures.sizes c.args._text.now).read none
