-- The bytes that the suffixes name.
use Rattle.lexical_forms.proofs.Common.{List, ap, list_any, ◌==◌, ◌∙◌, ℕ}
use Rattle.lexical_forms.proofs.token.has_more.Goals as goal

pub returns : goal.returns
returns c = c.has_byte.ensures ∙ ap (λ (bytes : List ℕ). list_any (λ it. it == c.args.byte) bytes) c.more_of.ensures
