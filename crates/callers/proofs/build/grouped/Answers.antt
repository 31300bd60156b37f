use Rattle.std.proofs.Common.{◌∙◌}
use Rattle.lexical_util.specs.Layout as layout
use Rattle.lexical_util.specs.Unfoldable.{after}
use Rattle.callers.proofs.build.grouped.Goals as goal

pub returns-clause-radix : goal.returns-clause-radix
unfolding after
returns-clause-radix c = (λ i. (c.build_unchecked.ensures.fields i).byte layout.mantissa_radix)
    ∙ (λ i. (c.mantissa_radix.ensures i).byte layout.mantissa_radix)
