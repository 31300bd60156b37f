use Rattle.std.proofs.Common.{arith}
use Rattle.lexical_util.proofs.ImageLemmas.{built_by_writes}
use Rattle.lexical_util.proofs.edits.listing.is_built.Goals as goal

pub returns-then-is_clean-clause-image : goal.returns-then-is_clean-clause-image
returns-then-is_clean-clause-image c =
    let image = built_by_writes c.args.format (omega arith) in
    let clean = c.is_clean.ensures.0 c.if-is_clean.true in
    let used = c.is_separator_allowed_or_absent.ensures in
    (λ t. image.0 (record { clean = clean; separator_used = used.0 t }), λ made. used.1 (image.1 made).separator_used)
