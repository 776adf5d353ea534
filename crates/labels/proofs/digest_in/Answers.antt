use mathlib.Core.Path.{◌∙◌}
use Rattle.labels.proofs.Labels.{digest_is}
use Rattle.labels.proofs.digest_in.Goals as goal

pub returns-in-Some : goal.returns-in-Some
returns-in-Some c =
    let found = digest_is _ _ _ c.label_of.ensures _ c.in-Some.is in
    c.digest_at.ensures found.fits ∙ found.digest
