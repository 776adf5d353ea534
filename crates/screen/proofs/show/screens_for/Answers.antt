use mathlib.Core.Path.{◌∙◌}
use Rattle.screen.proofs.Showing.{screens_rounded}
use Rattle.screen.proofs.show.screens_for.Goals as goal

pub returns : goal.returns
returns c = c.max.ensures ∙ rw c.div_ceil.ensures (screens_rounded c.args.count)
