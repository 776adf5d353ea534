use mathlib.Core.Path.{◌∙◌}
use Rattle.known.proofs.Labels.{first_place, later_place}
use Rattle.known.proofs.label_place.Goals as goal

pub returns-then-k-eq0 : goal.returns-then-k-eq0
returns-then-k-eq0 c = c.link_in.ensures ∙ first_place c.args.word _ c.if-k-eq0.true

pub returns : goal.returns
returns c = rw (c.page_in.ensures, c.above_in.ensures) (later_place c.args.word _ c.if-k-eq0.false)
