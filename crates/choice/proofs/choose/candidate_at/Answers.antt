use mathlib.Core.Path.{◌∙◌}
use Rattle.choice.proofs.choose.candidate_at.Goals as goal

pub returns : goal.returns
returns c = c.candidate_of.ensures ∙ rw c.order_of-order.ensures
