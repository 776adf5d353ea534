use mathlib.Core.Path.{ap, ◌∙◌}
use mathlib.Core.Bool.{◌&&◌}
use lib.Dec.{eqb}
use Rattle.bytestring.proofs.Equal.{pointwise_equal}
use Rattle.head.specs.Head.{same_head}
use Rattle.head.proofs.same_head.Goals as goal

pub returns : goal.returns
unfolding same_head
returns c = c.eq.ensures ∙ ap (λ b. eqb c.args.head.count c.args.other.count && (eqb c.args.head.layer c.args.other.layer && b)) (pointwise_equal c.args.head.digest c.args.other.digest)
