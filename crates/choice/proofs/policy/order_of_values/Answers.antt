use mathlib.Core.Path.{◌∙◌}
use Rattle.choice.specs.Choice.{value_at}
use Rattle.choice.proofs.policy.order_of_values.Goals as goal

pub returns : goal.returns
unfolding value_at
returns c =
    let pre = c.requires in
    c.compare_values.ensures ∙ rw (c.value_of-v.ensures pre.0, c.value_of-w.ensures pre.1)
