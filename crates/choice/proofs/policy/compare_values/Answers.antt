use borrow.Author.Rules.{rules}
use Rattle.choice.proofs.Values.{values_decide}
use Rattle.choice.proofs.policy.compare_values.Goals as goal

pub returns : goal.returns
returns c = values_decide c.args.v c.args.w (search rules) (search rules) c.compare.result c.compare.ensures _ _ c.then_with.ensures (λ h. search rules)
