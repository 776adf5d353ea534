use Rattle.choice.specs.Choice.{woven_of, rule_of, combined_of}
use Rattle.choice.proofs.choose.choose.Goals as goal

pub returns : goal.returns
unfolding woven_of rule_of combined_of
returns c = c.combine.ensures
