use Rattle.writing.specs.Writing.{set_outcome}
use Rattle.register.proofs.join.Goals as goal

pub returns : goal.returns
unfolding set_outcome
returns c =
    record {
      headed = c.set_value.ensures.headed;
      output = c.set_value.ensures.output;
    }
