use Rattle.reading.specs.Beside.{beside_outcome}
use Rattle.register.proofs.before.Goals as goal

pub returns : goal.returns
unfolding beside_outcome
returns c =
    record {
      answer = c.beside.ensures.answer;
      key = c.beside.ensures.key;
      value = c.beside.ensures.value;
    }
