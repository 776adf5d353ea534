use Rattle.writer.proofs.refusal.refuse_headed.Goals as goal

pub returns : goal.returns
returns c =
    record {
      headed = rw c.refuse-answer.ensures.answer;
      output = c.refuse-answer.ensures.output;
    }
