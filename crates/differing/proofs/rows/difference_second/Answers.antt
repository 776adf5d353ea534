use Rattle.promises.proofs.CountedLaws.{counted_refused}
use Rattle.reading.proofs.Verdicts.{judged_refused}
use Rattle.differing.proofs.Differing.{second_refused}
use Rattle.differing.proofs.rows.difference_second.Goals as goal

pub returns-in-Err : goal.returns-in-Err
returns-in-Err c =
    let it = counted_refused _ _ _ (second_refused _ _ _ _ c.requires.0.judged (judged_refused _ _ _ _ c.judge.ensures c.in-Err.is)) (c.refuse.ensures.answer, c.refuse.ensures.output) in record { answer = it.0; output = it.1 }
