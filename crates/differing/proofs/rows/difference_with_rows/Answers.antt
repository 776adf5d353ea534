use Rattle.promises.proofs.CountedLaws.{counted_refused}
use Rattle.reading.proofs.Verdicts.{judged_refused}
use Rattle.differing.proofs.Differing.{first_refused}
use Rattle.differing.proofs.rows.difference_with_rows.Goals as goal

pub returns-in-Err : goal.returns-in-Err
returns-in-Err c =
    let it = counted_refused _ _ _ (first_refused _ _ _ (judged_refused _ _ _ _ c.judge.ensures c.in-Err.is)) (c.refuse.ensures.answer, c.refuse.ensures.output) in record { answer = it.0; output = it.1 }
