use Rattle.judge.proofs.Accepting.{accepted_same, accepted_stands, accepted_refused}
use Rattle.writing.proofs.Writing.{refuses, run_refused}
use Rattle.writing.proofs.rows.run_with_rows.Goals as goal

pub run_accepted-requires : goal.run_accepted-requires
run_accepted-requires c = accepted_stands _ _ c.accept.ensures c.in-Ok.is

pub returns-in-Ok : goal.returns-in-Ok
returns-in-Ok c =
    let same = accepted_same _ _ c.accept.ensures c.in-Ok.is in
    record { answer = rw same at c.run_accepted.ensures.answer; output = rw same at c.run_accepted.ensures.output }

pub returns-in-Err : goal.returns-in-Err
returns-in-Err c =
    let it = refuses _ _ _ (run_refused _ _ _ _ (accepted_refused _ _ c.accept.ensures c.in-Err.is)) (c.refuse.ensures.answer, c.refuse.ensures.output) in record { answer = it.0; output = it.1 }
