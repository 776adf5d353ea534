use Rattle.judge.proofs.Accepting.{accepted_same, accepted_stands, accepted_refused}
use Rattle.path_writer.proofs.Verdicts.{path_refused}
use Rattle.path_writer.proofs.rows.path_with_rows.Goals as goal

pub path_accepted-requires : goal.path_accepted-requires
path_accepted-requires c = accepted_stands _ _ c.accept.ensures c.in-Ok.is

pub returns-in-Ok : goal.returns-in-Ok
returns-in-Ok c =
    let same = accepted_same _ _ c.accept.ensures c.in-Ok.is in
    record { answer = rw same at c.path_accepted.ensures.answer; output = rw same at c.path_accepted.ensures.output }

pub returns-in-Err : goal.returns-in-Err
returns-in-Err c =
    let it = path_refused _ _ _ (c.refuse.ensures.answer, c.refuse.ensures.output) (accepted_refused _ _ c.accept.ensures c.in-Err.is) in record { answer = it.0; output = it.1 }
