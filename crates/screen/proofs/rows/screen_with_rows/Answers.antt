use Rattle.judge.proofs.Accepting.{accepted_same, accepted_stands, accepted_refused}
use Rattle.promises.proofs.CountedLaws.{counted_refused}
use Rattle.screen.proofs.Showing.{screen_refused}
use Rattle.screen.proofs.rows.screen_with_rows.Goals as goal

pub screen_accepted-requires : goal.screen_accepted-requires
screen_accepted-requires c = accepted_stands _ _ c.accept.ensures c.in-Ok.is

pub returns-in-Ok : goal.returns-in-Ok
returns-in-Ok c =
    let same = accepted_same _ _ c.accept.ensures c.in-Ok.is in
    record { answer = rw same at c.screen_accepted.ensures.answer; output = rw same at c.screen_accepted.ensures.output }

pub returns-in-Err : goal.returns-in-Err
returns-in-Err c =
    let it = counted_refused _ _ _ (screen_refused _ _ _ _ (accepted_refused _ _ c.accept.ensures c.in-Err.is)) (c.refuse.ensures.answer, c.refuse.ensures.output) in record { answer = it.0; output = it.1 }
