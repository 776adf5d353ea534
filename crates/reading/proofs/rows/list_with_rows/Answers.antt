use Rattle.judge.proofs.Accepting.{accepted_same, accepted_stands, accepted_refused}
use Rattle.reading.proofs.Listings.{record_refused, listed_refused}
use Rattle.reading.proofs.rows.list_with_rows.Goals as goal

pub list_accepted-requires : goal.list_accepted-requires
list_accepted-requires c = accepted_stands _ _ c.accept.ensures c.in-Ok.is

pub returns-in-Err : goal.returns-in-Err
returns-in-Err c =
    let it = record_refused _ _ _ _ (listed_refused _ _ _ (accepted_refused _ _ c.accept.ensures c.in-Err.is)) (c.refuse_record.ensures.answer, (c.refuse_record.ensures.key, c.refuse_record.ensures.value)) in record { answer = it.0; key = it.1.0; value = it.1.1 }

pub returns-in-Ok : goal.returns-in-Ok
returns-in-Ok c =
    let same = accepted_same _ _ c.accept.ensures c.in-Ok.is in
    let it = c.list_accepted.ensures in record { answer = rw same at it.answer; key = rw same at it.key; value = rw same at it.value }
