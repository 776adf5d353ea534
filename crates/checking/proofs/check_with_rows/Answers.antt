use Rattle.reading.proofs.Verdicts.{accepted_rows, judged_refused}
use Rattle.checking.proofs.Heads.{checked, check_refused}
use Rattle.checking.proofs.check_with_rows.Goals as goal

pub head_of-requires : goal.head_of-requires
head_of-requires c =
    let j = c.judge in
    accepted_rows _ _ _ j.result j.ensures c.in-Ok.is

pub returns-in-Ok : goal.returns-in-Ok
returns-in-Ok c =
    let j = c.judge in
    let a = (accepted_rows _ _ _ j.result j.ensures c.in-Ok.is).0 in
    checked _ c.head_of.result a.tree a.judged (c.head_of.ensures a.tree a.judged)

pub returns-in-Err : goal.returns-in-Err
returns-in-Err c =
    let j = c.judge in
    rw c.zero_head.ensures (check_refused _ _ (judged_refused _ _ _ j.result j.ensures c.in-Err.is))
