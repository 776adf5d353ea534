use native.Mathlib.Omega.{arith}
use Rattle.writing.proofs.Writing.{refuses, says_same, due_refused, due_done, run_stopped}
use Rattle.reading.proofs.Verdicts.{standing}
use Rattle.writing.proofs.Calls.{run_rises, run_done}
use Rattle.writing.proofs.rows.run_accepted.Goals as goal

pub returns-in-Err : goal.returns-in-Err
returns-in-Err c =
    let it = refuses _ _ _ (run_stopped _ _ _ _ _ c.requires.records.judged (due_refused _ c.test_range.ensures c.in-Err.is)) (c.refuse.ensures.answer, c.refuse.ensures.output) in record { answer = it.0; output = it.1 }

pub write_range-requires : goal.write_range-requires
write_range-requires c =
    let a = standing c.requires in
    (c.requires, run_rises a _ _ _ _ c.lower_bound-low.ensures.number c.upper_bound-high.ensures.number (due_done _ c.test_range.ensures c.in_default.is), c.upper_bound-high.ensures.within)

pub returns : goal.returns
returns c =
    let a = standing c.requires in let it = says_same _ _ _ (run_done a _ _ _ _ c.lower_bound-low.ensures.number c.upper_bound-high.ensures.number (due_done _ c.test_range.ensures c.in_default.is) _) (c.write_range.ensures.answer, c.write_range.ensures.output) in record { answer = it.0; output = it.1 }
