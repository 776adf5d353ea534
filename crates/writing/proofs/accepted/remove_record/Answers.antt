use native.Mathlib.Omega.{arith}
use Rattle.digests.proofs.Labels.{none_labelled}
use Rattle.reading.proofs.Verdicts.{accepting}
use Rattle.reading.proofs.Answering.{position_within}
use Rattle.writing.proofs.Writing.{refuses, says_same}
use Rattle.writing.proofs.Calls.{row_written, left_row, found_without, absent_without}
use Rattle.writing.proofs.accepted.remove_record.Goals as goal

pub leave_out-requires : goal.leave_out-requires
leave_out-requires c =
    let given = c.requires in
    (position_within given _ _ c.search.ensures.says _ _ c.in-Ok.is, given.room)

pub overflow_sub-left : goal.overflow_sub-left
overflow_sub-left c = omega (arith, position_within c.requires _ _ c.search.ensures.says _ _ c.in-Ok.is)

pub write_table-requires : goal.write_table-requires
write_table-requires c =
    let a = accepting (λ i h. omega (arith, c.type_inv.register i)) c.requires in
    ((left_row a _ _ c.search.ensures.says _ _ c.in-Ok.is _ c.leave_out.auto.row c.leave_out.ensures).whole, none_labelled _ _, none_labelled _ _)

pub returns : goal.returns
returns c =
    let a = accepting (λ i h. omega (arith, c.type_inv.register i)) c.requires in
    let row = left_row a _ _ c.search.ensures.says _ _ c.in-Ok.is _ c.leave_out.auto.row c.leave_out.ensures in let it = says_same _ _ _ (found_without a _ _ c.search.ensures.says _ _ c.in-Ok.is _) (row_written row _ _ _ (c.write_table.ensures.answer, c.write_table.ensures.output)) in record { answer = it.0; output = it.1 }

pub returns-in_default : goal.returns-in_default
returns-in_default c =
    let a = accepting (λ i h. omega (arith, c.type_inv.register i)) c.requires in let it = refuses _ _ _ (absent_without a _ _ c.search.ensures.says _ c.in_default.is _) (c.refuse.ensures.answer, c.refuse.ensures.output) in record { answer = it.0; output = it.1 }
