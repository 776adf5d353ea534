use native.Mathlib.Omega.{arith}
use Rattle.digests.proofs.Labels.{row_labelled}
use Rattle.reading.proofs.Verdicts.{standing}
use Rattle.writing.proofs.Calls.{row_written, range_row}
use Rattle.writing.proofs.accepted.write_range.Goals as goal

pub write_table-requires : goal.write_table-requires
write_table-requires c =
    let pre = c.requires in
    let a = standing pre.0 in
    let labelled = row_labelled pre.0.pages in ((range_row a _ _ pre.1 pre.2).whole, labelled, labelled)

pub returns : goal.returns
returns c =
    let pre = c.requires in
    let a = standing pre.0 in
    let r = c.write_table in
    let it = row_written (range_row a _ _ pre.1 pre.2) _ _ _ (r.ensures.answer, r.ensures.output) in record { answer = it.0; output = it.1 }
