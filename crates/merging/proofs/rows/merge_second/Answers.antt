use mathlib.Core.Path.{sym}
use native.Mathlib.Omega.{arith}
use lib.Seq.{length-take-le}
use Rattle.digests.proofs.Labels.{row_labelled}
use Rattle.reading.proofs.Verdicts.{accepted_rows, accepted_index, judged_refused, accepting, short, row_first}
use Rattle.writing.proofs.Moving.{gives_refusal, gives_same, lent_digest}
use Rattle.merging.proofs.Merging.{merge_second_refused, words_below, moved_row, merge_done}
use Rattle.merging.proofs.rows.merge_second.Goals as goal

pub to_second-requires : goal.to_second-requires
to_second-requires c =
    let given = accepted_index _ _ _ _ c.judge.ensures c.in-Ok.is in
    (given.room, words_below (accepting (λ i h. omega (arith, c.type_inv.second i)) given))

pub slice_bounds-write_chosen-end : goal.slice_bounds-write_chosen-end
slice_bounds-write_chosen-end c = sym (length-take-le c.root_end-end.result c.args.first.now c.root_end-end.ensures.within)

pub write_chosen-requires : goal.write_chosen-requires
write_chosen-requires c =
    let a = accepting (λ i h. omega (arith, c.type_inv.first i)) c.requires.0 in
    let rows = accepted_rows _ _ _ _ c.judge.ensures c.in-Ok.is in
    let b = accepting (λ i h. omega (arith, c.type_inv.second i)) rows.0 in
    let second = moved_row b _ c.to_second.auto.index c.to_second.ensures _ (short a) in
    (row_first a _ (short b), second, row_labelled c.requires.1, row_labelled rows.1, lent_digest _ _ _ a.bytes a.given.judged c.requires.2 _ c.root_end-end.ensures)

pub returns-in-Ok : goal.returns-in-Ok
returns-in-Ok c =
    let a = accepting (λ i h. omega (arith, c.type_inv.first i)) c.requires.0 in
    let given = accepted_index _ _ _ _ c.judge.ensures c.in-Ok.is in
    let b = accepting (λ i h. omega (arith, c.type_inv.second i)) given in let it = gives_same _ _ _ _ (merge_done b _ c.to_second.auto.index c.to_second.ensures a _ c.requires.2 _) (c.write_chosen.ensures.headed, c.write_chosen.ensures.output) in record { headed = it.0; output = it.1 }

pub returns-in-Err : goal.returns-in-Err
returns-in-Err c =
    let it = gives_refusal _ _ _ _ (merge_second_refused _ _ _ _ _ c.requires.0.judged c.requires.2 (judged_refused _ _ _ _ c.judge.ensures c.in-Err.is)) (c.refuse_headed.ensures.headed, c.refuse_headed.ensures.output) in record { headed = it.0; output = it.1 }
