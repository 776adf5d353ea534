use mathlib.Core.Path.{sym, ◌∙◌}
use native.Mathlib.Omega.{arith}
use lib.Seq.{length-take-le}
use Rattle.key.proofs.SlashLaws.{slash_done}
use Rattle.digests.proofs.Labels.{row_labelled}
use Rattle.reading.proofs.Verdicts.{accepting}
use Rattle.reading.proofs.Answering.{position_within}
use Rattle.writing.proofs.Moving.{gives_refusal, gives_same, lent_digest, remove_unlawful}
use Rattle.writing.proofs.Calls.{row_moved, left_row, remove_done, absent_done}
use Rattle.writing.proofs.rows.remove_accepted.Goals as goal

pub returns-in-Err : goal.returns-in-Err
returns-in-Err c =
    let it = gives_refusal _ _ _ _ (remove_unlawful _ _ _ _ _ c.requires.0.judged c.requires.2 (sym c.slash.ensures ∙ c.in-Err.is)) (c.refuse_headed.ensures.headed, c.refuse_headed.ensures.output) in record { headed = it.0; output = it.1 }

pub slice_bounds-root-end : goal.slice_bounds-root-end
slice_bounds-root-end c = sym (length-take-le c.root_end-end.result c.args.register.now c.root_end-end.ensures.within)

pub leave_out-requires : goal.leave_out-requires
leave_out-requires c =
    let given = c.requires.0 in
    (position_within given _ _ c.search.ensures.says _ _ c.in-Ok.is, given.room)

pub overflow_sub-left : goal.overflow_sub-left
overflow_sub-left c = omega (arith, position_within c.requires.0 _ _ c.search.ensures.says _ _ c.in-Ok.is)

pub write_headed-requires : goal.write_headed-requires
write_headed-requires c =
    let a = accepting (λ i h. omega (arith, c.type_inv.register i)) c.requires.0 in
    let labelled = row_labelled c.requires.1 in
    let row = (left_row a _ _ c.search.ensures.says _ _ c.in-Ok.is _ c.leave_out.auto.row c.leave_out.ensures).whole in
    (row, labelled, labelled, lent_digest _ _ _ a.bytes a.given.judged c.requires.2 _ c.root_end-end.ensures)

pub returns : goal.returns
returns c =
    let a = accepting (λ i h. omega (arith, c.type_inv.register i)) c.requires.0 in
    let row = left_row a _ _ c.search.ensures.says _ _ c.in-Ok.is _ c.leave_out.auto.row c.leave_out.ensures in
    let lawful = slash_done _ _ (sym c.slash.ensures ∙ c.in_default.is) in
    let done = remove_done a _ c.requires.2 _ _ c.search.ensures.says _ _ c.in-Ok.is _ lawful in let it = gives_same _ _ _ _ done (row_moved row _ _ _ _ (c.write_headed.ensures.headed, c.write_headed.ensures.output)) in record { headed = it.0; output = it.1 }

pub returns-in_default-search : goal.returns-in_default-search
returns-in_default-search c =
    let a = accepting (λ i h. omega (arith, c.type_inv.register i)) c.requires.0 in
    let lawful = slash_done _ _ (sym c.slash.ensures ∙ c.in_default.is) in let it = gives_refusal _ _ _ _ (absent_done a _ c.requires.2 _ _ c.search.ensures.says _ lawful _ c.in_default-search.is) (c.refuse_headed-in_default-search.ensures.headed, c.refuse_headed-in_default-search.ensures.output) in record { headed = it.0; output = it.1 }
