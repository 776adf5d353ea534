use mathlib.Core.Path.{sym, ◌∙◌}
use native.Mathlib.Omega.{arith}
use lib.Seq.{length-take-le}
use Rattle.digests.proofs.Labels.{row_labelled, none_labelled}
use Rattle.reading.proofs.Verdicts.{accepting}
use Rattle.writing.proofs.Writing.{due_refused, due_done, tested_key}
use Rattle.writing.proofs.Moving.{gives_refusal, gives_same, lent_digest, set_stopped}
use Rattle.writing.proofs.Calls.{row_moved, chosen_row, chosen_many, copied_value, set_done}
use Rattle.writing.proofs.Setting.{single_to_set}
use borrow.Author.Rules.{rules}
use Rattle.writing.proofs.rows.set_accepted.Goals as goal

pub returns-in-Err : goal.returns-in-Err
returns-in-Err c =
    let it = gives_refusal _ _ _ _ (set_stopped _ _ _ _ _ _ _ c.requires.0.judged c.requires.2 (due_refused _ c.test_record.ensures c.in-Err.is)) (c.refuse_headed.ensures.headed, c.refuse_headed.ensures.output) in record { headed = it.0; output = it.1 }

pub single-word-requires : goal.single-word-requires
single-word-requires c =
    let tested = due_done _ c.test_record.ensures c.in_default.is in
    (tested_key _ _ tested, copied_value _ _ _ tested c.as_value.ensures, search rules)

pub slice_bounds-root-end : goal.slice_bounds-root-end
slice_bounds-root-end c = sym (length-take-le c.root_end-end.result c.args.register.now c.root_end-end.ensures.within)

pub set_word-requires : goal.set_word-requires
set_word-requires c =
    let a = accepting (λ i h. omega (arith, c.type_inv.register i)) c.requires.0 in
    single_to_set a c.requires.3 c.single-word.ensures (omega (arith, c.single-word.auto)) c.search-found.ensures.says

pub write_headed-requires : goal.write_headed-requires
write_headed-requires c =
    let a = accepting (λ i h. omega (arith, c.type_inv.register i)) c.requires.0 in
    let row = (chosen_row _ _ _ _ _ c.set_word.ensures c.in-Some.is).whole in
    (row, row_labelled c.requires.1, none_labelled _ _, lent_digest _ _ _ a.bytes a.given.judged c.requires.2 _ c.root_end-end.ensures)

pub returns : goal.returns
returns c =
    let a = accepting (λ i h. omega (arith, c.type_inv.register i)) c.requires.0 in
    let tested = due_done _ c.test_record.ensures c.in_default.is in
    let done = set_done a c.args.head c.requires.2 c.args.greater _ _ _ tested c.as_value.ensures _ _ c.single-word.ensures _ in let it = gives_same _ _ _ _ done (row_moved (chosen_row _ _ _ _ _ c.set_word.ensures c.in-Some.is) _ _ _ _ (c.write_headed.ensures.headed, c.write_headed.ensures.output)) in record { headed = it.0; output = it.1 }

pub returns-in_default-set_word : goal.returns-in_default-set_word
returns-in_default-set_word c =
    let a = accepting (λ i h. omega (arith, c.type_inv.register i)) c.requires.0 in
    let tested = due_done _ c.test_record.ensures c.in_default.is in
    let many = chosen_many _ _ _ _ _ c.set_word.ensures _ c.in_default-set_word.is in
    let done = set_done a c.args.head c.requires.2 c.args.greater _ _ _ tested c.as_value.ensures _ _ c.single-word.ensures _ in let it = gives_refusal _ _ _ _ (sym done ∙ many) (c.refuse_headed-in_default-set_word.ensures.headed, c.refuse_headed-in_default-set_word.ensures.output) in record { headed = it.0; output = it.1 }
