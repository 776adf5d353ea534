use mathlib.Core.Path.{sym, ◌∙◌}
use native.Mathlib.Omega.{arith}
use Rattle.digests.proofs.Labels.{none_labelled}
use Rattle.reading.proofs.Verdicts.{accepting}
use Rattle.writing.proofs.Writing.{refuses, says_same}
use Rattle.writing.proofs.Calls.{row_written, chosen_row, chosen_full, put_done}
use Rattle.writing.proofs.Setting.{single_to_set}
use Rattle.writing.proofs.accepted.put_record.Goals as goal

pub set_word-requires : goal.set_word-requires
set_word-requires c =
    let a = accepting (λ i h. omega (arith, c.type_inv.register i)) c.requires.0 in
    single_to_set a c.requires.1 c.single-word.ensures (omega (arith, c.single-word.auto)) c.search-found.ensures.says

pub write_table-requires : goal.write_table-requires
write_table-requires c = ((chosen_row _ _ _ _ _ c.set_word.ensures c.in-Some.is).whole, none_labelled _ _, none_labelled _ _)

pub returns : goal.returns
returns c =
    let a = accepting (λ i h. omega (arith, c.type_inv.register i)) c.requires.0 in let it = says_same _ _ _ (put_done a _ _ _ _ c.single-word.ensures _)
    (row_written (chosen_row _ _ _ _ _ c.set_word.ensures c.in-Some.is) _ _ _ (c.write_table.ensures.answer, c.write_table.ensures.output)) in record { answer = it.0; output = it.1 }

pub returns-in_default : goal.returns-in_default
returns-in_default c =
    let a = accepting (λ i h. omega (arith, c.type_inv.register i)) c.requires.0 in
    let full = chosen_full _ _ _ _ _ c.set_word.ensures _ c.in_default.is in let it = refuses _ _ _ (sym (put_done a _ _ _ _ c.single-word.ensures _) ∙ full) (c.refuse.ensures.answer, c.refuse.ensures.output) in record { answer = it.0; output = it.1 }
