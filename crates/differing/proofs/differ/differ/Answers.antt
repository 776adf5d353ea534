use borrow.Author.Rules.{rules}
use native.Mathlib.Omega.{arith}
use Rattle.digests.proofs.Labels.{row_labelled}
use Rattle.reading.proofs.Verdicts.{accepting}
use Rattle.differing.proofs.Differing.{may_open, may_leave, small_counts, difference_says}
use Rattle.differing.proofs.differ.differ.Goals as goal

pub open_pages-opening-requires : goal.open_pages-opening-requires
open_pages-opening-requires c =
    let a = accepting (λ i h. omega (arith, c.type_inv.first i)) c.requires.0 in
    let b = accepting (λ i h. omega (arith, c.type_inv.second i)) c.requires.1 in
    may_open a b c.requires.2 c.requires.3 c.requires.4

pub overflow_cast-opened : goal.overflow_cast-opened
overflow_cast-opened c =
    let a = accepting (λ i h. omega (arith, c.type_inv.first i)) c.requires.0 in
    let b = accepting (λ i h. omega (arith, c.type_inv.second i)) c.requires.1 in
    let opening = c.open_pages-opening in
    omega (arith, small_counts a b opening.result _ opening.ensures (omega (arith, c.requires.4, opening.auto.row)))

pub leave_held-count-requires : goal.leave_held-count-requires
leave_held-count-requires c =
    let a = accepting (λ i h. omega (arith, c.type_inv.first i)) c.requires.0 in
    let b = accepting (λ i h. omega (arith, c.type_inv.second i)) c.requires.1 in
    let opening = c.open_pages-opening in
    may_leave a b opening.result _ opening.ensures (omega (arith, c.requires.4, opening.auto.row))

pub write_table-requires : goal.write_table-requires
write_table-requires c = (c.leave_held-count.ensures.whole, row_labelled c.requires.2, row_labelled c.requires.3)

pub returns-in_err-len : goal.returns-in_err-len
returns-in_err-len c =
    let a = accepting (λ i h. omega (arith, c.type_inv.first i)) c.requires.0 in
    let b = accepting (λ i h. omega (arith, c.type_inv.second i)) c.requires.1 in
    let opening = c.open_pages-opening in
    let it = difference_says a b opening.result _ opening.ensures (omega (arith, c.requires.4, opening.auto.row)) _ _ c.leave_held-count.ensures _ (c.write_table.ensures.answer, c.write_table.ensures.output) (rw c.in_err-len.was (search rules)) in
    record { answer = it.0; output = it.1 }

pub returns : goal.returns
returns c =
    let a = accepting (λ i h. omega (arith, c.type_inv.first i)) c.requires.0 in
    let b = accepting (λ i h. omega (arith, c.type_inv.second i)) c.requires.1 in
    let opening = c.open_pages-opening in
    let it = difference_says a b opening.result _ opening.ensures (omega (arith, c.requires.4, opening.auto.row)) _ _ c.leave_held-count.ensures _ (c.write_table.ensures.answer, c.write_table.ensures.output) (rw c.in_ok-len.was) in
    record { answer = it.0; output = it.1 }
