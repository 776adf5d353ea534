use borrow.Author.Rules.{rules}
use native.Mathlib.Omega.{arith}
use Rattle.known.proofs.Labels.{some_row_labels}
use Rattle.opened.proofs.Marking.{none_lowered, all_lowered, one_lowered, lowered_fits, marked_chains}
use Rattle.opened.proofs.pass.lower_marks.Goals as goal

pub loop-i-init : goal.loop-i-init
loop-i-init c =
    let a = c.args in
    (search rules, none_lowered a.s.now a.heads.now a.words.now a.root.now a.u.now a.chains.now a.m a.marks.now)

pub overflow_cast-marks : goal.overflow_cast-marks
overflow_cast-marks c = omega (arith, c.slice_known-in-loop-i-1.given c.loop-i.i)

pub open_labels-open-requires : goal.open_labels-open-requires
open_labels-open-requires c =
    let a = c.args in
    let l = c.loop-i in
    (search rules, search rules, some_row_labels a.u.now a.chains.now a.m l.i (omega arith) (marked_chains c.requires.2), lowered_fits a.s.now a.heads.now a.words.now a.root.now a.u.now a.chains.now a.m a.marks.now l.marks l.i l.invariant.1 (omega arith) c.requires.0 c.requires.2)

pub overflow_cast-marks-in-loop-i : goal.overflow_cast-marks-in-loop-i
overflow_cast-marks-in-loop-i c = omega (arith, c.open_labels-open.ensures.0, c.slice_known-in-loop-i-1.given c.loop-i.i)

pub overflow_add-i-in-loop-i : goal.overflow_add-i-in-loop-i
overflow_add-i-in-loop-i c = omega (arith, c.passed_over.ensures.1)

pub overflow_add-i-in-loop-i-2 : goal.overflow_add-i-in-loop-i-2
overflow_add-i-in-loop-i-2 c = omega (arith, c.passed_over.ensures.1, c.requires.2.chained.few)

pub loop-i-preserved : goal.loop-i-preserved
loop-i-preserved c =
    let a = c.args in
    let l = c.loop-i in
    (search rules, one_lowered a.s.now a.heads.now a.words.now a.root.now a.u.now a.chains.now a.m a.marks.now l.marks l.i l.invariant.1 (omega arith) c.open_labels-open.result c.open_labels-open.ensures.1 c.passed_over.result (rw (← c.label_count.ensures) c.passed_over.ensures.0) (omega (arith, l.invariant.0, c.requires.3)))

pub returns : goal.returns
returns c =
    let a = c.args in
    let l = c.loop-i in
    all_lowered a.s.now a.heads.now a.words.now a.root.now a.u.now a.chains.now a.m a.marks.now l.marks l.i l.invariant.1 (omega arith)
