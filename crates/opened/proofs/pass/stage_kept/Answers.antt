use borrow.Author.Rules.{rules}
use Prim.Native.Nat.{◌*◌, ◌<◌}
use native.Mathlib.Omega.{arith}
use lib.ListN.{get_or}
use Rattle.known.specs.Rows.{label_count}
use Rattle.opened.proofs.Staging.{none_staged, end_fits, all_staged, mark_small, open_staged, stretch_fits, closed_staged}
use Rattle.opened.proofs.pass.stage_kept.Goals as goal

pub loop-i-init : goal.loop-i-init
loop-i-init c =
    let a = c.args in
    (search rules, omega arith, omega arith, none_staged a.chains.now a.m a.marks.now a.index.now a.row.now)

pub overflow_cast-open : goal.overflow_cast-open
overflow_cast-open c = omega (arith, c.type_inv.marks c.loop-i.i)

pub overflow_add-opened : goal.overflow_add-opened
overflow_add-opened c =
    let a = c.args in
    let l = c.loop-i in
    let small = mark_small a.chains.now a.m a.marks.now a.index.now l.row l.opened l.from l.staged l.i l.invariant.3 (omega arith) c.requires.1 in
    omega (arith, small, c.requires.1.staging.chained.few)

pub loop-i-preserved-then-label_count-open : goal.loop-i-preserved-then-label_count-open
loop-i-preserved-then-label_count-open c =
    let a = c.args in
    let l = c.loop-i in
    let small = mark_small a.chains.now a.m a.marks.now a.index.now l.row l.opened l.from l.staged l.i l.invariant.3 (omega arith) c.requires.1 in
    (search rules, search rules, omega (arith, small), open_staged a.chains.now a.m a.marks.now a.index.now l.row l.opened l.from l.staged l.i l.invariant.3 (omega arith) (omega (arith, c.label_count.ensures)))

pub copy_words-staged-requires : goal.copy_words-staged-requires
copy_words-staged-requires c =
    let a = c.args in
    let l = c.loop-i in
    let closed : get_or a.marks.now l.i 0 < label_count (get_or a.chains.now (2 * l.i) 0) = omega (arith, c.label_count.ensures) in
    let fits = stretch_fits a.chains.now a.m a.marks.now a.index.now l.row l.opened l.from l.staged l.i l.invariant.3 (omega arith) closed c.requires.1 in
    (search rules, omega (arith, fits.0, c.from_in-to.ensures), omega (arith, fits.1, c.from_in-to.ensures), search rules)

pub overflow_add-from : goal.overflow_add-from
overflow_add-from c =
    let a = c.args in
    let l = c.loop-i in
    let closed : get_or a.marks.now l.i 0 < label_count (get_or a.chains.now (2 * l.i) 0) = omega (arith, c.label_count.ensures) in
    let fits = stretch_fits a.chains.now a.m a.marks.now a.index.now l.row l.opened l.from l.staged l.i l.invariant.3 (omega arith) closed c.requires.1 in
    omega (arith, fits.1, c.from_in-to.ensures, c.records_in.ensures)

pub overflow_add-i-in-loop-i : goal.overflow_add-i-in-loop-i
overflow_add-i-in-loop-i c = omega (arith, c.below_in.ensures)

pub overflow_add-i-in-loop-i-2 : goal.overflow_add-i-in-loop-i-2
overflow_add-i-in-loop-i-2 c = omega (arith, c.below_in.ensures, c.requires.1.staging.chained.few)

pub loop-i-preserved : goal.loop-i-preserved
loop-i-preserved c =
    let a = c.args in
    let l = c.loop-i in
    let small = mark_small a.chains.now a.m a.marks.now a.index.now l.row l.opened l.from l.staged l.i l.invariant.3 (omega arith) c.requires.1 in
    let closed : get_or a.marks.now l.i 0 < label_count (get_or a.chains.now (2 * l.i) 0) = omega (arith, c.label_count.ensures) in
    let fits = stretch_fits a.chains.now a.m a.marks.now a.index.now l.row l.opened l.from l.staged l.i l.invariant.3 (omega arith) closed c.requires.1 in
    (search rules, omega (arith, c.copy_words-staged.ensures.end, fits.0, l.invariant.1, c.from_in-to.ensures), omega (arith, small, l.invariant.2), closed_staged a.chains.now a.m a.marks.now a.index.now l.row l.opened l.from l.staged l.i l.invariant.3 (omega arith) closed _ _ _ _ _ c.copy_words-staged.ensures c.from_in-to.ensures c.records_in.ensures c.below_in.ensures)

pub copy_words-staged-requires-2 : goal.copy_words-staged-requires-2
copy_words-staged-requires-2 c =
    let a = c.args in
    let l = c.loop-i in
    (search rules, end_fits a.chains.now a.m a.marks.now a.index.now l.row l.opened l.from l.staged l.i l.invariant.3 (omega arith) c.requires.1, search rules, search rules)

pub returns : goal.returns
returns c =
    let a = c.args in
    let l = c.loop-i in
    all_staged a.chains.now a.m a.marks.now a.index.now l.row l.opened l.from l.staged l.i l.invariant.3 (omega arith) l.invariant.1 (end_fits a.chains.now a.m a.marks.now a.index.now l.row l.opened l.from l.staged l.i l.invariant.3 (omega arith) c.requires.1) _ _ c.copy_words-staged-2.ensures
