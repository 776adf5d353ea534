use borrow.Author.Rules.{rules}
use Prim.Native.Nat.{◌*◌}
use native.Mathlib.Omega.{arith}
use lib.ListN.{get_or}
use Rattle.known.specs.Rows.{label_count}
use Rattle.opened.proofs.Marking.{begun_more}
use Rattle.opened.proofs.pass.begin_marks.Goals as goal

pub loop-i-init : goal.loop-i-init
loop-i-init c = (search rules, λ j h. absurd (omega arith))

pub overflow_cast-marks : goal.overflow_cast-marks
overflow_cast-marks c =
    let l = c.loop-i in
    omega (arith, c.label_count.ensures, c.requires.2 l.i (omega arith))

pub loop-i-preserved : goal.loop-i-preserved
loop-i-preserved c =
    let a = c.args in
    let l = c.loop-i in
    (search rules, begun_more (λ j. label_count (get_or a.chains.now (2 * j) 0)) l.marks l.i c.label_count.result (omega (arith, l.invariant.0)) c.label_count.ensures l.invariant.1)

pub returns : goal.returns
returns c j h = c.loop-i.invariant.1 j (omega arith)
