use Prim.Native.Nat.{◌-◌}
use native.Mathlib.Omega.{arith}
use borrow.Author.Rules.{rules}
use Rattle.promises.proofs.CountedLaws.{counted_refused}
use Rattle.reading.proofs.Verdicts.{accepted_few}
use Rattle.screen.proofs.Showing.{screens_few, show_past, show_within, show_says}
use Rattle.screen.proofs.show.show.Goals as goal

pub returns-then-screens-number : goal.returns-then-screens-number
returns-then-screens-number c =
    let a = c.args in
    let pre = c.requires in let it = counted_refused _ _ _ (show_past pre.0.records a.low a.high a.number pre.1 pre.2 _ (omega (arith, c.screens_for-screens.ensures, c.if-screens-number.true))) (c.refuse.ensures.answer, c.refuse.ensures.output) in record { answer = it.0; output = it.1 }

pub overflow_mul-first : goal.overflow_mul-first
overflow_mul-first c =
    let a = c.args in
    let pre = c.requires in
    omega (arith, show_within pre.0.records a.low a.high a.number pre.1 pre.2 (omega (arith, c.screens_for-screens.ensures, c.if-screens-number.false)))

pub overflow_add-first : goal.overflow_add-first
overflow_add-first c =
    let a = c.args in
    let pre = c.requires in
    omega (arith, show_within pre.0.records a.low a.high a.number pre.1 pre.2 (omega (arith, c.screens_for-screens.ensures, c.if-screens-number.false)))

pub overflow_sub-high-2 : goal.overflow_sub-high-2
overflow_sub-high-2 c =
    let a = c.args in
    let pre = c.requires in
    show_within pre.0.records a.low a.high a.number pre.1 pre.2 (omega (arith, c.screens_for-screens.ensures, c.if-screens-number.false))

pub overflow_add-end : goal.overflow_add-end
overflow_add-end c =
    let a = c.args in
    let pre = c.requires in
    omega (arith, c.min.ensures, show_within pre.0.records a.low a.high a.number pre.1 pre.2 (omega (arith, c.screens_for-screens.ensures, c.if-screens-number.false)))

pub write_range-requires : goal.write_range-requires
write_range-requires c =
    let a = c.args in
    let pre = c.requires in
    let first = show_within pre.0.records a.low a.high a.number pre.1 pre.2 (omega (arith, c.screens_for-screens.ensures, c.if-screens-number.false)) in
    (pre.0, omega arith, omega (arith, pre.2, c.min.ensures))

pub overflow_cast-result : goal.overflow_cast-result
overflow_cast-result c =
    let a = c.args in
    let pre = c.requires in
    omega (arith, c.screens_for-screens.ensures, screens_few (a.high - a.low) (omega (arith, pre.2, accepted_few pre.0.bytes pre.0.records)))

pub returns-in_err-len : goal.returns-in_err-len
returns-in_err-len c =
    let a = c.args in
    let pre = c.requires in let it = show_says pre.0.records a.low a.high a.number pre.1 pre.2 (omega (arith, c.screens_for-screens.ensures, c.if-screens-number.false)) _ c.min.ensures _ (c.write_range.ensures.answer, c.write_range.ensures.output) _ c.screens_for-screens.ensures (rw c.in_err-len.was (search rules)) in record { answer = it.0; output = it.1 }

pub returns : goal.returns
returns c =
    let a = c.args in
    let pre = c.requires in let it = show_says pre.0.records a.low a.high a.number pre.1 pre.2 (omega (arith, c.screens_for-screens.ensures, c.if-screens-number.false)) _ c.min.ensures _ (c.write_range.ensures.answer, c.write_range.ensures.output) _ c.screens_for-screens.ensures (rw c.in_ok-len.was) in record { answer = it.0; output = it.1 }
