use Prim.Native.Nat.{◌+◌, ◌-◌}
use mathlib.Core.Path.{ap}
use mathlib.Core.Bool.{not}
use native.Mathlib.Omega.{arith}
use Rattle.digests.proofs.LabelLoops.{labels_start, labels_wrong, labels_more, labels_end}
use borrow.Author.Rules.{rules}
use Rattle.digests.proofs.labels_hold.Goals as goal

pub loop-k-init : goal.loop-k-init
loop-k-init c = (search rules, search rules, search rules, labels_start c.args.s.now c.args.link c.args.above c.args.page (c.args.above - 0) (omega arith))

pub returns-then-not-link_holds : goal.returns-then-not-link_holds
returns-then-not-link_holds c =
    let a = c.args in
    let l = c.loop-k in
    labels_wrong a.s.now a.link a.above a.page l.label (a.above - l.k) l.invariant.3 (omega arith) (omega (arith, l.invariant)) c.link_holds.result c.link_holds.ensures (ap not c.if-not-link_holds.true) a.end

pub loop-k-preserved : goal.loop-k-preserved
loop-k-preserved c =
    let a = c.args in
    let l = c.loop-k in
    (search rules, search rules, search rules, labels_more a.s.now a.link a.above a.page l.label (a.above - l.k) l.invariant.3 (omega arith) (omega (arith, l.invariant)) c.link_holds.result c.link_holds.ensures (ap not c.if-not-link_holds.false) (a.above - (l.k + 1)) (omega arith))

pub returns : goal.returns
returns c = search (rules, labels_end)
