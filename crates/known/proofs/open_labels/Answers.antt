use borrow.Author.Rules.{rules}
use Prim.Native.Nat.{◌<◌}
use native.Mathlib.Omega.{arith}
use Rattle.known.specs.Rows.{label_count}
use Rattle.known.proofs.Labels.{label_above, label_within}
use Rattle.known.proofs.Opening.{none_tried, open_all, open_stops, open_more}
use Rattle.known.proofs.open_labels.Goals as goal

pub loop-k-init : goal.loop-k-init
loop-k-init c =
    let a = c.args in
    none_tried a.s.now a.heads.now a.words.now a.root.now a.u.now a.word a.most

pub label_place-at-requires : goal.label_place-at-requires
label_place-at-requires c =
    let a = c.args in
    let l = c.loop-k in
    let h : l.k < label_count a.word = omega (arith, c.requires.3) in
    (label_above a.word l.k h, search rules)

pub overflow_add-at : goal.overflow_add-at
overflow_add-at c =
    let a = c.args in
    let l = c.loop-k in
    let h : l.k < label_count a.word = omega (arith, c.requires.3) in
    let within = label_within a.u.now a.word c.requires.2 l.k h c.label_place-at.result c.label_place-at.ensures in
    omega arith

pub slice_bounds-is_known-end : goal.slice_bounds-is_known-end
slice_bounds-is_known-end c =
    let a = c.args in
    let l = c.loop-k in
    let h : l.k < label_count a.word = omega (arith, c.requires.3) in
    let within = label_within a.u.now a.word c.requires.2 l.k h c.label_place-at.result c.label_place-at.ensures in
    search rules

pub is_known-requires : goal.is_known-requires
is_known-requires c =
    let a = c.args in
    let l = c.loop-k in
    let h : l.k < label_count a.word = omega (arith, c.requires.3) in
    let within = label_within a.u.now a.word c.requires.2 l.k h c.label_place-at.result c.label_place-at.ensures in
    search rules

pub returns-then-is_known : goal.returns-then-is_known
returns-then-is_known c =
    let a = c.args in
    let l = c.loop-k in
    (search rules, open_stops a.s.now a.heads.now a.words.now a.root.now a.u.now a.word a.most c.requires.3 l.k l.invariant (omega arith) c.label_place-at.result c.label_place-at.ensures c.is_known.result c.is_known.ensures c.if-is_known.true)

pub loop-k-preserved : goal.loop-k-preserved
loop-k-preserved c =
    let a = c.args in
    let l = c.loop-k in
    open_more a.s.now a.heads.now a.words.now a.root.now a.u.now a.word a.most c.requires.3 l.k l.invariant (omega arith) c.label_place-at.result c.label_place-at.ensures c.is_known.result c.is_known.ensures c.if-is_known.false

pub returns : goal.returns
returns c =
    let a = c.args in
    let l = c.loop-k in
    (search rules, open_all a.s.now a.heads.now a.words.now a.root.now a.u.now a.word a.most c.requires.3 l.k l.invariant (omega arith))
