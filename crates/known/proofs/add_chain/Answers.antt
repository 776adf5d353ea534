use borrow.Author.Rules.{rules}
use Prim.Native.Nat.{◌<◌}
use native.Mathlib.Omega.{arith}
use Rattle.known.specs.Rows.{label_count}
use Rattle.known.proofs.Labels.{label_above, label_fits, none_added, one_added, all_added}
use Rattle.known.proofs.add_chain.Goals as goal

pub loop-k-init : goal.loop-k-init
loop-k-init c = (search rules, search rules, search rules, search rules, search rules, search (rules, none_added))

pub label_place-requires : goal.label_place-requires
label_place-requires c =
    let a = c.args in
    let l = c.loop-k in
    let h : l.k < label_count a.word = omega (arith, l.invariant.0) in
    (label_above a.word l.k h, search rules)

pub add_link-total-requires : goal.add_link-total-requires
add_link-total-requires c =
    let a = c.args in
    let l = c.loop-k in
    let h : l.k < label_count a.word = omega (arith, l.invariant.0) in
    (search rules, search rules, label_fits a.s.now a.word c.requires.2 l.k h c.label_place.result c.label_place.ensures)

pub loop-k-preserved : goal.loop-k-preserved
loop-k-preserved c =
    let a = c.args in
    let l = c.loop-k in
    let h : l.k < label_count a.word = omega (arith, l.invariant.0) in
    (search rules, search rules, search rules, search rules, search rules, one_added a.s.now a.words.now l.words a.word a.count l.total l.k l.invariant.5 h c.label_place.result c.label_place.ensures _ _ _ c.add_link-total.ensures)

pub returns : goal.returns
returns c =
    let a = c.args in
    let l = c.loop-k in
    all_added a.s.now a.words.now l.heads l.words a.word a.count l.total l.k l.invariant.4 l.invariant.3 (omega (arith, l.invariant.0)) (omega (arith, l.invariant.0)) l.invariant.5
