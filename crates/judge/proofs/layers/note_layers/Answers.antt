use mathlib.Core.Path.{refl}
use native.Mathlib.Omega.{arith}
use lib.ListN.{length-set}
use Rattle.row.proofs.Memories.{fresh_zeros}
use Rattle.judge.proofs.LayerLoops.{layers_start, layers_end, next_places, layers_differ, layers_more, layer_small}
use borrow.Author.Rules.{rules}
use Rattle.judge.proofs.layers.note_layers.Goals as goal

pub loop-i-init : goal.loop-i-init
loop-i-init c = (search rules, search rules, search rules, search (rules, fresh_zeros), search (rules, layers_start))

pub recall-found-requires : goal.recall-found-requires
recall-found-requires c = (search rules, search rules, search (rules, next_places), search rules, search rules, search rules)

pub returns-then-sum-top : goal.returns-then-sum-top
returns-then-sum-top c =
    let a = c.args in
    let l = c.loop-i in
    let r = c.recall-found in
    let y = c.layer_of-layer in
    let d = c.layer_in in
    let t = c.unwrap_or-top in
    layers_differ a.s.now a.index.now a.n l.first l.i l.index l.invariant.4 c.loop-i-test.true _ _ r.result r.ensures _ refl y.result y.ensures d.result d.ensures t.result t.ensures c.if-sum-top.true

pub with_layer-requires : goal.with_layer-requires
with_layer-requires c = search (rules, layer_small)

pub loop-i-preserved : goal.loop-i-preserved
loop-i-preserved c =
    let a = c.args in
    let l = c.loop-i in
    let r = c.recall-found in
    let y = c.layer_of-layer in
    let d = c.layer_in in
    let t = c.unwrap_or-top in
    let w = c.with_layer in
    (omega (arith, l.invariant, length-set l.index l.i w.result), omega (arith, r.auto, l.invariant), omega (arith, r.auto, l.invariant), r.ensures.remembers, layers_more a.s.now a.index.now a.n l.first l.i l.index l.invariant.4 c.loop-i-test.true _ _ r.result r.ensures _ refl y.result y.ensures d.result d.ensures t.result t.ensures (omega (arith, c.if-sum-top)) w.result w.ensures)

pub returns : goal.returns
returns c = search (rules, layers_end)
