use mathlib.Core.Path.{◌∙◌}
use native.Mathlib.Omega.{arith}
use Rattle.layout.proofs.Holding.{half_within, held_length, same_memory, key_room, key_held}
use Rattle.layout.proofs.Measures.{measured_none, measured_more, measured_fits, measured_all}
use Rattle.layout.proofs.Bounds.{next_within, next_fits, word_fits, word_within, range_falls}
use Rattle.layout.proofs.sizes.measure_entries.Goals as goal

pub loop-i-init : goal.loop-i-init
loop-i-init c = measured_none c.requires.0 c.requires.1

pub overflow_add-i : goal.overflow_add-i
overflow_add-i c = next_fits c.loop-i-test.true c.requires.0.range.few

pub run_end-next-requires : goal.run_end-next-requires
run_end-next-requires c = (next_within c.loop-i-test.true, c.requires.0.range.room)

pub overflow_add-i-in-loop-i : goal.overflow_add-i-in-loop-i
overflow_add-i-in-loop-i c = next_fits c.loop-i-test.true c.requires.0.range.few

pub has_page-linked-requires : goal.has_page-linked-requires
has_page-linked-requires c = c.run_end-next.ensures.from

pub offset_bounds-row-i : goal.offset_bounds-row-i
offset_bounds-row-i c = word_fits c.loop-i-test.true c.requires.0.range.few

pub bounds-row-i : goal.bounds-row-i
bounds-row-i c = word_within c.loop-i-test.true c.requires.0.range.room

pub recall-found-requires : goal.recall-found-requires
recall-found-requires c =
    let l = c.loop-i in
    let half = half_within l.notes l.invariant.holding.slots 0 (omega arith) in
    let p = c.requires.0.range in
    (p.first, p.second, (p.stands l.i c.loop-i-test.true).held, l.invariant.holding.memory, half.0, half.1)

pub slice_bounds-length_after-end : goal.slice_bounds-length_after-end
slice_bounds-length_after-end c = held_length c.loop-i.invariant.holding

pub length_after-len-requires : goal.length_after-len-requires
length_after-len-requires c = (c.recall-found.ensures.room, c.recall-found.ensures.short)

pub overflow_add-len : goal.overflow_add-len
overflow_add-len c = measured_fits c.loop-i.invariant c.length_after-len.result c.length_after-len.ensures.1 c.requires.0.range.few

pub hold-requires : goal.hold-requires
hold-requires c = (c.recall-found.ensures.room, key_room c.loop-i.invariant.holding c.recall-found.ensures c.recall-found.auto.notes)

pub loop-i-smaller : goal.loop-i-smaller
loop-i-smaller c = range_falls c.loop-i-test.true c.run_end-next.ensures.from c.run_end-next.ensures.to

pub loop-i-preserved : goal.loop-i-preserved
loop-i-preserved c =
    let l = c.loop-i in
    let r = c.recall-found in
    let size = c.length_after-len in
    let h = c.loop-i-test.true in
    let k = key_held l.invariant.holding r.ensures r.auto.notes _ c.hold.ensures in
    measured_more l.invariant k (c.requires.0.range.stands l.i h) h c.run_end-next.result c.run_end-next.ensures c.has_page-linked.result c.has_page-linked.ensures size.result (size.ensures.0 ∙ rw r.ensures.key) size.ensures.1

pub shape_of-keys : goal.shape_of-keys
shape_of-keys c = (same_memory c.requires.0 c.loop-i.invariant.holding).0

pub shape_of-notes : goal.shape_of-notes
shape_of-notes c = (same_memory c.requires.0 c.loop-i.invariant.holding).1

pub returns : goal.returns
returns c =
    let l = c.loop-i in record {
      size = measured_all l.invariant c.loop-i-test.false c.requires.0.range.few;
      memory = l.invariant.holding.memory;
    }
