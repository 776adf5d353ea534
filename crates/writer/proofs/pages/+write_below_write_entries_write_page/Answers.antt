use borrow.Author.Rules.{rules}
use Prim.Native.Nat.{◌+◌, ◌-◌, ◌*◌}
use mathlib.Core.Path.{refl, ◌∙◌}
use native.Mathlib.Omega.{arith}
use native.Mathlib.Nat.{le_refl}
use Rattle.layout.specs.Build.{record_in}
use Rattle.layout.proofs.Bounds.{next_within, next_fits, word_fits, word_within, range_falls}
use Rattle.layout.proofs.Holding.{same_memory}
use Rattle.writer.proofs.Falling.{one_below, two_below, next_below}
use Rattle.writer.proofs.Gaps.{no_room, own_fits, gap_layer, gap_nothing, gap_below, gap_refused}
use Rattle.writer.proofs.Turns.{ready_within, still_holding, starts, out_length, tail_within, tail_grown, limit_within, below_length, turn_length, laid_all, turn_lacks, turn_done, turn_refused}
use Rattle.writer.proofs.Composing.{own_lacks, begun, left_lacks, tail_fits, first_length, start_room, foot_within, places, entered, entries_lack, at_within, whole_fits, end_room, end_length, finishes}
use Rattle.writer.proofs.pages.+write_below_write_entries_write_page.Goals as goal

pub write_entries-loop-i-init : goal.write_entries-loop-i-init
write_entries-loop-i-init t c =
    let p = c.requires in
    starts p.0 p.3 p.4 p.5 p.6

pub write_entries-overflow_add-i : goal.write_entries-overflow_add-i
write_entries-overflow_add-i t c = next_fits c.loop-i-test.true c.requires.0.range.few

pub write_entries-run_end-next-requires : goal.write_entries-run_end-next-requires
write_entries-run_end-next-requires t c = (next_within c.loop-i-test.true, c.requires.0.range.room)

pub write_entries-overflow_add-i-in-loop-i : goal.write_entries-overflow_add-i-in-loop-i
write_entries-overflow_add-i-in-loop-i t c = next_fits c.loop-i-test.true c.requires.0.range.few

pub write_entries-slice_bounds-write_below-count : goal.write_entries-slice_bounds-write_below-count
write_entries-slice_bounds-write_below-count t c = tail_within c.loop-i.invariant

pub write_entries-slice_bounds-write_below-start : goal.write_entries-slice_bounds-write_below-start
write_entries-slice_bounds-write_below-start t c = tail_within c.loop-i.invariant

pub write_entries-slice_bounds-write_below-end : goal.write_entries-slice_bounds-write_below-end
write_entries-slice_bounds-write_below-end t c = le_refl _

pub write_entries-write_below-requires : goal.write_entries-write_below-requires
write_entries-write_below-requires t c =
    let l = c.loop-i in
    let p = c.requires in
    let r = c.run_end-next in
    (one_below c.decreases, (ready_within p.0 (l.i + 1) r.result l.invariant.holding.memory l.invariant.holding.slots r.ensures.from r.ensures.to, p.1, p.2))

pub write_entries-offset_bounds-row-i : goal.write_entries-offset_bounds-row-i
write_entries-offset_bounds-row-i t c = word_fits c.loop-i-test.true c.requires.0.range.few

pub write_entries-bounds-row-i : goal.write_entries-bounds-row-i
write_entries-bounds-row-i t c = word_within c.loop-i-test.true c.requires.0.range.room

pub write_entries-slice_bounds-write_record-count : goal.write_entries-slice_bounds-write_record-count
write_entries-slice_bounds-write_record-count t c = c.loop-i.invariant.inside

pub write_entries-slice_bounds-write_record-start : goal.write_entries-slice_bounds-write_record-start
write_entries-slice_bounds-write_record-start t c = c.loop-i.invariant.inside

pub write_entries-slice_bounds-write_record-end-in-loop-i : goal.write_entries-slice_bounds-write_record-end-in-loop-i
write_entries-slice_bounds-write_record-end-in-loop-i t c = limit_within c.loop-i.invariant c.write_below.new.out c.write_below.auto.out

pub write_entries-write_record-requires : goal.write_entries-write_record-requires
write_entries-write_record-requires t c =
    let l = c.loop-i in
    let r = c.requires.0.range in
    let w = c.write_below in (
      record { first = r.first; second = r.second; stands = r.stands l.i c.loop-i-test.true },
      still_holding l.invariant.holding w.ensures.memory w.auto.notes,
    )

pub write_entries-shape_of-keys-in_err-w : goal.write_entries-shape_of-keys-in_err-w
write_entries-shape_of-keys-in_err-w t c = c.write_below.auto.keys ∙ (same_memory c.requires.0 c.loop-i.invariant.holding).0

pub write_entries-shape_of-notes-in_err-w : goal.write_entries-shape_of-notes-in_err-w
write_entries-shape_of-notes-in_err-w t c = c.write_below.auto.notes ∙ (same_memory c.requires.0 c.loop-i.invariant.holding).1

pub write_entries-shape_of-out-in_err-w : goal.write_entries-shape_of-out-in_err-w
write_entries-shape_of-out-in_err-w t c = below_length c.loop-i.invariant c.write_below.new.out c.write_below.auto.out

pub write_entries-returns-in_err-w : goal.write_entries-returns-in_err-w
write_entries-returns-in_err-w t c =
    let l = c.loop-i in
    let h = c.loop-i-test.true in
    let w = c.write_below in record {
      entries = turn_lacks l.invariant h (c.requires.0.range.stands l.i h) c.run_end-next.ensures w.ensures.tables w.auto.out _ c.in_err-w.was _ (search rules);
      memory = w.ensures.memory;
    }

pub write_entries-shape_of-keys-in_err-added : goal.write_entries-shape_of-keys-in_err-added
write_entries-shape_of-keys-in_err-added t c =
    c.write_record.auto.keys ∙ c.write_below.auto.keys ∙ (same_memory c.requires.0 c.loop-i.invariant.holding).0

pub write_entries-shape_of-notes-in_err-added : goal.write_entries-shape_of-notes-in_err-added
write_entries-shape_of-notes-in_err-added t c =
    c.write_record.auto.notes ∙ c.write_below.auto.notes ∙ (same_memory c.requires.0 c.loop-i.invariant.holding).1

pub write_entries-shape_of-out-in_err-added : goal.write_entries-shape_of-out-in_err-added
write_entries-shape_of-out-in_err-added t c =
    turn_length c.loop-i.invariant c.write_below.new.out c.write_record.new.out c.write_below.auto.out c.write_record.auto.out

pub write_entries-returns-in_err-added : goal.write_entries-returns-in_err-added
write_entries-returns-in_err-added t c =
    let l = c.loop-i in
    let h = c.loop-i-test.true in
    let w = c.write_below in
    let d = c.write_record.ensures in record {
      entries = turn_refused l.invariant h (c.requires.0.range.stands l.i h) c.run_end-next.ensures w.ensures.tables w.auto.out c.in_ok-w.was d _ c.in_err-added.was _ (search rules);
      memory = d.memory;
    }

pub write_entries-overflow_add-at : goal.write_entries-overflow_add-at
write_entries-overflow_add-at t c =
    let l = c.loop-i in
    let h = c.loop-i-test.true in
    let w = c.write_below in
    let g = turn_done l.invariant h (c.requires.0.range.stands l.i h) c.run_end-next.ensures w.ensures.tables w.auto.out c.in_ok-w.was c.write_record.ensures c.in_ok-added.was in
    omega (arith, g.inside, c.requires.5, c.requires.6)

pub write_entries-overflow_add-tail : goal.write_entries-overflow_add-tail
write_entries-overflow_add-tail t c =
    let l = c.loop-i in
    let h = c.loop-i-test.true in
    let w = c.write_below in
    let g = turn_done l.invariant h (c.requires.0.range.stands l.i h) c.run_end-next.ensures w.ensures.tables w.auto.out c.in_ok-w.was c.write_record.ensures c.in_ok-added.was in
    omega (arith, g.fits)

pub write_entries-loop-i-smaller : goal.write_entries-loop-i-smaller
write_entries-loop-i-smaller t c = range_falls c.loop-i-test.true c.run_end-next.ensures.from c.run_end-next.ensures.to

pub write_entries-loop-i-preserved : goal.write_entries-loop-i-preserved
write_entries-loop-i-preserved t c =
    let l = c.loop-i in
    let h = c.loop-i-test.true in
    let w = c.write_below in
    turn_done l.invariant h (c.requires.0.range.stands l.i h) c.run_end-next.ensures w.ensures.tables w.auto.out c.in_ok-w.was c.write_record.ensures c.in_ok-added.was

pub write_entries-overflow_sub-result : goal.write_entries-overflow_sub-result
write_entries-overflow_sub-result t c = tail_grown c.loop-i.invariant

pub write_entries-shape_of-keys : goal.write_entries-shape_of-keys
write_entries-shape_of-keys t c = (same_memory c.requires.0 c.loop-i.invariant.holding).0

pub write_entries-shape_of-notes : goal.write_entries-shape_of-notes
write_entries-shape_of-notes t c = (same_memory c.requires.0 c.loop-i.invariant.holding).1

pub write_entries-shape_of-out : goal.write_entries-shape_of-out
write_entries-shape_of-out t c = out_length c.loop-i.invariant

pub write_entries-returns : goal.write_entries-returns
write_entries-returns t c =
    record {
      entries = laid_all c.loop-i.invariant c.loop-i-test.false;
      memory = c.loop-i.invariant.holding.memory;
    }

pub write_below-has_page-requires : goal.write_below-has_page-requires
write_below-has_page-requires t c = c.requires.0.order

pub write_below-returns-then-not-has_page : goal.write_below-returns-then-not-has_page
write_below-returns-then-not-has_page t c =
    let a = c.args in
    let has = c.has_page in record {
      tables = gap_nothing a.layer (record_in a.s.now a.u.now a.row.now) a.lo (a.hi - a.lo) a.out.now a.out.now has.result has.ensures c.if-not-has_page.true;
      memory = c.requires.0.memory;
    }

pub write_below-overflow_sub-layer : goal.write_below-overflow_sub-layer
write_below-overflow_sub-layer t c =
    let a = c.args in
    gap_layer a.layer (record_in a.s.now a.u.now a.row.now) a.lo (a.hi - a.lo) a.out.now a.out.now c.has_page.result c.has_page.ensures c.if-not-has_page.false

pub write_below-write_page-requires : goal.write_below-write_page-requires
write_below-write_page-requires t c =
    let a = c.args in
    let some = gap_layer a.layer (record_in a.s.now a.u.now a.row.now) a.lo (a.hi - a.lo) a.out.now a.out.now c.has_page.result c.has_page.ensures c.if-not-has_page.false in
    (omega (arith, c.decreases, some), c.requires)

pub write_below-below_of-requires : goal.write_below-below_of-requires
write_below-below_of-requires t c =
    let p = c.requires in
    let w = c.write_page in
    (p.1, p.2, p.0.range.room, own_fits w.ensures.table w.auto.out c.in_ok-w.was)

pub write_below-shape_of-keys : goal.write_below-shape_of-keys
write_below-shape_of-keys t c = c.write_page.auto.keys

pub write_below-shape_of-notes : goal.write_below-shape_of-notes
write_below-shape_of-notes t c = c.write_page.auto.notes

pub write_below-shape_of-out : goal.write_below-shape_of-out
write_below-shape_of-out t c = c.write_page.auto.out

pub write_below-shape_of-keys-in_err-w : goal.write_below-shape_of-keys-in_err-w
write_below-shape_of-keys-in_err-w t c = c.write_page.auto.keys

pub write_below-shape_of-notes-in_err-w : goal.write_below-shape_of-notes-in_err-w
write_below-shape_of-notes-in_err-w t c = c.write_page.auto.notes

pub write_below-shape_of-out-in_err-w : goal.write_below-shape_of-out-in_err-w
write_below-shape_of-out-in_err-w t c = c.write_page.auto.out

pub write_below-returns-in_err-w : goal.write_below-returns-in_err-w
write_below-returns-in_err-w t c =
    let a = c.args in
    let has = c.has_page in
    let w = c.write_page in record {
      tables = gap_refused a.layer (record_in a.s.now a.u.now a.row.now) a.lo (a.hi - a.lo) a.out.now _ has.result has.ensures c.if-not-has_page.false (a.layer - 1) refl w.ensures.table c.in_err-w.was _ (search rules);
      memory = w.ensures.memory;
    }

pub write_below-returns : goal.write_below-returns
write_below-returns t c =
    let a = c.args in
    let has = c.has_page in
    let w = c.write_page in record {
      tables = gap_below a.layer (record_in a.s.now a.u.now a.row.now) a.lo (a.hi - a.lo) a.out.now _ has.result has.ensures c.if-not-has_page.false (a.layer - 1) refl w.ensures.table c.in_ok-w.was c.below_of.result c.below_of.ensures;
      memory = w.ensures.memory;
    }

pub write_page-measure-size-requires : goal.write_page-measure-size-requires
write_page-measure-size-requires t c = c.requires.0

pub write_page-shape_of-keys-then-out-own : goal.write_page-shape_of-keys-then-out-own
write_page-shape_of-keys-then-out-own t c = c.measure-size.auto.keys

pub write_page-shape_of-notes-then-out-own : goal.write_page-shape_of-notes-then-out-own
write_page-shape_of-notes-then-out-own t c = c.measure-size.auto.notes

pub write_page-returns-then-out-own : goal.write_page-returns-then-out-own
write_page-returns-then-out-own t c =
    let m = c.measure-size in record {
      table = no_room _ c.args.out.now _ _ (own_lacks c.args.out.now m.ensures.size c.if-out-own.true) refl;
      memory = m.ensures.memory;
    }

pub write_page-slice_bounds-write_below-count : goal.write_page-slice_bounds-write_below-count
write_page-slice_bounds-write_below-count t c = c.if-out-own.false

pub write_page-slice_bounds-write_below-start : goal.write_page-slice_bounds-write_below-start
write_page-slice_bounds-write_below-start t c = c.if-out-own.false

pub write_page-slice_bounds-write_below-end : goal.write_page-slice_bounds-write_below-end
write_page-slice_bounds-write_below-end t c = le_refl _

pub write_page-write_below-requires : goal.write_page-write_below-requires
write_page-write_below-requires t c =
    let p = c.requires in
    let m = c.measure-size in
    let run = m.ensures.size.run in
    (two_below c.decreases, (ready_within p.0 c.args.lo m.result.first m.ensures.memory (m.auto.notes ∙ p.0.slots) run.from run.to, p.1, p.2))

pub write_page-shape_of-keys-in_err-left : goal.write_page-shape_of-keys-in_err-left
write_page-shape_of-keys-in_err-left t c = c.write_below.auto.keys ∙ c.measure-size.auto.keys

pub write_page-shape_of-notes-in_err-left : goal.write_page-shape_of-notes-in_err-left
write_page-shape_of-notes-in_err-left t c = c.write_below.auto.notes ∙ c.measure-size.auto.notes

pub write_page-returns-in_err-left : goal.write_page-returns-in_err-left
write_page-returns-in_err-left t c =
    record {
      table = no_room _ c.args.out.now _ _ (left_lacks (begun c.args.s.now c.args.u.now c.args.row.now c.args.lo c.args.hi c.args.layer c.args.out.now c.measure-size.result c.write_below.new.out c.write_below.result c.measure-size.ensures.size c.if-out-own.false c.write_below.ensures.tables) c.in_err-left.was) (search rules);
      memory = c.write_below.ensures.memory;
    }

pub write_page-write_page_start-start-requires : goal.write_page-write_page_start-start-requires
write_page-write_page_start-start-requires t c = start_room (begun c.args.s.now c.args.u.now c.args.row.now c.args.lo c.args.hi c.args.layer c.args.out.now c.measure-size.result c.write_below.new.out c.write_below.result c.measure-size.ensures.size c.if-out-own.false c.write_below.ensures.tables) c.in_ok-left.was

pub write_page-overflow_sub-own : goal.write_page-overflow_sub-own
write_page-overflow_sub-own t c = foot_within (begun c.args.s.now c.args.u.now c.args.row.now c.args.lo c.args.hi c.args.layer c.args.out.now c.measure-size.result c.write_below.new.out c.write_below.result c.measure-size.ensures.size c.if-out-own.false c.write_below.ensures.tables) c.in_ok-left.was _ (rw c.is_some.ensures at c.page_end_length.ensures.0)

pub write_page-overflow_add-own : goal.write_page-overflow_add-own
write_page-overflow_add-own t c = omega (arith, tail_fits (begun c.args.s.now c.args.u.now c.args.row.now c.args.lo c.args.hi c.args.layer c.args.out.now c.measure-size.result c.write_below.new.out c.write_below.result c.measure-size.ensures.size c.if-out-own.false c.write_below.ensures.tables) c.in_ok-left.was)

pub write_page-write_entries-requires : goal.write_page-write_entries-requires
write_page-write_entries-requires t c =
    let p = c.requires in
    let b = begun c.args.s.now c.args.u.now c.args.row.now c.args.lo c.args.hi c.args.layer c.args.out.now c.measure-size.result c.write_below.new.out c.write_below.result c.measure-size.ensures.size c.if-out-own.false c.write_below.ensures.tables in
    let e = c.in_ok-left.was in
    let w = c.write_below in
    let x = c.write_page_start-start in
    let run = b.sized.run in
    let places = places b e x.result c.page_end_length.result x.new.out x.ensures.count (rw c.is_some.ensures at c.page_end_length.ensures.0) (x.auto.out ∙ first_length b e) in (
      next_below (3 * c.args.layer) c.decreases,
      (
        ready_within p.0 c.measure-size.result.first c.args.hi w.ensures.memory (w.auto.notes ∙ c.measure-size.auto.notes ∙ p.0.slots) run.to (le_refl _),
        p.1,
        p.2,
        run.stop,
        places.0,
        places.1,
        places.2,
      ),
    )

pub write_page-shape_of-keys-in_err-laid : goal.write_page-shape_of-keys-in_err-laid
write_page-shape_of-keys-in_err-laid t c = c.write_entries.auto.keys ∙ c.write_below.auto.keys ∙ c.measure-size.auto.keys

pub write_page-shape_of-notes-in_err-laid : goal.write_page-shape_of-notes-in_err-laid
write_page-shape_of-notes-in_err-laid t c = c.write_entries.auto.notes ∙ c.write_below.auto.notes ∙ c.measure-size.auto.notes

pub write_page-shape_of-out-in_err-laid : goal.write_page-shape_of-out-in_err-laid
write_page-shape_of-out-in_err-laid t c =
    let b = begun c.args.s.now c.args.u.now c.args.row.now c.args.lo c.args.hi c.args.layer c.args.out.now c.measure-size.result c.write_below.new.out c.write_below.result c.measure-size.ensures.size c.if-out-own.false c.write_below.ensures.tables in
    let x = c.write_page_start-start in
    let none = c.in_ok-left.was in
    let foot = rw c.is_some.ensures at c.page_end_length.ensures.0 in
    let entered = entered b none _ _ x.ensures.output x.ensures.count x.auto.out _ foot _ c.write_entries.auto.out c.write_entries.ensures.entries in
    entered.kept

pub write_page-returns-in_err-laid : goal.write_page-returns-in_err-laid
write_page-returns-in_err-laid t c =
    let b = begun c.args.s.now c.args.u.now c.args.row.now c.args.lo c.args.hi c.args.layer c.args.out.now c.measure-size.result c.write_below.new.out c.write_below.result c.measure-size.ensures.size c.if-out-own.false c.write_below.ensures.tables in
    let x = c.write_page_start-start in
    let none = c.in_ok-left.was in
    let foot = rw c.is_some.ensures at c.page_end_length.ensures.0 in
    let entered = entered b none _ _ x.ensures.output x.ensures.count x.auto.out _ foot _ c.write_entries.auto.out c.write_entries.ensures.entries in
    record {
      table = no_room _ c.args.out.now _ _ (entries_lack entered c.in_err-laid.was) (search rules);
      memory = c.write_entries.ensures.memory;
    }

pub write_page-slice_bounds-write_page_end-count : goal.write_page-slice_bounds-write_page_end-count
write_page-slice_bounds-write_page_end-count t c =
    let b = begun c.args.s.now c.args.u.now c.args.row.now c.args.lo c.args.hi c.args.layer c.args.out.now c.measure-size.result c.write_below.new.out c.write_below.result c.measure-size.ensures.size c.if-out-own.false c.write_below.ensures.tables in
    let x = c.write_page_start-start in
    let none = c.in_ok-left.was in
    let foot = rw c.is_some.ensures at c.page_end_length.ensures.0 in
    let entered = entered b none _ _ x.ensures.output x.ensures.count x.auto.out _ foot _ c.write_entries.auto.out c.write_entries.ensures.entries in
    at_within entered c.in_ok-laid.was

pub write_page-slice_bounds-write_page_end-start : goal.write_page-slice_bounds-write_page_end-start
write_page-slice_bounds-write_page_end-start t c =
    let b = begun c.args.s.now c.args.u.now c.args.row.now c.args.lo c.args.hi c.args.layer c.args.out.now c.measure-size.result c.write_below.new.out c.write_below.result c.measure-size.ensures.size c.if-out-own.false c.write_below.ensures.tables in
    let x = c.write_page_start-start in
    let none = c.in_ok-left.was in
    let foot = rw c.is_some.ensures at c.page_end_length.ensures.0 in
    let entered = entered b none _ _ x.ensures.output x.ensures.count x.auto.out _ foot _ c.write_entries.auto.out c.write_entries.ensures.entries in
    at_within entered c.in_ok-laid.was

pub write_page-slice_bounds-write_page_end-end : goal.write_page-slice_bounds-write_page_end-end
write_page-slice_bounds-write_page_end-end t c = le_refl _

pub write_page-write_page_end-requires : goal.write_page-write_page_end-requires
write_page-write_page_end-requires t c =
    let b = begun c.args.s.now c.args.u.now c.args.row.now c.args.lo c.args.hi c.args.layer c.args.out.now c.measure-size.result c.write_below.new.out c.write_below.result c.measure-size.ensures.size c.if-out-own.false c.write_below.ensures.tables in
    let x = c.write_page_start-start in
    let none = c.in_ok-left.was in
    let foot = rw c.is_some.ensures at c.page_end_length.ensures.0 in
    let entered = entered b none _ _ x.ensures.output x.ensures.count x.auto.out _ foot _ c.write_entries.auto.out c.write_entries.ensures.entries in
    end_room entered c.in_ok-laid.was

pub write_page-overflow_add-page : goal.write_page-overflow_add-page
write_page-overflow_add-page t c =
    let b = begun c.args.s.now c.args.u.now c.args.row.now c.args.lo c.args.hi c.args.layer c.args.out.now c.measure-size.result c.write_below.new.out c.write_below.result c.measure-size.ensures.size c.if-out-own.false c.write_below.ensures.tables in
    let x = c.write_page_start-start in
    let none = c.in_ok-left.was in
    let foot = rw c.is_some.ensures at c.page_end_length.ensures.0 in
    let entered = entered b none _ _ x.ensures.output x.ensures.count x.auto.out _ foot _ c.write_entries.auto.out c.write_entries.ensures.entries in
    omega (arith, whole_fits entered c.in_ok-laid.was, c.write_page_end.ensures.count)

pub write_page-overflow_add-result : goal.write_page-overflow_add-result
write_page-overflow_add-result t c =
    let b = begun c.args.s.now c.args.u.now c.args.row.now c.args.lo c.args.hi c.args.layer c.args.out.now c.measure-size.result c.write_below.new.out c.write_below.result c.measure-size.ensures.size c.if-out-own.false c.write_below.ensures.tables in
    let x = c.write_page_start-start in
    let none = c.in_ok-left.was in
    let foot = rw c.is_some.ensures at c.page_end_length.ensures.0 in
    let entered = entered b none _ _ x.ensures.output x.ensures.count x.auto.out _ foot _ c.write_entries.auto.out c.write_entries.ensures.entries in
    omega (arith, whole_fits entered c.in_ok-laid.was, c.write_page_end.ensures.count)

pub write_page-overflow_add-result-2 : goal.write_page-overflow_add-result-2
write_page-overflow_add-result-2 t c =
    let b = begun c.args.s.now c.args.u.now c.args.row.now c.args.lo c.args.hi c.args.layer c.args.out.now c.measure-size.result c.write_below.new.out c.write_below.result c.measure-size.ensures.size c.if-out-own.false c.write_below.ensures.tables in
    let x = c.write_page_start-start in
    let none = c.in_ok-left.was in
    let foot = rw c.is_some.ensures at c.page_end_length.ensures.0 in
    let entered = entered b none _ _ x.ensures.output x.ensures.count x.auto.out _ foot _ c.write_entries.auto.out c.write_entries.ensures.entries in
    omega (arith, whole_fits entered c.in_ok-laid.was, c.write_page_end.ensures.count)

pub write_page-shape_of-keys : goal.write_page-shape_of-keys
write_page-shape_of-keys t c = c.write_entries.auto.keys ∙ c.write_below.auto.keys ∙ c.measure-size.auto.keys

pub write_page-shape_of-notes : goal.write_page-shape_of-notes
write_page-shape_of-notes t c = c.write_entries.auto.notes ∙ c.write_below.auto.notes ∙ c.measure-size.auto.notes

pub write_page-shape_of-out : goal.write_page-shape_of-out
write_page-shape_of-out t c =
    let b = begun c.args.s.now c.args.u.now c.args.row.now c.args.lo c.args.hi c.args.layer c.args.out.now c.measure-size.result c.write_below.new.out c.write_below.result c.measure-size.ensures.size c.if-out-own.false c.write_below.ensures.tables in
    let x = c.write_page_start-start in
    let none = c.in_ok-left.was in
    let foot = rw c.is_some.ensures at c.page_end_length.ensures.0 in
    let entered = entered b none _ _ x.ensures.output x.ensures.count x.auto.out _ foot _ c.write_entries.auto.out c.write_entries.ensures.entries in
    end_length entered c.in_ok-laid.was c.write_page_end.new.out c.write_page_end.auto.out

pub write_page-returns : goal.write_page-returns
write_page-returns t c =
    let b = begun c.args.s.now c.args.u.now c.args.row.now c.args.lo c.args.hi c.args.layer c.args.out.now c.measure-size.result c.write_below.new.out c.write_below.result c.measure-size.ensures.size c.if-out-own.false c.write_below.ensures.tables in
    let x = c.write_page_start-start in
    let none = c.in_ok-left.was in
    let foot = rw c.is_some.ensures at c.page_end_length.ensures.0 in
    let entered = entered b none _ _ x.ensures.output x.ensures.count x.auto.out _ foot _ c.write_entries.auto.out c.write_entries.ensures.entries in
    let z = c.write_page_end in record {
      table = finishes entered c.in_ok-laid.was z.new.out z.ensures.output z.result z.ensures.count;
      memory = c.write_entries.ensures.memory;
    }
