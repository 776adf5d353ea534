use mathlib.Core.Path.{refl, sym, subst, ◌∙◌}
use borrow.Author.Rules.{rules}
use Rattle.std.specs.Prelude.{None}
use Rattle.choice.specs.Choice.{WithinSays, combined_of}
use native.Mathlib.Omega.{arith}
use Rattle.row.proofs.Memories.{fresh_zeros}
use Rattle.choice.proofs.Turns.{keys_size, others_size, begins, ends_first, ends_second, readable, too_many, turn, turn_less}
use Rattle.choice.proofs.choose.combine.Goals as goal

pub slice_bounds-cursor_at-end : goal.slice_bounds-cursor_at-end
slice_bounds-cursor_at-end c = refl

pub slice_bounds-cursor_at-end-2 : goal.slice_bounds-cursor_at-end-2
slice_bounds-cursor_at-end-2 c = refl

pub cursor_at-a-requires : goal.cursor_at-a-requires
cursor_at-a-requires c = (c.requires.0, fresh_zeros _ _ _ 64 refl, refl)

pub slice_bounds-cursor_at-end-3 : goal.slice_bounds-cursor_at-end-3
slice_bounds-cursor_at-end-3 c = refl

pub slice_bounds-cursor_at-end-4 : goal.slice_bounds-cursor_at-end-4
slice_bounds-cursor_at-end-4 c = refl

pub cursor_at-b-requires : goal.cursor_at-b-requires
cursor_at-b-requires c = (c.requires.1, fresh_zeros _ _ _ 64 refl, refl)

pub loop-a-init : goal.loop-a-init
loop-a-init c =
    let p = c.requires in
    let v = c.cursor_at-a in
    let w = c.cursor_at-b in
    (refl, begins _ _ _ _ _ _ _ _ _ p.0 p.1 v.ensures.1 w.ensures.1 v.auto.notes w.auto.notes v.ensures.0 w.ensures.0 p.2 p.3)

pub rest_end-end-requires : goal.rest_end-end-requires
rest_end-end-requires c = c.loop-a.invariant.1.within

pub append-requires : goal.append-requires
append-requires c =
    let f = c.loop-a.invariant.1 in
    (f.few, f.room, c.rest_end-end.ensures.1, omega (arith, c.rest_end-end.ensures.2, f.whole.room))

pub shape_of-row-then-m-b : goal.shape_of-row-then-m-b
shape_of-row-then-m-b c = c.append.auto.row ∙ c.loop-a.invariant.0

pub returns-then-m-b : goal.returns-then-m-b
returns-then-m-b c =
    let v = c.append in
    ends_second c.loop-a.invariant.1 v.result v.new.row v.auto.row c.if-m-b.true c.rest_end-end.ensures v.ensures

pub slice_bounds-candidate_at-end : goal.slice_bounds-candidate_at-end
slice_bounds-candidate_at-end c = keys_size c.loop-a.invariant.1

pub slice_bounds-candidate_at-end-in-loop-a : goal.slice_bounds-candidate_at-end-in-loop-a
slice_bounds-candidate_at-end-in-loop-a c = others_size c.loop-a.invariant.1

pub candidate_at-next-requires : goal.candidate_at-next-requires
candidate_at-next-requires c = readable c.loop-a.invariant.1 c.loop-a-test.true c.if-m-b.false

pub keep-requires : goal.keep-requires
keep-requires c = let f = c.loop-a.invariant.1 in (f.few, f.room, f.small)

pub shape_of-row-in_err-k : goal.shape_of-row-in_err-k
shape_of-row-in_err-k c = c.keep.auto.row ∙ c.loop-a.invariant.0

pub returns-in_err-k : goal.returns-in_err-k
returns-in_err-k c =
    subst (λ r. WithinSays c.args.limit c.args.s.now c.args.u.now (combined_of c.args.policy c.args.s.now c.args.u.now c.args.first.now c.args.n c.args.second.now c.args.m) r c.keep.new.row) {x = None} {y = c.from_residual.result} (search rules)
    (too_many c.loop-a.invariant.1 c.loop-a-test.true c.if-m-b.false _ c.candidate_at-next.ensures c.keep.result c.keep.new.row c.keep.ensures c.in_err-k.was)

pub slice_bounds-advance-end : goal.slice_bounds-advance-end
slice_bounds-advance-end c = keys_size c.loop-a.invariant.1

pub slice_bounds-advance-end-in-loop-a : goal.slice_bounds-advance-end-in-loop-a
slice_bounds-advance-end-in-loop-a c = sym c.loop-a.invariant.1.slots

pub advance-a-requires : goal.advance-a-requires
advance-a-requires c = let f = c.loop-a.invariant.1 in (f.whole, f.left, f.slots, c.loop-a-test.true)

pub slice_bounds-advance-end-in-loop-a-2 : goal.slice_bounds-advance-end-in-loop-a-2
slice_bounds-advance-end-in-loop-a-2 c = others_size c.loop-a.invariant.1

pub slice_bounds-advance-end-in-loop-a-3 : goal.slice_bounds-advance-end-in-loop-a-3
slice_bounds-advance-end-in-loop-a-3 c = sym c.loop-a.invariant.1.others_slots

pub advance-b-requires : goal.advance-b-requires
advance-b-requires c = let f = c.loop-a.invariant.1 in (f.other, f.right, f.others_slots, c.if-m-b.false)

pub loop-a-smaller : goal.loop-a-smaller
loop-a-smaller c =
    turn_less c.loop-a.invariant.1 c.loop-a-test.true c.if-m-b.false _ c.candidate_at-next.ensures c.advance-a.ensures.0 c.advance-b.ensures.0

pub loop-a-preserved : goal.loop-a-preserved
loop-a-preserved c =
    let l = c.loop-a in
    let v = c.advance-a in
    let w = c.advance-b in
    (c.keep.auto.row ∙ l.invariant.0, turn l.invariant.1 c.loop-a-test.true c.if-m-b.false _ c.candidate_at-next.ensures c.keep.result c.keep.new.row c.in_ok-k.k c.keep.ensures c.in_ok-k.was c.keep.auto.row v.ensures (v.auto.notes ∙ l.invariant.1.slots) w.ensures (w.auto.notes ∙ l.invariant.1.others_slots))

pub append-requires-2 : goal.append-requires-2
append-requires-2 c = let f = c.loop-a.invariant.1 in (f.few, f.room, f.beside, f.other.room)

pub shape_of-row : goal.shape_of-row
shape_of-row c = c.append-2.auto.row ∙ c.loop-a.invariant.0

pub returns : goal.returns
returns c =
    let v = c.append-2 in
    ends_first c.loop-a.invariant.1 v.result v.new.row v.auto.row c.loop-a-test.false v.ensures
