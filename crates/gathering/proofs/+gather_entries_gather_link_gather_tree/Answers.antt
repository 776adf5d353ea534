use borrow.Author.Rules.{rules}
use mathlib.Core.Path.{refl}
use native.Mathlib.Omega.{arith}
use Rattle.gathering.proofs.Falling.{link_falls, below_one, below_two, one_less}
use Rattle.gathering.proofs.Trees.{link_none, link_leads_on, layer_above, next_stands, link_followed}
use Rattle.gathering.proofs.Pages.{tree_goes_on, own_ahead, own_within, left_stands, row_stands, no_room_own, leaf_written, own_inside, no_room_left, both_inside, left_fits, no_room_row, tree_written, tree_fits}
use Rattle.gathering.proofs.Turns.{turns_begin, turns_end, total_within, turns_go_on, turn_stands, turn_gathered, turn_fits, no_room_turn}
use Rattle.gathering.proofs.+gather_entries_gather_link_gather_tree.Goals as goal

pub gather_entries-loop-j-init : goal.gather_entries-loop-j-init
gather_entries-loop-j-init t c = (refl, λ g. turns_begin g _)

pub gather_entries-slice_bounds-gather_link-count : goal.gather_entries-slice_bounds-gather_link-count
gather_entries-slice_bounds-gather_link-count t c = let l = c.loop-j in total_within c.requires (l.invariant.1 c.requires) l.invariant.0

pub gather_entries-slice_bounds-gather_link-start : goal.gather_entries-slice_bounds-gather_link-start
gather_entries-slice_bounds-gather_link-start t c = let l = c.loop-j in total_within c.requires (l.invariant.1 c.requires) l.invariant.0

pub gather_entries-gather_link-requires : goal.gather_entries-gather_link-requires
gather_entries-gather_link-requires t c =
    let g = c.requires in
    (below_one c.decreases, turn_stands g (c.loop-j.invariant.1 g) c.loop-j-test.true _ c.locate_entry.ensures c.in-Ok.e c.in-Ok.is)

pub gather_entries-overflow_add-total : goal.gather_entries-overflow_add-total
gather_entries-overflow_add-total t c =
    let g = c.requires in
    let l = c.loop-j in
    let w = c.gather_link in
    omega (arith, turn_fits g (l.invariant.1 g) c.loop-j-test.true _ c.locate_entry.ensures c.in-Ok.e c.in-Ok.is l.invariant.0 _ _ w.ensures c.in_ok-more.more c.in_ok-more.was w.auto.out)

pub gather_entries-returns-in_err-more : goal.gather_entries-returns-in_err-more
gather_entries-returns-in_err-more t c =
    let l = c.loop-j in
    λ g. rw c.from_residual.ensures (no_room_turn g (l.invariant.1 g) c.loop-j-test.true _ c.locate_entry.ensures c.in-Ok.e c.in-Ok.is l.invariant.0 _ _ c.gather_link.ensures c.in_err-more.was)

pub gather_entries-returns-in_default : goal.gather_entries-returns-in_default
gather_entries-returns-in_default t c =
    let l = c.loop-j in
    λ g. absurd (turns_go_on g (l.invariant.1 g) c.loop-j-test.true _ c.locate_entry.ensures _ c.in_default.is)

pub gather_entries-loop-j-preserved : goal.gather_entries-loop-j-preserved
gather_entries-loop-j-preserved t c =
    let l = c.loop-j in
    let h = c.loop-j-test.true in
    (search rules, λ g. turn_gathered g (l.invariant.1 g) h _ c.locate_entry.ensures c.in-Ok.e c.in-Ok.is l.invariant.0 _ _ c.gather_link.ensures c.in_ok-more.more c.in_ok-more.was)

pub gather_entries-returns : goal.gather_entries-returns
gather_entries-returns t c = let l = c.loop-j in λ g. turns_end g (l.invariant.1 g) (omega (arith, c.loop-j-test))

pub gather_link-returns-then-link-eq0 : goal.gather_link-returns-then-link-eq0
gather_link-returns-then-link-eq0 t c g = link_none g c.if-link-eq0.true _

pub gather_link-linked_page-i-requires : goal.gather_link-linked_page-i-requires
gather_link-linked_page-i-requires t c = link_leads_on c.requires c.if-link-eq0.false

pub gather_link-overflow_sub-layer : goal.gather_link-overflow_sub-layer
gather_link-overflow_sub-layer t c = layer_above c.requires c.if-link-eq0.false

pub gather_link-gather_tree-requires : goal.gather_link-gather_tree-requires
gather_link-gather_tree-requires t c =
    let g = c.requires in
    let z = c.if-link-eq0.false in
    let r = c.linked_page-i in
    (link_falls c.decreases (layer_above g z), next_stands g z r.result r.ensures)

pub gather_link-returns : goal.gather_link-returns
gather_link-returns t c =
    let r = c.linked_page-i in
    let w = c.gather_tree in
    λ g. link_followed g c.if-link-eq0.false r.result r.ensures c.args.out.now w.result w.new.out w.ensures

pub gather_tree-overflow_sub-own : goal.gather_tree-overflow_sub-own
gather_tree-overflow_sub-own t c = own_ahead c.requires _ c.word_place-at.ensures _ c.read_page.ensures c.in-Ok.p c.in-Ok.is

pub gather_tree-returns-then-out-own : goal.gather_tree-returns-then-out-own
gather_tree-returns-then-out-own t c =
    λ g. no_room_own g _ c.word_place-at.ensures _ c.read_page.ensures c.in-Ok.p c.in-Ok.is c.args.out.now c.if-out-own.true

pub gather_tree-slice_bounds-write_bytes-count : goal.gather_tree-slice_bounds-write_bytes-count
gather_tree-slice_bounds-write_bytes-count t c = own_ahead c.requires _ c.word_place-at.ensures _ c.read_page.ensures c.in-Ok.p c.in-Ok.is

pub gather_tree-slice_bounds-write_bytes-start : goal.gather_tree-slice_bounds-write_bytes-start
gather_tree-slice_bounds-write_bytes-start t c = own_ahead c.requires _ c.word_place-at.ensures _ c.read_page.ensures c.in-Ok.p c.in-Ok.is

pub gather_tree-slice_bounds-write_bytes-end : goal.gather_tree-slice_bounds-write_bytes-end
gather_tree-slice_bounds-write_bytes-end t c = own_within c.requires _ c.word_place-at.ensures _ c.read_page.ensures c.in-Ok.p c.in-Ok.is

pub gather_tree-returns-then-layer-eq0 : goal.gather_tree-returns-then-layer-eq0
gather_tree-returns-then-layer-eq0 t c =
    let w = c.write_bytes in
    λ g. leaf_written g _ c.word_place-at.ensures _ c.read_page.ensures c.in-Ok.p c.in-Ok.is _ _ w.ensures w.auto.out c.if-layer-eq0.true

pub gather_tree-slice_bounds-gather_link-count : goal.gather_tree-slice_bounds-gather_link-count
gather_tree-slice_bounds-gather_link-count t c =
    let w = c.write_bytes in
    own_inside c.requires _ c.word_place-at.ensures _ c.read_page.ensures c.in-Ok.p c.in-Ok.is _ _ w.ensures w.auto.out

pub gather_tree-slice_bounds-gather_link-start : goal.gather_tree-slice_bounds-gather_link-start
gather_tree-slice_bounds-gather_link-start t c =
    let w = c.write_bytes in
    own_inside c.requires _ c.word_place-at.ensures _ c.read_page.ensures c.in-Ok.p c.in-Ok.is _ _ w.ensures w.auto.out

pub gather_tree-gather_link-requires : goal.gather_tree-gather_link-requires
gather_tree-gather_link-requires t c =
    (below_two c.decreases, left_stands c.requires _ c.word_place-at.ensures _ c.read_page.ensures c.in-Ok.p c.in-Ok.is)

pub gather_tree-overflow_add-behind : goal.gather_tree-overflow_add-behind
gather_tree-overflow_add-behind t c =
    let w = c.write_bytes in
    let l = c.gather_link in
    omega (arith, left_fits c.requires _ c.word_place-at.ensures _ c.read_page.ensures c.in-Ok.p c.in-Ok.is _ _ w.ensures w.auto.out _ _ l.ensures c.in_ok-left.left c.in_ok-left.was l.auto.out)

pub gather_tree-slice_bounds-gather_entries-count : goal.gather_tree-slice_bounds-gather_entries-count
gather_tree-slice_bounds-gather_entries-count t c =
    let w = c.write_bytes in
    let l = c.gather_link in
    both_inside c.requires _ c.word_place-at.ensures _ c.read_page.ensures c.in-Ok.p c.in-Ok.is _ _ w.ensures w.auto.out _ _ l.ensures c.in_ok-left.left c.in_ok-left.was l.auto.out

pub gather_tree-slice_bounds-gather_entries-start : goal.gather_tree-slice_bounds-gather_entries-start
gather_tree-slice_bounds-gather_entries-start t c =
    let w = c.write_bytes in
    let l = c.gather_link in
    both_inside c.requires _ c.word_place-at.ensures _ c.read_page.ensures c.in-Ok.p c.in-Ok.is _ _ w.ensures w.auto.out _ _ l.ensures c.in_ok-left.left c.in_ok-left.was l.auto.out

pub gather_tree-gather_entries-requires : goal.gather_tree-gather_entries-requires
gather_tree-gather_entries-requires t c =
    (one_less _ c.decreases, row_stands c.requires _ c.word_place-at.ensures _ c.read_page.ensures c.in-Ok.p c.in-Ok.is)

pub gather_tree-overflow_add-result : goal.gather_tree-overflow_add-result
gather_tree-overflow_add-result t c =
    let w = c.write_bytes in
    let l = c.gather_link in
    let r = c.gather_entries in
    omega (arith, tree_fits c.requires _ c.word_place-at.ensures _ c.read_page.ensures c.in-Ok.p c.in-Ok.is _ _ w.ensures w.auto.out _ _ l.ensures c.in_ok-left.left c.in_ok-left.was l.auto.out _ _ r.ensures c.in_ok-below.below c.in_ok-below.was r.auto.out)

pub gather_tree-returns : goal.gather_tree-returns
gather_tree-returns t c =
    let w = c.write_bytes in
    let l = c.gather_link in
    λ g. tree_written g _ c.word_place-at.ensures _ c.read_page.ensures c.in-Ok.p c.in-Ok.is _ _ w.ensures w.auto.out _ _ l.ensures c.in_ok-left.left c.in_ok-left.was l.auto.out _ _ c.gather_entries.ensures c.in_ok-below.below c.in_ok-below.was

pub gather_tree-returns-in_err-below : goal.gather_tree-returns-in_err-below
gather_tree-returns-in_err-below t c =
    let w = c.write_bytes in
    let l = c.gather_link in
    λ g. rw c.from_residual-in_err-below.ensures (no_room_row g _ c.word_place-at.ensures _ c.read_page.ensures c.in-Ok.p c.in-Ok.is _ _ w.ensures w.auto.out _ _ l.ensures c.in_ok-left.left c.in_ok-left.was l.auto.out _ _ c.gather_entries.ensures c.in_err-below.was)

pub gather_tree-returns-in_err-left : goal.gather_tree-returns-in_err-left
gather_tree-returns-in_err-left t c =
    let w = c.write_bytes in
    λ g. rw c.from_residual.ensures (no_room_left g _ c.word_place-at.ensures _ c.read_page.ensures c.in-Ok.p c.in-Ok.is _ _ w.ensures w.auto.out _ _ c.gather_link.ensures c.in_err-left.was)

pub gather_tree-returns-in_default : goal.gather_tree-returns-in_default
gather_tree-returns-in_default t c = λ g. absurd (tree_goes_on g _ c.word_place-at.ensures _ c.read_page.ensures _ c.in_default.is)
