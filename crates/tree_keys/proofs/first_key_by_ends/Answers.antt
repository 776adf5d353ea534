use borrow.Author.Rules.{rules}
use native.Mathlib.Omega.{arith}
use Rattle.bytestring.proofs.Tools.{bytes_of_lem}
use Rattle.tree_keys.proofs.FirstWays.{page_between, left_by_end, first_begins, first_too_deep, first_own, left_leads, first_goes_on}
use Rattle.tree_keys.proofs.first_key_by_ends.Goals as goal

pub loop-steps-init : goal.loop-steps-init
loop-steps-init c =
    let slice = bytes_of_lem c.args.sequence.now (λ i h. omega (arith, c.type_inv.sequence i)) in
    (search rules, slice, first_begins _ _ _ _ _ _ slice c.requires.1)

pub bounds-pages-c : goal.bounds-pages-c
bounds-pages-c c = omega (arith, c.requires.0.1.page_room, c.loop-steps.invariant.0)

pub place_after-end-requires : goal.place_after-end-requires
place_after-end-requires c = (search rules, c.requires.0.1.page_room)

pub left_link-left-requires : goal.left_link-left-requires
left_link-left-requires c =
    page_between c.requires.0 _ c.loop-steps.invariant.0 c.loop-steps.invariant.1 _ c.word_place-at.ensures _ c.place_after-end.ensures

pub returns-then-left-eq0 : goal.returns-then-left-eq0
returns-then-left-eq0 c = search (rules, first_own, left_by_end)

pub linked_page-c-requires : goal.linked_page-c-requires
linked_page-c-requires c = search (rules, left_leads, left_by_end)

pub loop-steps-preserved : goal.loop-steps-preserved
loop-steps-preserved c = (search rules, search rules, search (rules, first_goes_on, left_by_end))

pub returns : goal.returns
returns c = search (rules, first_too_deep)
