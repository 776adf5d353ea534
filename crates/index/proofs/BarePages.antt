-- No page below the root is bare: as a test, and as the tree's laws say it.
use mathlib.Core.Path.{◌≡◌, refl, sym, ◌∙◌}
use mathlib.Core.Bool.{true}
use mathlib.Core.List.{List}
use Prim.Native.Nat.{ℕ}
use Rattle.tree.specs.Tree.{page, Gap, empty, under, Entries, end, entry}
use Rattle.tree.specs.Record.{Spelt, keyed}
use Rattle.tree.specs.Table.{SpeltTree}
use Rattle.tree.proofs.Laws.{Filled, no_link, no_entry, barren, none_barren, none_barren_under, none_barren_from, none_barren_filled, filled_none_barren, none_barren_keyed}
use Rattle.index.specs.Slot.{bare, filled, filled_under, filled_from}

bare_barren : (t : SpeltTree) → bare t ≡ barren t
unfolding bare barren no_link no_entry
bare_barren (page empty end) = refl
bare_barren (page empty (entry e g es)) = refl
bare_barren (page (under d p) end) = refl
bare_barren (page (under d p) (entry e g es)) = refl

mutual
  unfolding filled none_barren

  filled_is : (t : SpeltTree) → filled t ≡ none_barren t
  filled_is (page g es) = rw (filled_is_under g, filled_is_from es)

  filled_is_under : (g : Gap Spelt (List ℕ)) → filled_under g ≡ none_barren_under g
  filled_is_under empty = refl
  filled_is_under (under d p) = rw (bare_barren p, filled_is p)

  filled_is_from : (es : Entries Spelt (List ℕ)) → filled_from es ≡ none_barren_from es
  filled_is_from end = refl
  filled_is_from (entry e g es) = rw (filled_is_under g, filled_is_from es)

pub filled_holds : (t : SpeltTree) → filled t ≡ true → Filled (keyed t)
filled_holds t h = none_barren_filled (keyed t) (none_barren_keyed t ∙ sym (filled_is t) ∙ h)

pub holds_filled : (t : SpeltTree) → Filled (keyed t) → filled t ≡ true
holds_filled t h = filled_is t ∙ sym (none_barren_keyed t) ∙ filled_none_barren (keyed t) h
