-- A page without links, by itself, spells the records and has the prefix lengths of the register that it is.
use Prim.Native.Nat.{ℕ}
use mathlib.Core.Path.{◌≡◌, refl, ap}
use mathlib.Core.Bool.{Bool, ◌&&◌}
use mathlib.Core.List.{List, [], ◌∷◌}
use lib.Dec.{eqb}
use Rattle.key.specs.Key.{shared}
use Rattle.tree.specs.Tree.{page, empty, under, Entries, end, entry, items, items_from}
use Rattle.tree.specs.Record.{Record, Spelt, record_of, keyed, keyed_from, records}
use Rattle.tree.specs.Table.{raw_entries, raw_page}
use Rattle.tree.specs.Judge.{prefixes_right, prefixes_right_from}
use Rattle.tree.specs.OnePage.{prefixes_of, records_in}

-- no gap after an entry has a link
abbrev pub Unlinked : Entries Spelt (List ℕ) → Type 0
Unlinked end = Unit {0}
Unlinked (entry e empty es) = Unlinked es
Unlinked (entry e (under d p) es) = ⊥

prefixes_from : (before : List ℕ) (es : Entries Spelt (List ℕ)) → Unlinked es → prefixes_of before (raw_entries es) ≡ prefixes_right_from before es
unfolding prefixes_of raw_entries prefixes_right
prefixes_from before end u = refl
prefixes_from before (entry e empty es) u =
    ap (λ (b : Bool). eqb e.shares (shared before (record_of before e).key) && b) (prefixes_from (record_of before e).key es u)
prefixes_from before (entry e (under d p) es) u = absurd u

records_from_lem : (before : List ℕ) (es : Entries Spelt (List ℕ)) → Unlinked es → records_in before (raw_entries es) ≡ items_from (keyed_from before es)
unfolding records_in raw_entries keyed items
records_from_lem before end u = refl
records_from_lem before (entry e empty es) u = ap (λ (l : List Record). record_of before e ∷ l) (records_from_lem (record_of before e).key es u)
records_from_lem before (entry e (under d p) es) u = absurd u

module _ (es : Entries Spelt (List ℕ)) (u : Unlinked es) where
  pub alone_prefixes : prefixes_of [] (raw_page (page empty es)).entries ≡ prefixes_right (page empty es)
  unfolding raw_page prefixes_right
  alone_prefixes = prefixes_from [] es u

  pub alone_records : records_in [] (raw_page (page empty es)).entries ≡ records (page empty es)
  unfolding raw_page keyed items
  alone_records = records_from_lem [] es u
