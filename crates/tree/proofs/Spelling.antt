-- Keys and their spelling in pages: each undoes the other, where the prefix lengths are right.
use Prim.Native.Nat.{ℕ, ◌≤◌}
use mathlib.Core.Path.{◌≡◌, refl, ap, ap₂}
use mathlib.Core.Bool.{true}
use mathlib.Core.List.{List, []}
use lib.Dec.{eqb}
use lib.ListN.{length, take, drop, length-append}
use lib.Seq.{length-take-le, drop_at}
use borrow.Author.Tests.{eqb-true, eq-eqb}
use Rattle.bytestring.proofs.Tools.{and_inv}
use Rattle.key.specs.Key.{shared}
use Rattle.key.proofs.Laws.{shared_rebuilt, shared_le_left}
use Rattle.tree.specs.Tree.{Page, page, Gap, empty, under, Entries, end, entry, items, items_under, items_from}
use Rattle.tree.specs.Record.{Record, Spelt, record_of, keyed, keyed_under, keyed_from, spelt, spelt_under, spelt_from}
use Rattle.tree.specs.Judge.{prefixes_right, prefixes_right_under, prefixes_right_from}

-- what stands behind a right prefix is the remainder
remainder_back : (before : List ℕ) (e : Spelt) → e.shares ≡ shared before (record_of before e).key
    → drop e.shares (record_of before e).key ≡ e.remainder
remainder_back before e h =
    let l : e.shares ≤ length before = rw h (shared_le_left before (record_of before e).key) in
    drop_at (take e.shares before) e.remainder e.shares (length-take-le e.shares before l)

module _ {D : Type 0} where
  mutual
    unfolding keyed spelt

    pub keyed_spelt : (t : Page Record D) → keyed (spelt t) ≡ t
    keyed_spelt (page g es) = ap₂ page (keyed_spelt_under g) (keyed_spelt_from [] es)

    keyed_spelt_under : (g : Gap Record D) → keyed_under (spelt_under g) ≡ g
    keyed_spelt_under empty = refl
    keyed_spelt_under (under d p) = ap (under d) (keyed_spelt p)

    keyed_spelt_from : (before : List ℕ) (es : Entries Record D) → keyed_from before (spelt_from before es) ≡ es
    keyed_spelt_from before end = refl
    keyed_spelt_from before (entry r g es) = rw (shared_rebuilt before r.key, keyed_spelt_under g, keyed_spelt_from r.key es)

  mutual
    unfolding prefixes_right spelt

    pub prefixes_spelt : (t : Page Record D) → prefixes_right (spelt t) ≡ true
    prefixes_spelt (page g es) = rw (prefixes_spelt_under g, prefixes_spelt_from [] es)

    prefixes_spelt_under : (g : Gap Record D) → prefixes_right_under (spelt_under g) ≡ true
    prefixes_spelt_under empty = refl
    prefixes_spelt_under (under d p) = prefixes_spelt p

    prefixes_spelt_from : (before : List ℕ) (es : Entries Record D) → prefixes_right_from before (spelt_from before es) ≡ true
    prefixes_spelt_from before end = refl
    prefixes_spelt_from before (entry r g es) =
        rw (
          shared_rebuilt before r.key,
          eq-eqb (shared before r.key) (shared before r.key) refl,
          prefixes_spelt_under g,
          prefixes_spelt_from r.key es,
        )

  mutual
    unfolding prefixes_right spelt keyed

    pub spelt_keyed : (t : Page Spelt D) → prefixes_right t ≡ true → spelt (keyed t) ≡ t
    spelt_keyed (page g es) h =
        let k = and_inv (prefixes_right_under g) h in
        ap₂ page (spelt_keyed_under g k.0) (spelt_keyed_from [] es k.1)

    spelt_keyed_under : (g : Gap Spelt D) → prefixes_right_under g ≡ true → spelt_under (keyed_under g) ≡ g
    spelt_keyed_under empty h = refl
    spelt_keyed_under (under d p) h = ap (under d) (spelt_keyed p h)

    spelt_keyed_from : (before : List ℕ) (es : Entries Spelt D) → prefixes_right_from before es ≡ true
        → spelt_from before (keyed_from before es) ≡ es
    spelt_keyed_from before end h = refl
    spelt_keyed_from before (entry e g es) h =
        let k = and_inv (eqb e.shares (shared before (record_of before e).key)) h in
        let l = and_inv (prefixes_right_under g) k.1 in
        let q : e.shares ≡ shared before (record_of before e).key = eqb-true e.shares (shared before (record_of before e).key) k.0 in
        rw (← q, remainder_back before e q, spelt_keyed_under g l.0, spelt_keyed_from (record_of before e).key es l.1)

-- ---- as many records as entries
mutual
  unfolding keyed items

  pub keyed_items : {D : Type 0} (t : Page Spelt D) → length (items (keyed t)) ≡ length (items t)
  keyed_items (page g es) =
      rw (length-append (items_under (keyed_under g)) (items_from (keyed_from [] es)), length-append (items_under g) (items_from es), keyed_items_under g, keyed_items_from [] es)

  pub keyed_items_under : {D : Type 0} (g : Gap Spelt D) → length (items_under (keyed_under g)) ≡ length (items_under g)
  keyed_items_under empty = refl
  keyed_items_under (under d p) = keyed_items p

  pub keyed_items_from : {D : Type 0} (before : List ℕ) (es : Entries Spelt D) → length (items_from (keyed_from before es)) ≡ length (items_from es)
  keyed_items_from before end = refl
  keyed_items_from before (entry e g es) =
      let k : List ℕ = (record_of before e).key in
      rw (length-append (items_under (keyed_under g)) (items_from (keyed_from k es)), length-append (items_under g) (items_from es), keyed_items_under g, keyed_items_from k es)
