-- The places of a register's values are where the values stand, one place for each record.
use Prim.Native.Nat.{ℕ, zero, suc, ◌+◌}
use mathlib.Core.Path.{◌≡◌, refl, sym, ap, ◌∙◌}
use mathlib.Core.List.{List, [], ◌∷◌, ◌++◌, append_assoc, append-nil}
use native.Mathlib.Omega.{arith}
use lib.ListN.{length, drop}
use lib.Seq.{drop-append_seam, drop-drop}
use Rattle.limits.specs.Limits.{deepest}
use Rattle.bytestring.proofs.Tools.{All}
use Rattle.bytestring.specs.Bytes.{Bytes}
use Rattle.page.specs.Reading.{concat}
use Rattle.value.specs.Value.{value_in}
use Rattle.page.specs.Number.{array, number_bytes}
use Rattle.page.specs.Page.{gap_bytes, RawEntry, entry_bytes, page_bytes}
use Rattle.page.proofs.Pages.{GoodEntry}
use Rattle.page.proofs.Standing.{value_there}
use Rattle.tree.specs.Tree.{page, Gap, empty, under, Entries, end, entry, items, items_under, items_from}
use Rattle.tree.specs.Record.{Record, Spelt, record_of, keyed, keyed_under, keyed_from, records}
use Rattle.tree.specs.Table.{SpeltTree, link_of, raw_entries, raw_page, bytes_of_page, table, table_under, table_from, table_of}
use Rattle.tree.specs.Judge.{accepted, judge}
use Rattle.tree.specs.Place.{length_of_entry, first_entry, places, places_under, places_from}
use Rattle.tree.proofs.Tables.{AllUnder, AllFrom, Good}
use Rattle.tree.proofs.Accept.{accepted_table}

-- As many places as records, and at each of them its record's value.
abbrev pub Stand : List ℕ → List ℕ → List Record → Type 0
Stand s [] [] = Unit {0}
Stand s [] (r ∷ rs) = ⊥
Stand s (p ∷ ps) [] = ⊥
Stand s (p ∷ ps) (r ∷ rs) = (value_in s p ≡ r.val) × Stand s ps rs

pub stand_length : (s ps : List ℕ) (rs : List Record) → Stand s ps rs → length ps ≡ length rs
stand_length s [] [] h = refl
stand_length s [] (r ∷ rs) h = absurd h
stand_length s (p ∷ ps) [] h = absurd h
stand_length s (p ∷ ps) (r ∷ rs) h = ap suc (stand_length s ps rs h.1)

module _ (s : List ℕ) where
  stand_append : (ps qs : List ℕ) (rs us : List Record) → Stand s ps rs → Stand s qs us → Stand s (ps ++ qs) (rs ++ us)
  stand_append [] qs [] us h k = k
  stand_append [] qs (r ∷ rs) us h k = absurd h
  stand_append (p ∷ ps) qs [] us h k = absurd h
  stand_append (p ∷ ps) qs (r ∷ rs) us h k = (h.0, stand_append ps qs rs us h.1 k)

  -- ---- the bytes l stand at a place in s
  abbrev pub At : ℕ → List ℕ → Type 0
  At at l = (rest : List ℕ) × (drop at s ≡ l ++ rest)

  pub at_left : (at : ℕ) (l m : List ℕ) → At at (l ++ m) → At at l
  at_left at l m h = (m ++ h.0, h.1 ∙ append_assoc l m h.0)

  pub at_right : (at : ℕ) (l m : List ℕ) → At at (l ++ m) → At (at + length l) m
  at_right at l m h = (h.0, sym (drop-drop (length l) at s) ∙ rw (h.1, append_assoc l m h.0) (drop-append_seam l (m ++ h.0)))

  pub at_both : (at : ℕ) (l m k : List ℕ) → At at (l ++ (m ++ k)) → At (at + (length l + length m)) k
  at_both at l m k h =
      let e : at + (length l + length m) ≡ at + length l + length m = omega arith in
      rw e (at_right (at + length l) m k (at_right at l (m ++ k) h))

  -- ---- the values of a tree whose table stands at a place
  mutual
    unfolding places items keyed raw_page raw_entries link_of bytes_of_page page_bytes table

    stand_tree : (t : SpeltTree) (d at : ℕ) → Good d t → At at (table t) → Stand s (places at t) (records t)
    stand_tree (page g es) zero at f h = absurd f
    stand_tree (page g es) (suc d) at f h =
        let own : List ℕ = bytes_of_page (page g es) in
        let head : List ℕ = 0xA2 ∷ 0x61 ∷ 0x65 ∷ [] in
        let count : List ℕ = number_bytes array (length (raw_entries es)) in
        let rows : List ℕ = concat entry_bytes (raw_entries es) in
        let tail : List ℕ = (0x61 ∷ 0x6C ∷ []) ++ gap_bytes (link_of g) in
        stand_append (places_under (at + length own) g) (places_from (at + first_entry es) (at + (length own + length (table_under g))) es)
        (items_under (keyed_under g)) (items_from (keyed_from [] es))
        (stand_under g d (at + length own) f.1 (at_left (at + length own) (table_under g) (table_from es) (at_right at own (table_under g ++ table_from es) h)))
        (stand_from es d (at + first_entry es) (at + (length own + length (table_under g))) [] f.0.entries f.2
        (at_left (at + first_entry es) rows tail (at_both at head count (rows ++ tail) (at_left at own (table_under g ++ table_from es) h)))
        (at_both at own (table_under g) (table_from es) h))

    stand_under : (g : Gap Spelt (List ℕ)) (d at : ℕ) → AllUnder (Good d) g → At at (table_under g)
        → Stand s (places_under at g) (items_under (keyed_under g))
    stand_under empty d at f h = tt
    stand_under (under digest p) d at f h = stand_tree p d at f h

    stand_from : (es : Entries Spelt (List ℕ)) (d at below : ℕ) (before : List ℕ) → All GoodEntry (raw_entries es) → AllFrom (Good d) es
        → At at (concat entry_bytes (raw_entries es)) → At below (table_from es) → Stand s (places_from at below es) (items_from (keyed_from before es))
    stand_from end d at below before f k h i = tt
    stand_from (entry e g es) d at below before f k h i =
        let raw : RawEntry = record { shares = e.shares; remainder = e.remainder; after = link_of g; val = e.val } in
        let own : List ℕ = entry_bytes raw in
        let key : List ℕ = (record_of before e).key in
        let here = at_left at own (concat entry_bytes (raw_entries es)) h in (
          value_there raw f.0.val s at here.0 here.1,
          stand_append (places_under below g) (places_from (at + length_of_entry e g) (below + length (table_under g)) es)
              (items_under (keyed_under g)) (items_from (keyed_from key es))
              (stand_under g d below k.0 (at_left below (table_under g) (table_from es) i))
              (stand_from es d (at + length_of_entry e g) (below + length (table_under g)) key f.1 k.1
              (at_right at own (concat entry_bytes (raw_entries es)) h) (at_right below (table_under g) (table_from es) i)),
        )

pub places_stand : (s : List ℕ) → Bytes s → (t : SpeltTree) → judge s ≡ accepted t → Stand s (places 0 t) (records t)
unfolding table_of
places_stand s b t h =
    let a = accepted_table s b t h in
    let whole : s ≡ table t ++ [] = a.written ∙ ap table (sym a.spells) ∙ sym (append-nil (table t)) in
    stand_tree s t deepest 0 a.good ([], whole)
