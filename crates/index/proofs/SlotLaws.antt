-- The slots of a tree are its records, with their depths and places: the tests on slots are the tests on records.
use Prim.Native.Nat.{ℕ, zero, suc, ◌+◌, ◌<◌}
use mathlib.Core.Path.{◌≡◌, refl, sym, ap, ◌∙◌}
use mathlib.Core.Bool.{true, false≢true}
use mathlib.Core.List.{List, [], ◌∷◌, map, map-map, map-append}
use native.Mathlib.Numerals.{add-one}
use native.Mathlib.Nat.{add_assoc}
use native.Mathlib.Omega.{arith}
use lib.ListN.{length, get_or, length-map}
use lib.Dec.{eqb}
use borrow.Author.Tests.{eqb-true, eq-eqb}
use Rattle.bytestring.proofs.Tools.{All, and_inv}
use Rattle.key.specs.Key.{less, lawful}
use Rattle.key.specs.Layer.{layer_of}
use Rattle.tree.specs.Tree.{page, Gap, empty, under, Entries, end, entry, items, items_under}
use Rattle.tree.specs.Record.{Record, Spelt, record_of, keyed, keyed_under, keyed_from, records}
use Rattle.tree.specs.Table.{SpeltTree, bytes_of_page, table_under}
use Rattle.tree.specs.Judge.{all_lawful, rising}
use Rattle.tree.specs.Place.{length_of_entry, first_entry, places, places_under, places_from}
use Rattle.tree.proofs.Laws.{depths, depths_under, depths_from, items_depths, keyed_items, Level, layer_of_record}
use Rattle.index.specs.Slot.{Slot, slots, slots_under, slots_from, key_of, lawful_slots, rising_after, level_slots}

-- ---- depths, records, places
abbrev pub depth_of : Slot → ℕ × Record
depth_of x = (x.depth, x.item)

mutual
  unfolding slots depths keyed

  pub slots_depths : (d at : ℕ) (t : SpeltTree) → map depth_of (slots d at t) ≡ depths d (keyed t)
  slots_depths d at (page g es) =
      let below : ℕ = at + length (bytes_of_page (page g es)) in
      rw (
        map-append depth_of,
        add-one d,
        slots_depths_under (suc d) below g,
        slots_depths_from d at (at + first_entry es) (below + length (table_under g)) [] es,
      )

  slots_depths_under : (d at : ℕ) (g : Gap Spelt (List ℕ)) → map depth_of (slots_under d at g) ≡ depths_under d (keyed_under g)
  slots_depths_under d at empty = refl
  slots_depths_under d at (under _ p) = slots_depths d at p

  slots_depths_from : (d pg at below : ℕ) (before : List ℕ) (es : Entries Spelt (List ℕ))
      → map depth_of (slots_from d pg at below before es) ≡ depths_from d (keyed_from before es)
  slots_depths_from d pg at below before end = refl
  slots_depths_from d pg at below before (entry e g es) =
      rw (
        map-append depth_of,
        add-one d,
        slots_depths_under (suc d) below g,
        slots_depths_from d pg (at + length_of_entry e g) (below + length (table_under g)) (record_of before e).key es,
      )

pub slots_records : (d at : ℕ) (t : SpeltTree) → map (λ x. x.item) (slots d at t) ≡ records t
slots_records d at t = sym (map-map (λ (z : ℕ × Record). z.1) depth_of (slots d at t)) ∙ rw (slots_depths d at t) (items_depths d (keyed t))

pub slots_length : (d at : ℕ) (t : SpeltTree) → length (slots d at t) ≡ length (records t)
slots_length d at t = sym (length-map (slots d at t) (λ x. x.item)) ∙ ap length (slots_records d at t)

mutual
  unfolding slots places

  pub slots_places : (d at : ℕ) (t : SpeltTree) → map (λ x. x.value) (slots d at t) ≡ places at t
  slots_places d at (page g es) =
      let below : ℕ = at + length (bytes_of_page (page g es)) in
      rw (
        map-append (λ (x : Slot). x.value),
        ← add_assoc at (length (bytes_of_page (page g es))) (length (table_under g)),
        slots_places_under (d + 1) below g,
        slots_places_from d at (at + first_entry es) (below + length (table_under g)) [] es,
      )

  slots_places_under : (d at : ℕ) (g : Gap Spelt (List ℕ)) → map (λ x. x.value) (slots_under d at g) ≡ places_under at g
  slots_places_under d at empty = refl
  slots_places_under d at (under _ p) = slots_places d at p

  slots_places_from : (d pg at below : ℕ) (before : List ℕ) (es : Entries Spelt (List ℕ))
      → map (λ x. x.value) (slots_from d pg at below before es) ≡ places_from at below es
  slots_places_from d pg at below before end = refl
  slots_places_from d pg at below before (entry e g es) =
      rw (
        map-append (λ (x : Slot). x.value),
        slots_places_under (d + 1) below g,
        slots_places_from d pg (at + length_of_entry e g) (below + length (table_under g)) (record_of before e).key es,
      )

-- as many as the tree has items
pub slots_items : (d at : ℕ) (t : SpeltTree) → length (slots d at t) ≡ length (items t)
slots_items d at t = slots_length d at t ∙ keyed_items t

pub slots_count : (d at : ℕ) (g : Gap Spelt (List ℕ)) → length (slots_under d at g) ≡ length (items_under g)
unfolding slots items
slots_count d at empty = refl
slots_count d at (under _ p) = slots_items d at p

-- ---- one slot
get_or_within : {A B : Type 0} (f : A → B) (l : List A) (i : ℕ) (a : A) (b : B) → i < length l → f (get_or l i a) ≡ get_or (map f l) i b
get_or_within f [] i a b h = absurd (omega arith)
get_or_within f (x ∷ l) zero a b h = refl
get_or_within f (x ∷ l) (suc i) a b h = get_or_within f l i a b (omega arith)

module _ (d at : ℕ) (t : SpeltTree) (i : ℕ) (x : Slot) (h : i < length (slots d at t)) where
  pub slot_record : (r : Record) → (get_or (slots d at t) i x).item ≡ get_or (records t) i r
  slot_record r = get_or_within (λ y. y.item) (slots d at t) i x r h ∙ ap (λ l. get_or l i r) (slots_records d at t)

  pub slot_place : (n : ℕ) → (get_or (slots d at t) i x).value ≡ get_or (places at t) i n
  slot_place n = get_or_within (λ y. y.value) (slots d at t) i x n h ∙ ap (λ l. get_or l i n) (slots_places d at t)

-- ---- the key rule
lawful_items : (xs : List Slot) → lawful_slots xs ≡ all_lawful (map (λ x. x.item) xs)
unfolding lawful_slots all_lawful
lawful_items [] = refl
lawful_items (x ∷ xs) = rw (lawful_items xs)

pub slots_lawful : (d at : ℕ) (t : SpeltTree) → lawful_slots (slots d at t) ≡ all_lawful (records t)
slots_lawful d at t = lawful_items (slots d at t) ∙ ap all_lawful (slots_records d at t)

-- ---- the order of keys
rising_items : (x : Slot) (xs : List Slot) → rising_after (key_of x) xs ≡ rising (map (λ y. y.item) (x ∷ xs))
unfolding rising_after rising
rising_items x [] = refl
rising_items x (y ∷ xs) = rw (rising_items y xs)

-- a lawful key is not empty
lawful_after_none : (k : List ℕ) → lawful k ≡ true → less [] k ≡ true
unfolding lawful less
lawful_after_none [] h = absurd (false≢true h)
lawful_after_none (b ∷ k) h = refl

rising_after_none : (xs : List Slot) → lawful_slots xs ≡ true → rising_after [] xs ≡ rising (map (λ x. x.item) xs)
unfolding lawful_slots rising_after rising
rising_after_none [] h = refl
rising_after_none (x ∷ xs) h = rw (lawful_after_none (key_of x) (and_inv (lawful (key_of x)) h).0) (rising_items x xs)

pub slots_rising : (d at : ℕ) (t : SpeltTree) → lawful_slots (slots d at t) ≡ true → rising_after [] (slots d at t) ≡ rising (records t)
slots_rising d at t h = rising_after_none (slots d at t) h ∙ ap rising (slots_records d at t)

-- ---- layers and depths
level_depths : (c : ℕ) (xs : List Slot) → level_slots c xs ≡ true → All (Level layer_of_record c) (map depth_of xs)
unfolding level_slots
level_depths c [] h = tt
level_depths c (x ∷ xs) h =
    let k = and_inv (eqb (layer_of (key_of x) + x.depth) c) h in
    (eqb-true (layer_of (key_of x) + x.depth) c k.0, level_depths c xs k.1)

depths_level : (c : ℕ) (xs : List Slot) → All (Level layer_of_record c) (map depth_of xs) → level_slots c xs ≡ true
unfolding level_slots
depths_level c [] h = refl
depths_level c (x ∷ xs) h = rw (eq-eqb (layer_of (key_of x) + x.depth) c h.0) (depths_level c xs h.1)

pub slots_level : (c d at : ℕ) (t : SpeltTree) → level_slots c (slots d at t) ≡ true → All (Level layer_of_record c) (depths d (keyed t))
slots_level c d at t h = rw slots_depths at (level_depths c (slots d at t) h)

pub level_slots_lem : (c d at : ℕ) (t : SpeltTree) → All (Level layer_of_record c) (depths d (keyed t)) → level_slots c (slots d at t) ≡ true
level_slots_lem c d at t h = depths_level c (slots d at t) (rw slots_depths h)
