-- The layers of a row of records, one after the other.
use Rattle.std.specs.Prelude.{Option, Some, None}
use Rattle.std.specs.Option.{unwrap_or}
use Prim.Native.Nat.{ℕ, suc, ◌+◌, ◌-◌, ◌≤◌, ◌<◌}
use mathlib.Core.Path.{◌≡◌, refl, sym, ap, ◌∙◌}
use mathlib.Core.Bool.{true, false, ◌&&◌, false≢true}
use mathlib.Core.List.{List, [], ◌∷◌}
use native.Mathlib.Omega.{arith}
use native.Mathlib.Numerals.{add-one}
use lib.Dec.{eqb}
use lib.ListN.{length, take, drop, get_or, set, length-set, drop_of_length-le}
use lib.Seq.{drop-cons, get_or-set_same, get_or-set_other}
use borrow.Author.Tests.{eq-eqb, ne_eqb, eqb-true, eqb-false}
use borrow.Table.Steps.{cases}
use Rattle.key.specs.Layer.{layer_of}
use Rattle.key.proofs.Laws.{layer_le}
use Rattle.tree.specs.Record.{Record}
use Rattle.word.specs.Word.{page_in, entry_in, layer_in, RecordWord}
use Rattle.index.specs.Slot.{Slot, key_of, level_slots}
use Rattle.index.specs.Walk.{DepthWord, WordOf, blank, HoldsWords}
use Rattle.row.specs.Row.{AtPlaces}
use Rattle.row.specs.Memory.{Recalls}
use Rattle.row.specs.declared.recall.Recalled.{Recalled}
use Rattle.row.proofs.Rows.{source_same, word_record}
use Rattle.judge.specs.Layers.{Depths, top_of, LayersSay}

-- Of the slots xs the first i have their layers in the words; the other words are as they were.
pub record LayersDone (xs : List Slot) (index₀ : List ℕ) (first : Option ℕ) (i : ℕ) (index : List ℕ) : Type 0 where
  pub size : length index ≡ length index₀
  pub done : (j : ℕ) → j < i → WordOf (get_or index j 0) (get_or xs j blank)
  pub left : (j : ℕ) → i ≤ j → get_or index j 0 ≡ get_or index₀ j 0
  pub none_done : i ≡ 0 → first ≡ None
  pub highest : 0 < i → first ≡ Some (top_of xs)
  pub same : level_slots (top_of xs) xs ≡ level_slots (top_of xs) (drop i xs)

unfoldable pub LayersSoFar : List ℕ → List ℕ → ℕ → Option ℕ → ℕ → List ℕ → Type 0
LayersSoFar s index₀ n first i index = (d : Depths s index₀ n) → LayersDone d.slots index₀ first i index

pub layers_start : (s index : List ℕ) (n : ℕ) → LayersSoFar s index n None 0 index
unfolding LayersSoFar
layers_start s index n d = record { size = refl; done = λ j h. absurd (omega arith); left = λ j h. refl; none_done = λ h. refl; highest = λ h. absurd (omega arith); same = refl }

top_first : (xs : List Slot) → 0 < length xs → top_of xs ≡ layer_of (key_of (get_or xs 0 blank)) + (get_or xs 0 blank).depth
unfolding top_of
top_first [] h = absurd (omega arith)
top_first (x ∷ xs) h = refl

module _ {s index₀ : List ℕ} {n : ℕ} (d : Depths s index₀ n) (i : ℕ) (h : i < n) (w : ℕ) (e : w ≡ get_or index₀ i 0) where
  abbrev x : Slot
  x = get_or d.slots i blank

  word_of : DepthWord w x
  unfolding HoldsWords
  word_of = rw e (d.words i (omega (arith, d.number)) (omega (arith, d.room)))

  pub at_places : AtPlaces s s w
  at_places = record {
    slot = x;
    there = rw (source_same s w) (d.there i h);
    page = word_of.page;
    entry = word_of.entry;
    lawful = d.keys i h;
  }

  module _ (keys notes : List ℕ) (found : Recalled) (r : Recalls s s w keys notes found) (to : ℕ) (ends : to ≡ found.from + found.size)
      (layer : ℕ) (ly : layer ≡ layer_of (take (to - found.from) (drop found.from keys))) (depth : ℕ) (de : depth ≡ layer_in w) where
    key_is : take (to - found.from) (drop found.from keys) ≡ key_of x
    unfolding at_places
    key_is =
        let m : to - found.from ≡ found.size = omega arith in
        rw m (r.key ∙ ap (λ (z : Record). z.key) (word_record at_places))

    layer_is : layer ≡ layer_of (key_of x)
    layer_is = ly ∙ ap layer_of key_is

    sum_is : layer + depth ≡ layer_of (key_of x) + x.depth
    sum_is = omega (arith, layer_is, de, word_of.third)

    module _ (first : Option ℕ) (top' : ℕ) (te : top' ≡ unwrap_or first (layer + depth)) (index : List ℕ) (u : LayersDone d.slots index₀ first i index) where
      top_is : top' ≡ top_of d.slots
      top_is =
          cases (eqb i 0)
          (λ q.
          let z : i ≡ 0 = eqb-true i 0 q in
          te ∙ rw (u.none_done z) (sum_is ∙ rw z (sym (top_first d.slots (omega (arith, d.number))))))
          (λ q. te ∙ rw (u.highest (omega (arith, eqb-false i 0 q))) refl)

      next : level_slots (top_of d.slots) d.slots
          ≡ (eqb (layer + depth) top' && level_slots (top_of d.slots) (drop (suc i) d.slots))
      unfolding level_slots
      next = u.same ∙ rw (drop-cons d.slots i blank (omega (arith, d.number)), sum_is, top_is)

      differs : (layer + depth ≡ top' → ⊥) → false ≡ level_slots (top_of d.slots) d.slots
      differs f = sym (next ∙ rw (ne_eqb (layer + depth) top' f))

      goes_on : layer + depth ≡ top' → (w' : ℕ) → RecordWord w' (page_in w) (entry_in w) layer → LayersDone d.slots index₀ (Some top') (i + 1) (set index i w')
      goes_on q w' a =
          let room : i < length index = omega (arith, u.size, d.room) in
          record {
            size = length-set index i w' ∙ u.size;
            done = λ j g.
                cases (eqb j i)
                (λ z.
                let same : j ≡ i = eqb-true j i z in
                rw (same, get_or-set_same index i w' 0 room) (record { page = a.page ∙ word_of.page; entry = a.entry ∙ word_of.entry; layer = λ _. a.third ∙ layer_is; first = a.first }))
                (λ z. rw (get_or-set_other index i j w' 0 (eqb-false j i z)) (u.done j (omega (arith, eqb-false j i z))));
            left = λ j g. get_or-set_other index i j w' 0 (λ z. omega arith) ∙ u.left j (omega arith);
            none_done = λ z. absurd (omega arith);
            highest = λ _. ap Some top_is;
            same = next ∙ rw (eq-eqb (layer + depth) top' q, add-one i);
          }

-- ---- the loop
module _ (s index₀ : List ℕ) (n : ℕ) (first : Option ℕ) (i : ℕ) (index : List ℕ) (u : LayersSoFar s index₀ n first i index) where
  pub layers_end : n ≤ i → LayersSay s index₀ n true index
  unfolding LayersSoFar HoldsWords level_slots
  layers_end h d =
      let v = u d in
      (sym (v.same ∙ rw (drop_of_length-le d.slots {i = i} (omega (arith, d.number)))), λ _ j g k. v.done j (omega (arith, d.number)))

  module _ (h : i < n) where
    pub next_places : Depths s index₀ n → AtPlaces s s (get_or index i 0)
    unfolding LayersSoFar
    next_places d = at_places d i h (get_or index i 0) ((u d).left i (omega arith))

    module _ (keys notes : List ℕ) (found : Recalled) (r : Recalls s s (get_or index i 0) keys notes found) (to : ℕ) (ends : to ≡ found.from + found.size)
        (layer : ℕ) (ly : layer ≡ layer_of (take (to - found.from) (drop found.from keys))) (depth : ℕ) (de : depth ≡ layer_in (get_or index i 0))
        (top' : ℕ) (te : top' ≡ unwrap_or first (layer + depth)) where
      pub layers_differ : (layer + depth ≡ top' → ⊥) → LayersSay s index₀ n false index
      unfolding LayersSoFar
      layers_differ f d =
          (differs d i h (get_or index i 0) ((u d).left i (omega arith)) keys notes found r to ends layer ly depth de first top' te index (u d) f, λ z. absurd (false≢true z))

      pub layers_more : layer + depth ≡ top' → (w' : ℕ) → RecordWord w' (page_in (get_or index i 0)) (entry_in (get_or index i 0)) layer
          → LayersSoFar s index₀ n (Some top') (i + 1) (set index i w')
      unfolding LayersSoFar
      layers_more q w' a d =
          goes_on d i h (get_or index i 0) ((u d).left i (omega arith)) keys notes found r to ends layer ly depth de first top' te index (u d) q w' a

pub layer_small : (layer : ℕ) (k : List ℕ) → layer ≡ layer_of k → layer < 256
layer_small layer k e = omega (arith, e, layer_le k)
