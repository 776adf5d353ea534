-- Number 9: the tests of layers, of the root and of bare pages together are the test of the right tree.
use Prim.Native.Nat.{ℕ, suc, ◌+◌, ◌≤◌}
use mathlib.Core.Path.{◌≡◌, refl, sym, subst, ◌∙◌}
use mathlib.Core.Bool.{Bool, true, false, ◌&&◌, false≢true}
use mathlib.Core.Logic.{inl, inr}
use mathlib.Core.List.{List, [], ◌∷◌, ◌++◌, append-nil}
use native.Mathlib.Omega.{arith}
use lib.Dec.{eqb}
use borrow.Author.Tests.{eqb-true}
use Rattle.bytestring.proofs.Tools.{All, all_append, and_inv}
use Rattle.tree.specs.Tree.{Page, page, Gap, empty, under, Entries, end, entry, items}
use Rattle.tree.specs.Record.{Spelt, keyed, keyed_under, keyed_from}
use Rattle.tree.specs.Table.{SpeltTree}
use Rattle.tree.specs.Judge.{right_tree}
use Rattle.tree.proofs.Laws.{Some, depths, depths_under, depths_from, Filled, right_local, none_right, local_right}
use Rattle.tree.proofs.Laws as tree
use Rattle.key.specs.Layer.{layer_of}
use Rattle.index.specs.Slot.{Slot, slots, key_of, level_slots, filled}
use Rattle.index.specs.Walk.{holding}
use Rattle.index.proofs.BarePages.{filled_holds, holds_filled}
use Rattle.index.proofs.SlotLaws.{slots_level, level_slots_lem}
use Rattle.judge.specs.Layers.{top_of}

-- ---- tests and lists
-- tests that follow from each other are the same
same_tests : (a b : Bool) → (a ≡ true → b ≡ true) → (b ≡ true → a ≡ true) → a ≡ b
same_tests true b f g = sym (f refl)
same_tests false true f g = g refl
same_tests false false f g = refl

some_right : {A : Type 0} (P : A → Type 0) (l m : List A) → Some P m → Some P (l ++ m)
some_right P [] m h = h
some_right P (a ∷ l) m h = inr (some_right P l m h)

some_all : {A : Type 0} (P Q : A → Type 0) → ((a : A) → P a → Q a → ⊥) → (l : List A) → Some P l → All Q l → ⊥
some_all P Q f [] h k = h
some_all P Q f (a ∷ l) (inl h) k = f a h k.0
some_all P Q f (a ∷ l) (inr h) k = some_all P Q f l h k.1

-- ---- the root
-- no record stands above the page that depths are counted from
abbrev AtLeast : {A : Type 0} → ℕ → ℕ × A → Type 0
AtLeast c z = c ≤ z.0

module _ {A D : Type 0} (c : ℕ) where
  mutual
    unfolding depths

    depths_least : (d : ℕ) (t : Page A D) → c ≤ d → All (AtLeast c) (depths d t)
    depths_least d (page g es) h =
        all_append (AtLeast c) (depths_under (suc d) g) (depths_from d es) (depths_least_under (suc d) g (omega arith)) (depths_least_from d es h)

    depths_least_under : (d : ℕ) (g : Gap A D) → c ≤ d → All (AtLeast c) (depths_under d g)
    depths_least_under d empty h = tt
    depths_least_under d (under _ p) h = depths_least d p h

    depths_least_from : (d : ℕ) (es : Entries A D) → c ≤ d → All (AtLeast c) (depths_from d es)
    depths_least_from d end h = tt
    depths_least_from d (entry a g es) h =
        (h, all_append (AtLeast c) (depths_under (suc d) g) (depths_from d es) (depths_least_under (suc d) g (omega arith)) (depths_least_from d es h))

-- a root without an entry but with a left link is not right: the records under the link stand deeper than the root
no_entry_wrong : (d : List ℕ) (p : SpeltTree) → right_tree (page (under d p) end) ≡ true → ⊥
unfolding keyed items depths Filled
no_entry_wrong d p h =
    let l = right_local (page (under d p) end) h in
    some_all (λ z. z.0 ≡ 0) (AtLeast 1) (λ z e k. omega arith) (depths 1 (keyed p) ++ [])
    (l.root (λ e. l.filled.0.0 (sym (append-nil (items (keyed p))) ∙ e)))
    (all_append (AtLeast 1) (depths 1 (keyed p)) [] (depths_least 1 1 (keyed p) (omega arith)) tt)

-- ---- layers
-- where the records' layers and depths make any one number together, they make what the first's make
level_top : (c : ℕ) (xs : List Slot) → level_slots c xs ≡ true → level_slots (top_of xs) xs ≡ true
unfolding level_slots top_of
level_top c [] h = refl
level_top c (x ∷ xs) h =
    let e : layer_of (key_of x) + x.depth ≡ c = eqb-true (layer_of (key_of x) + x.depth) c (and_inv (eqb (layer_of (key_of x) + x.depth) c) h).0 in
    subst (λ (n : ℕ). level_slots n (x ∷ xs) ≡ true) (sym e) h

module _ (g : Gap Spelt (List ℕ)) (e : Spelt) (h : Gap Spelt (List ℕ)) (es : Entries Spelt (List ℕ)) where
  abbrev whole : SpeltTree
  whole = page g (entry e h es)

  root_entry : Some (λ z. z.0 ≡ 0) (depths 0 (keyed whole))
  unfolding keyed depths
  root_entry = some_right (λ z. z.0 ≡ 0) (depths_under 1 (keyed_under g)) (depths_from 0 (keyed_from [] (entry e h es))) (inl refl)

  entry_right : level_slots (top_of (slots 0 0 whole)) (slots 0 0 whole) ≡ true → filled whole ≡ true → right_tree whole ≡ true
  entry_right l f =
      let c : ℕ = top_of (slots 0 0 whole) in
      local_right whole c (record { level = slots_level c 0 0 whole l; filled = filled_holds whole f; root = λ _. root_entry })

  right_entry : right_tree whole ≡ true → (level_slots (top_of (slots 0 0 whole)) (slots 0 0 whole) ≡ true) × (filled whole ≡ true)
  right_entry r =
      let l = right_local whole r in
      (level_top (tree.top_of whole) (slots 0 0 whole) (level_slots_lem (tree.top_of whole) 0 0 whole l.level), holds_filled whole l.filled)

holding_entry : (g : Gap Spelt (List ℕ)) (e : Spelt) (h : Gap Spelt (List ℕ)) (es : Entries Spelt (List ℕ)) → holding 0 (page g (entry e h es)) ≡ true
unfolding holding
holding_entry empty e h es = refl
holding_entry (under d p) e h es = refl

-- the three tests are that of number 9
pub right_tests : (t : SpeltTree) → ((holding 0 t && filled t) && level_slots (top_of (slots 0 0 t)) (slots 0 0 t)) ≡ right_tree t
unfolding slots level_slots holding filled keyed items Filled
right_tests (page empty end) = sym (none_right (page empty end) refl (tt, tt))
right_tests (page (under d p) end) = same_tests _ _ (λ h. absurd (false≢true h)) (λ h. absurd (no_entry_wrong d p h))
right_tests (page g (entry e h es)) =
    let t : SpeltTree = page g (entry e h es) in
    rw (holding_entry g e h es)
    (same_tests _ _
    (λ k. let l = and_inv (filled t) k in entry_right g e h es l.1 l.0)
    (λ r. let l = right_entry g e h es r in rw (l.0, l.1)))
