-- The items of a tree with the depths of their pages. Pages stand at their layers just where layer and depth add up and every linked page
-- holds an item.
use Prim.Native.Nat.{ℕ, zero, suc, ◌+◌, ◌≤◌, ◌<◌}
use mathlib.Core.Path.{◌≡◌, refl, sym}
use mathlib.Core.Bool.{Bool, true, false, not, ◌&&◌, false≢true}
use mathlib.Core.Logic.{inl, inr}
use mathlib.Core.List.{List, [], ◌∷◌, ◌++◌, map, map-append, cons≢nil}
use native.Mathlib.Omega.{arith}
use lib.Dec.{eqb}
use borrow.Author.Tests.{eqb-true, eqb-false, not-true}
use borrow.Table.Steps.{cases}
use Rattle.bytestring.proofs.Tools.{and_inv, All, all_append, all_split}
use Rattle.tree.specs.Tree.{Page, page, Gap, empty, under, Entries, end, entry, items, items_under, items_from, top_layer}
use Rattle.tree.proofs.Lists.{Some, append_none}
use Rattle.tree.proofs.BuildLaws.{Layered, LayeredUnder, LayeredFrom, row}

-- In tree order, for a page at the given depth.
unfoldable mutual
  pub depths : {A D : Type 0} → ℕ → Page A D → List (ℕ × A)
  depths d (page g es) = depths_under (suc d) g ++ depths_from d es

  pub depths_under : {A D : Type 0} → ℕ → Gap A D → List (ℕ × A)
  depths_under d empty = []
  depths_under d (under e p) = depths d p

  pub depths_from : {A D : Type 0} → ℕ → Entries A D → List (ℕ × A)
  depths_from d end = []
  depths_from d (entry a g es) = (d, a) ∷ (depths_under (suc d) g ++ depths_from d es)

-- Every linked page holds an item.
unfoldable mutual
  pub Filled : {A D : Type 0} → Page A D → Type 0
  Filled (page g es) = FilledUnder g × FilledFrom es

  pub FilledUnder : {A D : Type 0} → Gap A D → Type 0
  FilledUnder empty = Unit {0}
  FilledUnder (under d p) = (items p ≡ [] → ⊥) × Filled p

  pub FilledFrom : {A D : Type 0} → Entries A D → Type 0
  FilledFrom end = Unit {0}
  FilledFrom (entry a g es) = FilledUnder g × FilledFrom es

-- The test of it: no linked page is barren, that is, has neither an entry nor a left link.
unfoldable pub no_link : {A D : Type 0} → Gap A D → Bool
no_link empty = true
no_link (under d p) = false

unfoldable pub no_entry : {A D : Type 0} → Entries A D → Bool
no_entry end = true
no_entry (entry a g es) = false

unfoldable pub barren : {A D : Type 0} → Page A D → Bool
barren (page g es) = no_link g && no_entry es

unfoldable mutual
  pub none_barren : {A D : Type 0} → Page A D → Bool
  none_barren (page g es) = none_barren_under g && none_barren_from es

  pub none_barren_under : {A D : Type 0} → Gap A D → Bool
  none_barren_under empty = true
  none_barren_under (under d p) = not (barren p) && none_barren p

  pub none_barren_from : {A D : Type 0} → Entries A D → Bool
  none_barren_from end = true
  none_barren_from (entry a g es) = none_barren_under g && none_barren_from es

module _ {A D : Type 0} where
  mutual
    unfolding depths items

    pub items_depths : (d : ℕ) (t : Page A D) → map (λ x. x.1) (depths d t) ≡ items t
    items_depths d (page g es) =
        rw (map-append (λ x. x.1) (depths_under (suc d) g) (depths_from d es), items_depths_under (suc d) g, items_depths_from d es)

    items_depths_under : (d : ℕ) (g : Gap A D) → map (λ x. x.1) (depths_under d g) ≡ items_under g
    items_depths_under d empty = refl
    items_depths_under d (under e p) = items_depths d p

    items_depths_from : (d : ℕ) (es : Entries A D) → map (λ x. x.1) (depths_from d es) ≡ items_from es
    items_depths_from d end = refl
    items_depths_from d (entry a g es) =
        rw (map-append (λ x. x.1) (depths_under (suc d) g) (depths_from d es), items_depths_under (suc d) g, items_depths_from d es)

module _ {A : Type 0} (layer : A → ℕ) (c : ℕ) where
  -- layer and depth add up to c
  abbrev pub Level : ℕ × A → Type 0
  Level x = layer x.1 + x.0 ≡ c

  -- the top layer of items with depths: it is c where some item stands in the root, and there only
  abbrev pub top_of_items : List (ℕ × A) → ℕ
  top_of_items zs = top_layer (row layer (map (λ z. z.1) zs))

  level_le : (zs : List (ℕ × A)) → All Level zs → top_of_items zs ≤ c
  unfolding top_layer
  level_le [] h = omega arith
  level_le (z ∷ zs) h = omega (arith, h.0, level_le zs h.1)

  pub level_top : (zs : List (ℕ × A)) → All Level zs → Some (λ z. z.0 ≡ 0) zs → top_of_items zs ≡ c
  unfolding top_layer
  level_top [] h s = absurd s
  level_top (z ∷ zs) h (inl e) = omega (arith, h.0, level_le zs h.1)
  level_top (z ∷ zs) h (inr s) = omega (arith, h.0, level_top zs h.1 s)

  some_root : (z : ℕ × A) (zs : List (ℕ × A)) → All Level (z ∷ zs) → c ≤ top_of_items (z ∷ zs) → Some (λ z. z.0 ≡ 0) (z ∷ zs)
  unfolding top_layer
  some_root z [] h k = inl (omega (arith, h.0))
  some_root z (y ∷ zs) h k =
      cases (eqb z.0 0) (λ e. inl (eqb-true z.0 0 e))
      (λ e. inr (some_root y zs h.1 (omega (arith, h.0, eqb-false z.0 0 e))))

  pub top_level : (zs : List (ℕ × A)) → All Level zs → top_of_items zs ≡ c → (map (λ z. z.1) zs ≡ [] → ⊥) → Some (λ z. z.0 ≡ 0) zs
  top_level [] h e k = k refl
  top_level (z ∷ zs) h e k = some_root z zs h (omega arith)

  module _ {D : Type 0} where
    -- deeper than c no item can stand
    no_entry_lem : (d : ℕ) (es : Entries A D) → c < d → All Level (depths_from d es) → items_from es ≡ []
    unfolding depths items
    no_entry_lem d end h k = refl
    no_entry_lem d (entry a g es) h k = absurd (omega (arith, k.0))

    mutual
      unfolding depths items

      too_deep : (d : ℕ) (t : Page A D) → c < d → All Level (depths d t) → items t ≡ []
      too_deep d (page g es) h k =
          let l = all_split Level (depths_under (suc d) g) (depths_from d es) k in
          rw (too_deep_under (suc d) g (omega arith) l.0, no_entry_lem d es h l.1)

      too_deep_under : (d : ℕ) (g : Gap A D) → c < d → All Level (depths_under d g) → items_under g ≡ []
      too_deep_under d empty h k = refl
      too_deep_under d (under e p) h k = too_deep d p h k

    mutual
      unfolding depths Layered Filled

      pub level_layered : (n d : ℕ) (t : Page A D) → n + d ≡ c → All Level (depths d t) → Filled t → Layered layer n t
      level_layered n d (page g es) e k f =
          let l = all_split Level (depths_under (suc d) g) (depths_from d es) k in
          (level_layered_under n d g e l.0 f.0, level_layered_from n d es e l.1 f.1)

      level_layered_under : (n d : ℕ) (g : Gap A D) → n + d ≡ c → All Level (depths_under (suc d) g) → FilledUnder g → LayeredUnder layer n g
      level_layered_under n d empty e k f = tt
      level_layered_under zero d (under _ p) e k f = f.0 (too_deep (suc d) p (omega arith) k)
      level_layered_under (suc n) d (under _ p) e k f = (level_layered n (suc d) p (omega arith) k f.1, f.0)

      level_layered_from : (n d : ℕ) (es : Entries A D) → n + d ≡ c → All Level (depths_from d es) → FilledFrom es → LayeredFrom layer n es
      level_layered_from n d end e k f = tt
      level_layered_from n d (entry a g es) e k f =
          let l = all_split Level (depths_under (suc d) g) (depths_from d es) k.1 in
          (omega (arith, k.0), level_layered_under n d g e l.0 f.0, level_layered_from n d es e l.1 f.1)

    mutual
      unfolding depths Layered

      pub layered_level : (n d : ℕ) (t : Page A D) → n + d ≡ c → Layered layer n t → All Level (depths d t)
      layered_level n d (page g es) e h =
          all_append Level (depths_under (suc d) g) (depths_from d es) (layered_level_under n d g e h.0) (layered_level_from n d es e h.1)

      layered_level_under : (n d : ℕ) (g : Gap A D) → n + d ≡ c → LayeredUnder layer n g → All Level (depths_under (suc d) g)
      layered_level_under n d empty e h = tt
      layered_level_under zero d (under _ p) e h = absurd h
      layered_level_under (suc n) d (under _ p) e h = layered_level n (suc d) p (omega arith) h.0

      layered_level_from : (n d : ℕ) (es : Entries A D) → n + d ≡ c → LayeredFrom layer n es → All Level (depths_from d es)
      layered_level_from n d end e h = tt
      layered_level_from n d (entry a g es) e h =
          let l : All Level (depths_under (suc d) g) = layered_level_under n d g e h.1 in
          (omega arith, all_append Level (depths_under (suc d) g) (depths_from d es) l (layered_level_from n d es e h.2))

module _ {A D : Type 0} (layer : A → ℕ) where
  mutual
    unfolding Layered Filled

    pub layered_filled : (n : ℕ) (t : Page A D) → Layered layer n t → Filled t
    layered_filled n (page g es) h = (layered_filled_under n g h.0, layered_filled_from n es h.1)

    layered_filled_under : (n : ℕ) (g : Gap A D) → LayeredUnder layer n g → FilledUnder g
    layered_filled_under n empty h = tt
    layered_filled_under zero (under _ p) h = absurd h
    layered_filled_under (suc n) (under _ p) h = (h.1, layered_filled n p h.0)

    layered_filled_from : (n : ℕ) (es : Entries A D) → LayeredFrom layer n es → FilledFrom es
    layered_filled_from n end h = tt
    layered_filled_from n (entry a g es) h = (layered_filled_under n g h.1, layered_filled_from n es h.2)

-- ---- the test of barren pages
module _ {A D : Type 0} where
  barren_none : (p : Page A D) → barren p ≡ true → items p ≡ []
  unfolding barren no_link no_entry items
  barren_none (page empty end) b = refl
  barren_none (page empty (entry a g es)) b = absurd (false≢true b)
  barren_none (page (under d p) es) b = absurd (false≢true b)

  filled_some : (p : Page A D) → Filled p → barren p ≡ false → items p ≡ [] → ⊥
  unfolding barren no_link no_entry items Filled
  filled_some (page empty end) f b e = false≢true (sym b)
  filled_some (page empty (entry a g es)) f b e = cons≢nil e
  filled_some (page (under d p) es) f b e = f.0.0 (append_none (items p) (items_from es) e)

  mutual
    unfolding none_barren Filled

    pub none_barren_filled : (t : Page A D) → none_barren t ≡ true → Filled t
    none_barren_filled (page g es) b =
        let k = and_inv (none_barren_under g) b in
        (none_barren_filled_under g k.0, none_barren_filled_from es k.1)

    none_barren_filled_under : (g : Gap A D) → none_barren_under g ≡ true → FilledUnder g
    none_barren_filled_under empty b = tt
    none_barren_filled_under (under d p) b =
        let k = and_inv (not (barren p)) b in
        let f = none_barren_filled p k.1 in
        (filled_some p f (not-true (barren p) k.0), f)

    none_barren_filled_from : (es : Entries A D) → none_barren_from es ≡ true → FilledFrom es
    none_barren_filled_from end b = tt
    none_barren_filled_from (entry a g es) b =
        let k = and_inv (none_barren_under g) b in
        (none_barren_filled_under g k.0, none_barren_filled_from es k.1)

  mutual
    unfolding none_barren Filled

    pub filled_none_barren : (t : Page A D) → Filled t → none_barren t ≡ true
    filled_none_barren (page g es) f = rw (filled_none_barren_under g f.0, filled_none_barren_from es f.1)

    filled_none_barren_under : (g : Gap A D) → FilledUnder g → none_barren_under g ≡ true
    filled_none_barren_under empty f = refl
    filled_none_barren_under (under d p) f =
        cases (barren p) (λ b. absurd (f.0 (barren_none p b))) (λ b. rw (b, filled_none_barren p f.1))

    filled_none_barren_from : (es : Entries A D) → FilledFrom es → none_barren_from es ≡ true
    filled_none_barren_from end f = refl
    filled_none_barren_from (entry a g es) f = rw (filled_none_barren_under g f.0, filled_none_barren_from es f.1)
