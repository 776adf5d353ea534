-- The builder's laws: the tree of a row has the row's items, and no other tree has pages that stand at their layers.
use Prim.Native.Nat.{ℕ, zero, suc, ◌≤◌, ◌<◌}
use mathlib.Core.Path.{◌≡◌, refl, sym, ap, ap₂, ◌∙◌}
use mathlib.Core.List.{List, [], ◌∷◌, ◌++◌, map, append-nil, map-id, cons≢nil}
use native.Mathlib.Omega.{arith}
use lib.Dec.{eqb}
use borrow.Author.Tests.{eqb-true, eqb-false, eq-eqb, ne_eqb}
use borrow.Table.Steps.{cases}
use Rattle.bytestring.proofs.Tools.{All, all_append, all_weaken}
use Rattle.tree.specs.Tree.{Page, page, Gap, empty, under, Entries, end, entry, items, items_under, items_from, map as map_tree, map_under, map_from, Placed, top_layer, Parted, part, entries_of, page_of, gap_of, build, tree_of}
use Rattle.tree.proofs.Maps.{items_map, unlabelled, unlabelled_under, unlabelled_from}

-- ---- the builder takes a page and its gaps at each layer
module _ {A D : Type 0} (label : Page A D → D) where
  -- what it puts into the gaps of a page at layer n
  gap_at : ℕ → List (Placed A) → Gap A D
  gap_at zero xs = empty
  gap_at (suc n) xs = gap_of label (build label n) xs

  gap_at_none : (n : ℕ) → gap_at n [] ≡ empty
  unfolding gap_at gap_of
  gap_at_none zero = refl
  gap_at_none (suc n) = refl

  build_page : (n : ℕ) (xs : List (Placed A)) → build label n xs ≡ page_of (gap_at n) (part n xs)
  unfolding build gap_at
  build_page zero xs = refl
  build_page (suc n) xs = refl

-- before the first item of layer n stand items of other layers, and they have what all items have
part_first : {A : Type 0} (P : Placed A → Type 0) (n : ℕ) (xs : List (Placed A)) → All P xs
    → All (λ x. P x × (x.layer ≡ n → ⊥)) (part n xs).first
unfolding part
part_first P n [] h = tt
part_first P n (x ∷ xs) h =
    cases (eqb x.layer n) (λ e. rw e tt) (λ e. rw e ((h.0, eqb-false x.layer n e), part_first P n xs h.1))

-- ---- the tree of a row has the row's items
module _ {A D : Type 0} where
  module _ (n : ℕ) (gap : List (Placed A) → Gap A D)
      (ok : (ls : List (Placed A)) → All (λ x. x.layer < n) ls → items_under (gap ls) ≡ map (λ x. x.item) ls) where
    items_page : (xs : List (Placed A)) → All (λ x. x.layer ≤ n) xs → items (page_of gap (part n xs)) ≡ map (λ x. x.item) xs
    unfolding part page_of entries_of items
    items_page [] h = rw (ok [] tt)
    items_page (x ∷ xs) h =
        let first : List (Placed A) = (part n xs).first in
        let low : All (λ x. x.layer < n) first =
        all_weaken _ _ (λ x k. omega (arith, k.1)) first (part_first (λ x. x.layer ≤ n) n xs h.1) in
        cases (eqb x.layer n)
        (λ e. rw (e, ok [] tt, items_page xs h.1))
        (λ e. rw (e, ok (x ∷ first) (omega (arith, eqb-false x.layer n e), low), ← ok first low, items_page xs h.1))

  module _ (label : Page A D → D) where
    items_gap : (n : ℕ) (ls : List (Placed A)) → All (λ x. x.layer < n) ls → items_under (gap_at label n ls) ≡ map (λ x. x.item) ls
    unfolding gap_at gap_of items
    items_gap zero [] h = refl
    items_gap zero (x ∷ ls) h = absurd (omega (arith, h.0))
    items_gap (suc n) [] h = refl
    items_gap (suc n) (x ∷ ls) h =
        rw (build_page label n (x ∷ ls)) (items_page n (gap_at label n) (items_gap n) (x ∷ ls) (all_weaken _ _ (λ y k. omega arith) (x ∷ ls) h))

    pub items_build : (n : ℕ) (xs : List (Placed A)) → All (λ x. x.layer ≤ n) xs → items (build label n xs) ≡ map (λ x. x.item) xs
    items_build n xs h = rw (build_page label n xs) (items_page n (gap_at label n) (items_gap n) xs h)

pub top_le : {A : Type 0} (xs : List (Placed A)) → All (λ x. x.layer ≤ top_layer xs) xs
unfolding top_layer
top_le [] = tt
top_le (x ∷ xs) = (omega arith, all_weaken _ _ (λ y k. omega arith) xs (top_le xs))

pub items_tree_of : {A D : Type 0} (label : Page A D → D) (xs : List (Placed A)) → items (tree_of label xs) ≡ map (λ x. x.item) xs
unfolding tree_of
items_tree_of label xs = items_build label (top_layer xs) xs (top_le xs)

-- ---- other items or labels in a row and in its tree
module _ {A B : Type 0} (f : A → B) where
  -- another item at the same layer
  abbrev pub on_item : Placed A → Placed B
  on_item x = record { layer = x.layer; item = f x.item }

  pub top_map : (xs : List (Placed A)) → top_layer (map on_item xs) ≡ top_layer xs
  unfolding top_layer
  top_map [] = refl
  top_map (x ∷ xs) = rw (top_map xs)

  first_map : (n : ℕ) (xs : List (Placed A)) → (part n (map on_item xs)).first ≡ map on_item (part n xs).first
  unfolding part
  first_map n [] = refl
  first_map n (x ∷ xs) = cases (eqb x.layer n) (λ e. rw e) (λ e. rw (e, first_map n xs))

  module _ {D E : Type 0} (h : D → E) where
    module _ (gap : List (Placed A) → Gap A D) (gap' : List (Placed B) → Gap B E)
        (ok : (ls : List (Placed A)) → map_under f h (gap ls) ≡ gap' (map on_item ls)) where
      from_map : (n : ℕ) (xs : List (Placed A))
          → map_from f h (entries_of gap (part n xs).rest) ≡ entries_of gap' (part n (map on_item xs)).rest
      unfolding part entries_of map_tree
      from_map n [] = refl
      from_map n (x ∷ xs) =
          cases (eqb x.layer n)
          (λ e. rw (e, first_map n xs, ok (part n xs).first, from_map n xs))
          (λ e. rw (e, from_map n xs))

      page_map : (n : ℕ) (xs : List (Placed A)) → map_tree f h (page_of gap (part n xs)) ≡ page_of gap' (part n (map on_item xs))
      unfolding page_of map_tree
      page_map n xs = rw (first_map n xs, ok (part n xs).first, from_map n xs)

    module _ (label : Page A D → D) (label' : Page B E → E) (same : (p : Page A D) → h (label p) ≡ label' (map_tree f h p)) where
      gap_map : (n : ℕ) (ls : List (Placed A)) → map_under f h (gap_at label n ls) ≡ gap_at label' n (map on_item ls)
      unfolding gap_at gap_of map_tree
      gap_map zero ls = refl
      gap_map (suc n) [] = refl
      gap_map (suc n) (x ∷ ls) =
          rw (
            same,
            build_page label n (x ∷ ls),
            build_page label' n (map on_item (x ∷ ls)),
            page_map (gap_at label n) (gap_at label' n) (gap_map n) n (x ∷ ls),
          )

      pub map_build : (n : ℕ) (xs : List (Placed A)) → map_tree f h (build label n xs) ≡ build label' n (map on_item xs)
      map_build n xs =
          rw (build_page label n xs, build_page label' n (map on_item xs)) (page_map (gap_at label n) (gap_at label' n) (gap_map n) n xs)

      pub map_tree_of : (xs : List (Placed A)) → map_tree f h (tree_of label xs) ≡ tree_of label' (map on_item xs)
      unfolding tree_of
      map_tree_of xs = rw (top_map xs) (map_build (top_layer xs) xs)

-- ---- pages that stand at their layers
-- Every entry of the page has layer n, and every page linked below holds an item and stands one layer lower; at layer 0 no gap links.
module _ {A D : Type 0} (layer : A → ℕ) where
  unfoldable mutual
    pub Layered : ℕ → Page A D → Type 0
    Layered n (page g es) = LayeredUnder n g × LayeredFrom n es

    pub LayeredUnder : ℕ → Gap A D → Type 0
    LayeredUnder n empty = Unit {0}
    LayeredUnder zero (under d p) = ⊥
    LayeredUnder (suc n) (under d p) = Layered n p × (items p ≡ [] → ⊥)

    pub LayeredFrom : ℕ → Entries A D → Type 0
    LayeredFrom n end = Unit {0}
    LayeredFrom n (entry a g es) = (layer a ≡ n) × LayeredUnder n g × LayeredFrom n es

-- an item at its layer, and a row of them
abbrev pub place : {A : Type 0} → (A → ℕ) → A → Placed A
place layer a = record { layer = layer a; item = a }

abbrev pub row : {A : Type 0} → (A → ℕ) → List A → List (Placed A)
row layer ls = map (place layer) ls

module _ {A : Type 0} (layer : A → ℕ) where
  -- a row with its items at their layers, all below n
  abbrev Below : ℕ → List (Placed A) → Type 0
  Below n xs = All (λ x. (layer x.item ≡ x.layer) × (x.layer < n)) xs

  below : (n : ℕ) (xs : List (Placed A)) → Below (suc n) xs → Below n (part n xs).first
  below n xs h = all_weaken _ _ (λ x k. (k.0.0, omega (arith, k.1))) (part n xs).first (part_first _ n xs h)

  module _ {D : Type 0} (n : ℕ) (gap : List (Placed A) → Gap A D)
      (ok : (ls : List (Placed A)) → Below n ls → LayeredUnder layer n (gap ls)) where
    layered_from : (xs : List (Placed A)) → Below (suc n) xs → LayeredFrom layer n (entries_of gap (part n xs).rest)
    unfolding part entries_of Layered
    layered_from [] h = tt
    layered_from (x ∷ xs) h =
        cases (eqb x.layer n)
        (λ e. rw e (h.0.0 ∙ eqb-true x.layer n e, ok (part n xs).first (below n xs h.1), layered_from xs h.1))
        (λ e. rw e (layered_from xs h.1))

    layered_page : (xs : List (Placed A)) → Below (suc n) xs → Layered layer n (page_of gap (part n xs))
    unfolding page_of Layered
    layered_page xs h = (ok (part n xs).first (below n xs h), layered_from xs h)

  -- a row that is made from its items has them at their layers
  placed_all : (n : ℕ) (ls : List A) → All (λ x. x.layer ≤ n) (row layer ls)
      → All (λ x. (layer x.item ≡ x.layer) × (x.layer ≤ n)) (row layer ls)
  placed_all n [] h = tt
  placed_all n (a ∷ ls) h = ((refl, h.0), placed_all n ls h.1)

  module _ {D : Type 0} (label : Page A D → D) where
    layered_gap : (n : ℕ) (ls : List (Placed A)) → Below n ls → LayeredUnder layer n (gap_at label n ls)
    unfolding gap_at gap_of Layered
    layered_gap zero ls h = tt
    layered_gap (suc n) [] h = tt
    layered_gap (suc n) (x ∷ ls) h = (
      rw (build_page label n (x ∷ ls)) (layered_page n (gap_at label n) (layered_gap n) (x ∷ ls) h),
      λ e. cons≢nil (sym (items_build label n (x ∷ ls) (all_weaken _ _ (λ y k. omega arith) (x ∷ ls) h)) ∙ e),
    )

    pub build_layered : (n : ℕ) (xs : List (Placed A)) → All (λ x. (layer x.item ≡ x.layer) × (x.layer ≤ n)) xs
        → Layered layer n (build label n xs)
    build_layered n xs h =
        rw (build_page label n xs)
        (layered_page n (gap_at label n) (layered_gap n) xs (all_weaken _ _ (λ x k. (k.0, omega arith)) xs h))

    pub tree_of_layered : (ls : List A) → Layered layer (top_layer (row layer ls)) (tree_of label (row layer ls))
    unfolding tree_of
    tree_of_layered ls =
        build_layered (top_layer (row layer ls)) (row layer ls) (placed_all (top_layer (row layer ls)) ls (top_le (row layer ls)))

module _ {A B D E : Type 0} (layer : B → ℕ) (f : A → B) (h : D → E) where
  mutual
    unfolding Layered map_tree

    pub map_layered : (n : ℕ) (t : Page A D) → Layered layer n (map_tree f h t) → Layered (λ a. layer (f a)) n t
    map_layered n (page g es) k = (map_layered_under n g k.0, map_layered_from n es k.1)

    map_layered_under : (n : ℕ) (g : Gap A D) → LayeredUnder layer n (map_under f h g) → LayeredUnder (λ a. layer (f a)) n g
    map_layered_under n empty k = tt
    map_layered_under zero (under d p) k = k
    map_layered_under (suc n) (under d p) k = (map_layered n p k.0, λ e. k.1 (items_map f h p ∙ ap (map f) e))

    map_layered_from : (n : ℕ) (es : Entries A D) → LayeredFrom layer n (map_from f h es) → LayeredFrom (λ a. layer (f a)) n es
    map_layered_from n end k = tt
    map_layered_from n (entry a g es) k = (k.0, map_layered_under n g k.1, map_layered_from n es k.2)

-- ---- a tree whose pages stand at their layers is the tree of its items
module _ {A : Type 0} (layer : A → ℕ) where
  join_lt : (n : ℕ) (ls ms : List A) → All (λ a. layer a < n) ls → All (λ a. layer a < suc n) ms → All (λ a. layer a < suc n) (ls ++ ms)
  join_lt n ls ms h k = all_append _ ls ms (all_weaken _ _ (λ a l. omega arith) ls h) k

  -- what is linked under a page at layer n has lower layers
  mutual
    unfolding Layered items

    layered_lt : {D : Type 0} (n : ℕ) (t : Page A D) → Layered layer n t → All (λ a. layer a < suc n) (items t)
    layered_lt n (page g es) h = join_lt n (items_under g) (items_from es) (under_lt n g h.0) (from_lt n es h.1)

    under_lt : {D : Type 0} (n : ℕ) (g : Gap A D) → LayeredUnder layer n g → All (λ a. layer a < n) (items_under g)
    under_lt n empty h = tt
    under_lt zero (under d p) h = absurd h
    under_lt (suc n) (under d p) h = layered_lt n p h.0

    from_lt : {D : Type 0} (n : ℕ) (es : Entries A D) → LayeredFrom layer n es → All (λ a. layer a < suc n) (items_from es)
    from_lt n end h = tt
    from_lt n (entry a g es) h = (omega arith, join_lt n (items_under g) (items_from es) (under_lt n g h.1) (from_lt n es h.2))

  part_under : (n : ℕ) (ls ms : List A) → All (λ a. layer a < n) ls
      → part n (row layer (ls ++ ms)) ≡ record { first = row layer ls ++ (part n (row layer ms)).first; rest = (part n (row layer ms)).rest }
  unfolding part
  part_under n [] ms h = refl
  part_under n (a ∷ ls) ms h = rw (ne_eqb (layer a) n (λ e. omega (arith, h.0)), part_under n ls ms h.1)

  first_none : {D : Type 0} (n : ℕ) (es : Entries A D) → LayeredFrom layer n es → (part n (row layer (items_from es))).first ≡ []
  unfolding part Layered items
  first_none n end h = refl
  first_none n (entry a g es) h = rw (eq-eqb (layer a) n h.0)

  part_at : {D : Type 0} (n : ℕ) (g : Gap A D) (es : Entries A D) → LayeredUnder layer n g → LayeredFrom layer n es
      → part n (row layer (items_under g ++ items_from es))
      ≡ record { first = row layer (items_under g); rest = (part n (row layer (items_from es))).rest }
  part_at n g es h k =
      rw (part_under n (items_under g) (items_from es) (under_lt n g h), first_none n es k, append-nil (row layer (items_under g)))

  gap_of_some : {D : Type 0} (label : Page A D → D) (b : List (Placed A) → Page A D) (ls : List A) → (ls ≡ [] → ⊥)
      → gap_of label b (row layer ls) ≡ under (label (b (row layer ls))) (b (row layer ls))
  unfolding gap_of
  gap_of_some label b [] h = absurd (h refl)
  gap_of_some label b (a ∷ ls) h = refl

  mutual
    unfolding Layered items map_tree gap_at gap_of part entries_of page_of

    pub layered_shape : {D : Type 0} (n : ℕ) (t : Page A D) → Layered layer n t → build (λ _. tt) n (row layer (items t)) ≡ unlabelled t
    layered_shape n (page g es) h =
        build_page (λ _. tt) n (row layer (items_under g ++ items_from es))
        ∙ rw (part_at n g es h.0 h.1, under_shape n g h.0, from_shape n es h.1)

    under_shape : {D : Type 0} (n : ℕ) (g : Gap A D) → LayeredUnder layer n g
        → gap_at (λ _. tt) n (row layer (items_under g)) ≡ unlabelled_under g
    under_shape n empty h = gap_at_none (λ _. tt) n
    under_shape zero (under d p) h = absurd h
    under_shape (suc n) (under d p) h =
        gap_of_some (λ _. tt) (build (λ _. tt) n) (items p) h.1 ∙ ap (under tt) (layered_shape n p h.0)

    from_shape : {D : Type 0} (n : ℕ) (es : Entries A D) → LayeredFrom layer n es
        → entries_of (gap_at (λ _. tt) n) (part n (row layer (items_from es))).rest ≡ unlabelled_from es
    from_shape n end h = refl
    from_shape n (entry a g es) h =
        rw (eq-eqb (layer a) n h.0, part_at n g es h.1 h.2, under_shape n g h.1, from_shape n es h.2)

-- ---- labels
-- Each link's label is the one that belongs to its page.
module _ {A D : Type 0} (label : Page A D → D) where
  unfoldable mutual
    pub Labelled : Page A D → Type 0
    Labelled (page g es) = LabelledUnder g × LabelledFrom es

    pub LabelledUnder : Gap A D → Type 0
    LabelledUnder empty = Unit {0}
    LabelledUnder (under d p) = (d ≡ label p) × Labelled p

    pub LabelledFrom : Entries A D → Type 0
    LabelledFrom end = Unit {0}
    LabelledFrom (entry a g es) = LabelledUnder g × LabelledFrom es

  module _ (gap : List (Placed A) → Gap A D) (ok : (ls : List (Placed A)) → LabelledUnder (gap ls)) where
    labelled_from : (cs : List (A × List (Placed A))) → LabelledFrom (entries_of gap cs)
    unfolding Labelled entries_of
    labelled_from [] = tt
    labelled_from (c ∷ cs) = (ok c.1, labelled_from cs)

    labelled_page : (p : Parted A) → Labelled (page_of gap p)
    unfolding Labelled page_of
    labelled_page p = (ok p.first, labelled_from p.rest)

  labelled_gap : (n : ℕ) (ls : List (Placed A)) → LabelledUnder (gap_at label n ls)
  unfolding Labelled gap_at gap_of
  labelled_gap zero ls = tt
  labelled_gap (suc n) [] = tt
  labelled_gap (suc n) (x ∷ ls) =
      (refl, rw (build_page label n (x ∷ ls)) (labelled_page (gap_at label n) (labelled_gap n) (part n (x ∷ ls))))

  pub labelled_build : (n : ℕ) (xs : List (Placed A)) → Labelled (build label n xs)
  labelled_build n xs = rw (build_page label n xs) (labelled_page (gap_at label n) (labelled_gap n) (part n xs))

  pub labelled_tree_of : (xs : List (Placed A)) → Labelled (tree_of label xs)
  unfolding tree_of
  labelled_tree_of xs = labelled_build (top_layer xs) xs

  mutual
    unfolding Labelled map_tree

    pub labelled_same : (t u : Page A D) → Labelled t → Labelled u → unlabelled t ≡ unlabelled u → t ≡ u
    labelled_same (page g es) (page g' es') h k e = ap₂ page (under_same g g' h.0 k.0 (cc)) (from_same es es' h.1 k.1 (cc))

    under_same : (g g' : Gap A D) → LabelledUnder g → LabelledUnder g' → unlabelled_under g ≡ unlabelled_under g' → g ≡ g'
    under_same empty empty h k e = refl
    under_same empty (under d p) h k e = cc
    under_same (under d p) empty h k e = cc
    under_same (under d p) (under d' p') h k e =
        let q : p ≡ p' = labelled_same p p' h.1 k.1 (cc) in
        cc (h.0, k.0)

    from_same : (es es' : Entries A D) → LabelledFrom es → LabelledFrom es' → unlabelled_from es ≡ unlabelled_from es' → es ≡ es'
    from_same end end h k e = refl
    from_same end (entry a g es) h k e = cc
    from_same (entry a g es) end h k e = cc
    from_same (entry a g es) (entry a' g' es') h k e =
        let q : g ≡ g' = under_same g g' h.0 k.0 (cc) in
        let r : es ≡ es' = from_same es es' h.1 k.1 (cc) in
        cc

module _ {A D : Type 0} where
  pub unlabelled_build : (label : Page A D → D) (n : ℕ) (xs : List (Placed A)) → unlabelled (build label n xs) ≡ build (λ _. tt) n xs
  unlabelled_build label n xs = map_build (λ a. a) (λ _. tt) label (λ _. tt) (λ p. refl) n xs ∙ rw (map-id xs)

  pub unlabelled_tree_of : (label : Page A D → D) (xs : List (Placed A)) → unlabelled (tree_of label xs) ≡ tree_of (λ _. tt) xs
  unfolding tree_of
  unlabelled_tree_of label xs = unlabelled_build label (top_layer xs) xs

  pub layered_build : (layer : A → ℕ) (label : Page A D → D) (n : ℕ) (t : Page A D) → Layered layer n t → Labelled label t
      → build label n (row layer (items t)) ≡ t
  layered_build layer label n t h k =
      labelled_same label _ t (labelled_build label n (row layer (items t))) k
      (unlabelled_build label n (row layer (items t)) ∙ layered_shape layer n t h)
