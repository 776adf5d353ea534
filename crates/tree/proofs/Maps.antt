-- The same tree with other items or other labels, and what determines a tree.
use mathlib.Core.Path.{◌≡◌, refl, ap, ap₂}
use mathlib.Core.List.{List, [], ◌++◌, map, append_assoc, map-append, tail-eq_of_cons-eq}
use Rattle.tree.specs.Tree.{Page, page, Gap, empty, under, Entries, end, entry, items, items_under, items_from, pages, pages_under, pages_from, map as map_tree, map_under, map_from}

module _ {A B D E : Type 0} (f : A → B) (h : D → E) where
  mutual
    unfolding items map_tree

    pub items_map : (t : Page A D) → items (map_tree f h t) ≡ map f (items t)
    items_map (page g es) = rw (map-append f (items_under g) (items_from es), items_map_under g, items_map_from es)

    items_map_under : (g : Gap A D) → items_under (map_under f h g) ≡ map f (items_under g)
    items_map_under empty = refl
    items_map_under (under d p) = items_map p

    items_map_from : (es : Entries A D) → items_from (map_from f h es) ≡ map f (items_from es)
    items_map_from end = refl
    items_map_from (entry a g es) = rw (map-append f (items_under g) (items_from es), items_map_under g, items_map_from es)

  mutual
    unfolding pages map_tree

    pub pages_map : (t : Page A D) → pages (map_tree f h t) ≡ pages t
    pages_map (page g es) = rw (pages_map_under g, pages_map_from es)

    pages_map_under : (g : Gap A D) → pages_under (map_under f h g) ≡ pages_under g
    pages_map_under empty = refl
    pages_map_under (under d p) = pages_map p

    pages_map_from : (es : Entries A D) → pages_from (map_from f h es) ≡ pages_from es
    pages_map_from end = refl
    pages_map_from (entry a g es) = rw (pages_map_under g, pages_map_from es)

module _ {A B C D E F : Type 0} (f : A → B) (h : D → E) (f' : B → C) (h' : E → F) where
  mutual
    unfolding map_tree

    pub map_map_tree : (t : Page A D) → map_tree f' h' (map_tree f h t) ≡ map_tree (λ a. f' (f a)) (λ d. h' (h d)) t
    map_map_tree (page g es) = ap₂ page (map_map_under g) (map_map_from es)

    map_map_under : (g : Gap A D) → map_under f' h' (map_under f h g) ≡ map_under (λ a. f' (f a)) (λ d. h' (h d)) g
    map_map_under empty = refl
    map_map_under (under d p) = ap (under (h' (h d))) (map_map_tree p)

    map_map_from : (es : Entries A D) → map_from f' h' (map_from f h es) ≡ map_from (λ a. f' (f a)) (λ d. h' (h d)) es
    map_map_from end = refl
    map_map_from (entry a g es) = ap₂ (entry (f' (f a))) (map_map_under g) (map_map_from es)

-- ---- a tree without its labels
abbrev pub unlabelled : {A D : Type 0} → Page A D → Page A (Unit {0})
unlabelled t = map_tree (λ a. a) (λ _. tt) t

abbrev pub unlabelled_under : {A D : Type 0} → Gap A D → Gap A (Unit {0})
unlabelled_under g = map_under (λ a. a) (λ _. tt) g

abbrev pub unlabelled_from : {A D : Type 0} → Entries A D → Entries A (Unit {0})
unlabelled_from es = map_from (λ a. a) (λ _. tt) es

-- ---- a tree is determined by its shape and its items
abbrev pub shape : {A D : Type 0} → Page A D → Page (Unit {0}) (Unit {0})
shape t = map_tree (λ _. tt) (λ _. tt) t

abbrev shape_under : {A D : Type 0} → Gap A D → Gap (Unit {0}) (Unit {0})
shape_under g = map_under (λ _. tt) (λ _. tt) g

abbrev shape_from : {A D : Type 0} → Entries A D → Entries (Unit {0}) (Unit {0})
shape_from es = map_from (λ _. tt) (λ _. tt) es

module _ {A D E : Type 0} where
  -- l and m are what follows in a longer list
  mutual
    unfolding map_tree items

    shape_items : (t : Page A D) (u : Page A E) (l m : List A) → shape t ≡ shape u → items t ++ l ≡ items u ++ m
        → (unlabelled t ≡ unlabelled u) × (l ≡ m)
    shape_items (page g es) (page h fs) l m e q =
        let r = under_shape_items g h (items_from es ++ l) (items_from fs ++ m) (cc) (simp append_assoc at q) in
        let s = from_shape_items es fs l m (cc) r.1 in
        (ap₂ page r.0 s.0, s.1)

    under_shape_items : (g : Gap A D) (h : Gap A E) (l m : List A) → shape_under g ≡ shape_under h → items_under g ++ l ≡ items_under h ++ m
        → (unlabelled_under g ≡ unlabelled_under h) × (l ≡ m)
    under_shape_items empty empty l m e q = (refl, q)
    under_shape_items empty (under d p) l m e q = (cc, cc)
    under_shape_items (under d p) empty l m e q = (cc, cc)
    under_shape_items (under d p) (under d' p') l m e q =
        let r = shape_items p p' l m (cc) q in
        (ap (under tt) r.0, r.1)

    from_shape_items : (es : Entries A D) (fs : Entries A E) (l m : List A) → shape_from es ≡ shape_from fs
        → items_from es ++ l ≡ items_from fs ++ m
        → (unlabelled_from es ≡ unlabelled_from fs) × (l ≡ m)
    from_shape_items end end l m e q = (refl, q)
    from_shape_items end (entry a h fs) l m e q = (cc, cc)
    from_shape_items (entry a g es) end l m e q = (cc, cc)
    from_shape_items (entry a g es) (entry b h fs) l m e q =
        let r = under_shape_items g h (items_from es ++ l) (items_from fs ++ m) (cc) (simp append_assoc at (tail-eq_of_cons-eq q)) in
        let s = from_shape_items es fs l m (cc) r.1 in
        let a≡b : a ≡ b = cc in
        (cc, s.1)

  pub determined : (t : Page A D) (u : Page A E) → shape t ≡ shape u → items t ≡ items u → unlabelled t ≡ unlabelled u
  determined t u e q = (shape_items t u [] [] e (ap (λ l. l ++ []) q)).0
