-- A tree whose keys rise and whose linked pages hold records has no page twice, and so is no longer than a sequence that has its pages.
use Prim.Native.Nat.{ℕ, ◌+◌, ◌≤◌}
use mathlib.Core.Path.{◌≡◌, refl, sym, ap, subst, ◌∙◌}
use mathlib.Core.Logic.{◌⊎◌, inl, inr}
use mathlib.Core.List.{List, [], ◌∷◌, ◌++◌}
use native.Mathlib.Omega.{arith}
use lib.ListN.{length, length-append}
use Rattle.fips180.specs.Hash.{sha256}
use Rattle.key.proofs.Laws.{less_irreflexive}
use Rattle.page.specs.Reading.{concat}
use Rattle.tree.specs.Tree.{page, Gap, empty, under, Entries, end, entry, items, items_under, items_from, pages, pages_under, pages_from}
use Rattle.tree.specs.Record.{Record, Spelt, record_of, keyed, keyed_under, keyed_from, records}
use Rattle.tree.specs.Table.{SpeltTree, bytes_of_page}
use Rattle.tree.proofs.Laws.{page_injective, Filled, FilledUnder, FilledFrom}
use Rattle.promises.specs.Pages.{pages_of, pages_of_gap, pages_of_entries}
use Rattle.promises.specs.Promises.{Among, DigestsApart}
use Rattle.promises.proofs.MapLaws.{Before, Above, Sorted, sorted_split}
use Rattle.promises.proofs.DifferenceLaws.{Linked, LinkedUnder, LinkedFrom, same_tree, Within, Fine}
use Rattle.states.proofs.Filing.{among-split}

-- ---- lists of records
abbrev pub Has : Record → List Record → Type 0
Has r [] = ⊥
Has r (x ∷ l) = (r ≡ x) ⊎ Has r l

has_left : (a b : List Record) (r : Record) → Has r a → Has r (a ++ b)
has_left [] b r h = absurd h
has_left (x ∷ a) b r (inl e) = inl e
has_left (x ∷ a) b r (inr h) = inr (has_left a b r h)

has_right : (a b : List Record) (r : Record) → Has r b → Has r (a ++ b)
has_right [] b r h = h
has_right (x ∷ a) b r h = inr (has_right a b r h)

has_some : (l : List Record) → (l ≡ [] → ⊥) → (r : Record) × Has r l
has_some [] n = absurd (n refl)
has_some (x ∷ l) n = (x, inl refl)

above_has : (k : List ℕ) (l : List Record) (r : Record) → Above k l → Has r l → Before k r.key
above_has k [] r a h = absurd h
above_has k (x ∷ l) r a (inl e) = rw e a.0
above_has k (x ∷ l) r a (inr h) = above_has k l r a.1 h

sorted_apart : (a b : List Record) (r : Record) → Sorted (a ++ b) → Has r a → Has r b → ⊥
sorted_apart [] b r s h k = h
sorted_apart (x ∷ a) b r s (inl e) k =
    less_irreflexive r.key (subst (λ (y : Record). Before y.key r.key) (sym e) (above_has x.key (a ++ b) r s.0 (has_right a b r k)))
sorted_apart (x ∷ a) b r s (inr h) k = sorted_apart a b r s.1 h k

-- ---- lists of pages in which none comes twice
abbrev pub Once : List (List ℕ) → Type 0
Once [] = Unit {0}
Once (p ∷ ps) = (Among p ps → ⊥) × Once ps

once_append : (a b : List (List ℕ)) → Once a → Once b → ((p : List ℕ) → Among p a → Among p b → ⊥) → Once (a ++ b)
once_append [] b p q f = q
once_append (x ∷ a) b p q f =
    (λ i. among-split a b x i p.0 (f x (inl refl)), once_append a b p.1 q (λ y i j. f y (inr i) j))

-- the list without one of its pages
without_page : (p : List ℕ) (qs : List (List ℕ)) → Among p qs → List (List ℕ)
without_page p [] i = absurd i
without_page p (q ∷ qs) (inl e) = qs
without_page p (q ∷ qs) (inr i) = q ∷ without_page p qs i

abbrev joined : List (List ℕ) → List ℕ
joined ps = concat (λ b. b) ps

without_length : (p : List ℕ) (qs : List (List ℕ)) (i : Among p qs) → length (joined qs) ≡ length p + length (joined (without_page p qs i))
unfolding without_page
without_length p [] i = absurd i
without_length p (q ∷ qs) (inl e) = rw (length-append q (joined qs), e)
without_length p (q ∷ qs) (inr i) =
    omega (arith, length-append q (joined qs), length-append q (joined (without_page p qs i)), without_length p qs i)

without_among : (p : List ℕ) (qs : List (List ℕ)) (i : Among p qs) (x : List ℕ) → (x ≡ p → ⊥) → Among x qs → Among x (without_page p qs i)
unfolding without_page
without_among p [] i x n j = absurd i
without_among p (q ∷ qs) (inl e) x n (inl d) = absurd (n (d ∙ sym e))
without_among p (q ∷ qs) (inl e) x n (inr j) = j
without_among p (q ∷ qs) (inr i) x n (inl d) = inl d
without_among p (q ∷ qs) (inr i) x n (inr j) = inr (without_among p qs i x n j)

pub once_length : (ps qs : List (List ℕ)) → Once ps → Within ps qs → length (joined ps) ≤ length (joined qs)
once_length [] qs o w = omega arith
once_length (p ∷ ps) qs o w =
    let i = w p (inl refl) in
    let others : Within ps (without_page p qs i) =
    λ x j. without_among p qs i x (λ e. o.0 (subst (λ (y : List ℕ). Among y ps) e j)) (w x (inr j)) in
    let rest = once_length ps (without_page p qs i) o.1 others in
    omega (arith, length-append p (joined ps), without_length p qs i, rest)

-- ---- trees
module _ (all : List (List ℕ)) (unshared : DigestsApart all) where
  -- the same bytes are the same tree
  tree_of_bytes : (p q : SpeltTree) → Linked (Fine all) p → Linked (Fine all) q → bytes_of_page p ≡ bytes_of_page q → p ≡ q
  tree_of_bytes p q a b e =
      same_tree (Fine all)
      (λ x y f g d. page_injective x y f.0 g.0 (unshared (bytes_of_page x) (bytes_of_page y) f.1 g.1 d))
      p q a b (ap sha256 e)

  -- a page with the tree under it
  record Sub (rs : List Record) (n : ℕ) (p : List ℕ) : Type 0 where
    tree : SpeltTree
    bytes : p ≡ bytes_of_page tree
    linked : Linked (Fine all) tree
    some : records tree ≡ [] → ⊥
    within : (r : Record) → Has r (records tree) → Has r rs
    size : pages tree ≤ n

  widen : (rs qs : List Record) (n k : ℕ) (p : List ℕ) → ((r : Record) → Has r rs → Has r qs) → n ≤ k → Sub rs n p → Sub qs k p
  widen rs qs n k p w h s =
      record {
        tree = s.tree;
        bytes = s.bytes;
        linked = s.linked;
        some = s.some;
        within = λ r i. w r (s.within r i);
        size = omega (arith, s.size);
      }

  disjoint : (rs qs : List Record) (n k : ℕ) (p : List ℕ) → Sub rs n p → Sub qs k p → Sorted (rs ++ qs) → ⊥
  disjoint rs qs n k p u v s =
      let e = tree_of_bytes u.tree v.tree u.linked v.linked (sym u.bytes ∙ v.bytes) in
      let h = has_some (records u.tree) u.some in
      sorted_apart rs qs h.0 s (u.within h.0 h.1) (v.within h.0 (subst (λ (t : SpeltTree). Has h.0 (records t)) e h.1))

  mutual
    unfolding pages_of keyed items pages Filled

    sub_tree : (t : SpeltTree) → Linked (Fine all) t → (records t ≡ [] → ⊥) → Filled (keyed t) → (p : List ℕ) → Among p (pages_of t)
        → Sub (records t) (pages t) p
    sub_tree (page g es) a n f p (inl e) =
        record { tree = page g es; bytes = e; linked = a; some = n; within = λ r i. i; size = omega arith }
    sub_tree (page g es) a n f p (inr i) =
        among-split (pages_of_gap g) (pages_of_entries es) p i
        (λ j. widen (items_under (keyed_under g)) (records (page g es)) (pages_under g) (pages (page g es)) p
        (has_left (items_under (keyed_under g)) (items_from (keyed_from [] es))) (omega arith) (sub_under g a.1 f.0 p j))
        (λ j. widen (items_from (keyed_from [] es)) (records (page g es)) (pages_from es) (pages (page g es)) p
        (has_right (items_under (keyed_under g)) (items_from (keyed_from [] es))) (omega arith) (sub_from [] es a.2 f.1 p j))

    sub_under : (g : Gap Spelt (List ℕ)) → LinkedUnder (Fine all) g → FilledUnder (keyed_under g) → (p : List ℕ) → Among p (pages_of_gap g)
        → Sub (items_under (keyed_under g)) (pages_under g) p
    sub_under empty a f p i = absurd i
    sub_under (under digest t) a f p i = sub_tree t a.1 f.0 f.1 p i

    sub_from : (before : List ℕ) (es : Entries Spelt (List ℕ)) → LinkedFrom (Fine all) es → FilledFrom (keyed_from before es)
        → (p : List ℕ) → Among p (pages_of_entries es) → Sub (items_from (keyed_from before es)) (pages_from es) p
    sub_from before end a f p i = absurd i
    sub_from before (entry e g es) a f p i =
        let key : List ℕ = (record_of before e).key in
        among-split (pages_of_gap g) (pages_of_entries es) p i
        (λ j. widen (items_under (keyed_under g)) (items_from (keyed_from before (entry e g es))) (pages_under g) (pages_under g + pages_from es) p
        (λ r h. inr (has_left (items_under (keyed_under g)) (items_from (keyed_from key es)) r h)) (omega arith) (sub_under g a.0 f.0 p j))
        (λ j. widen (items_from (keyed_from key es)) (items_from (keyed_from before (entry e g es))) (pages_from es) (pages_under g + pages_from es) p
        (λ r h. inr (has_right (items_under (keyed_under g)) (items_from (keyed_from key es)) r h)) (omega arith) (sub_from key es a.1 f.1 p j))

  -- a page is not below itself
  not_below : (g : Gap Spelt (List ℕ)) (es : Entries Spelt (List ℕ)) → Linked (Fine all) (page g es) → (rs : List Record) (n : ℕ)
      → n ≤ pages_under g + pages_from es → Sub rs n (bytes_of_page (page g es)) → ⊥
  unfolding pages
  not_below g es a rs n h s =
      let e : 1 + (pages_under g + pages_from es) ≡ pages s.tree = ap pages (tree_of_bytes (page g es) s.tree a s.linked s.bytes) in
      omega (arith, s.size)

  mutual
    unfolding pages_of keyed items Filled

    pub once_tree : (t : SpeltTree) → Linked (Fine all) t → Filled (keyed t) → Sorted (records t) → Once (pages_of t)
    once_tree (page g es) a f s =
        let left = items_under (keyed_under g) in
        let right = items_from (keyed_from [] es) in (
          (λ i. among-split (pages_of_gap g) (pages_of_entries es) (bytes_of_page (page g es)) i
              (λ j. not_below g es a left (pages_under g) (omega arith) (sub_under g a.1 f.0 (bytes_of_page (page g es)) j))
              (λ j. not_below g es a right (pages_from es) (omega arith) (sub_from [] es a.2 f.1 (bytes_of_page (page g es)) j))),
          once_append (pages_of_gap g) (pages_of_entries es)
              (once_under g a.1 f.0 (sorted_split left right s).0)
              (once_from [] es a.2 f.1 (sorted_split left right s).1)
              (λ p i j. disjoint left right (pages_under g) (pages_from es) p (sub_under g a.1 f.0 p i) (sub_from [] es a.2 f.1 p j) s),
        )

    once_under : (g : Gap Spelt (List ℕ)) → LinkedUnder (Fine all) g → FilledUnder (keyed_under g) → Sorted (items_under (keyed_under g))
        → Once (pages_of_gap g)
    once_under empty a f s = tt
    once_under (under digest t) a f s = once_tree t a.1 f.1 s

    once_from : (before : List ℕ) (es : Entries Spelt (List ℕ)) → LinkedFrom (Fine all) es → FilledFrom (keyed_from before es)
        → Sorted (items_from (keyed_from before es)) → Once (pages_of_entries es)
    once_from before end a f s = tt
    once_from before (entry e g es) a f s =
        let key : List ℕ = (record_of before e).key in
        let left = items_under (keyed_under g) in
        let right = items_from (keyed_from key es) in
        once_append (pages_of_gap g) (pages_of_entries es)
        (once_under g a.0 f.0 (sorted_split left right s.1).0)
        (once_from key es a.1 f.1 (sorted_split left right s.1).1)
        (λ p i j. disjoint left right (pages_under g) (pages_from es) p (sub_under g a.0 f.0 p i) (sub_from key es a.1 f.1 p j) s.1)
