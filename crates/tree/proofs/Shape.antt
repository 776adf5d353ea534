-- Number 9: the pages are those that the rules give just where layer and depth add up and every linked page holds a record.
use Prim.Native.Nat.{ℕ}
use mathlib.Core.Path.{◌≡◌, refl, sym, ap, ap₂, ◌∙◌}
use mathlib.Core.Bool.{true, false≢true}
use mathlib.Core.List.{List, [], map, map-map, map-id}
use native.Mathlib.Omega.{arith}
use Rattle.bytestring.proofs.Equal.{equal_true, equal_refl}
use Rattle.bytestring.specs.Bytes.{equal}
use Rattle.bytestring.proofs.Tools.{and_inv, All}
use Rattle.key.specs.Layer.{layer_of}
use Rattle.tree.specs.Tree.{Page, page, Gap, empty, under, Entries, end, entry, map as map_tree, Placed, top_layer, tree_of}
use Rattle.tree.specs.Record.{Record, Spelt, record_of, keyed, keyed_under, keyed_from, spelt, records, placed, placed_key}
use Rattle.tree.specs.Judge.{same, same_under, same_from, keys_of, right_tree}
use Rattle.tree.proofs.Lists.{Some, map_none, none_or_some}
use Rattle.tree.proofs.Maps.{unlabelled, unlabelled_under, unlabelled_from, map_map_tree}
use Rattle.tree.proofs.BuildLaws.{items_tree_of, Layered, Labelled, layered_build, unlabelled_tree_of, on_item, top_map, map_tree_of, map_layered, tree_of_layered, layered_shape}
use Rattle.tree.proofs.Spelling.{keyed_spelt}
use Rattle.tree.proofs.Depths.{depths, Filled, no_link, no_entry, barren, none_barren, none_barren_under, none_barren_from, Level, items_depths, level_layered, layered_level, layered_filled, level_top, top_level}

-- ---- the same keys in the same pages
module _ {D : Type 0} where
  mutual
    unfolding same

    pub same_refl : (t : Page (List ℕ) D) → same t t ≡ true
    same_refl (page g es) = rw (same_under_refl g, same_from_refl es)

    same_under_refl : (g : Gap (List ℕ) D) → same_under g g ≡ true
    same_under_refl empty = refl
    same_under_refl (under d p) = same_refl p

    same_from_refl : (es : Entries (List ℕ) D) → same_from es es ≡ true
    same_from_refl end = refl
    same_from_refl (entry k g es) = rw (equal_refl k, same_under_refl g, same_from_refl es)

module _ {D E : Type 0} where
  mutual
    unfolding same map_tree

    pub same_equal : (t : Page (List ℕ) D) (u : Page (List ℕ) E) → same t u ≡ true → unlabelled t ≡ unlabelled u
    same_equal (page g es) (page h fs) e =
        let k = and_inv (same_under g h) e in
        ap₂ page (same_under_equal g h k.0) (same_from_equal es fs k.1)

    same_under_equal : (g : Gap (List ℕ) D) (h : Gap (List ℕ) E) → same_under g h ≡ true → unlabelled_under g ≡ unlabelled_under h
    same_under_equal empty empty e = refl
    same_under_equal empty (under d p) e = absurd (false≢true e)
    same_under_equal (under d p) empty e = absurd (false≢true e)
    same_under_equal (under d p) (under d' q) e = ap (under tt) (same_equal p q e)

    same_from_equal : (es : Entries (List ℕ) D) (fs : Entries (List ℕ) E) → same_from es fs ≡ true → unlabelled_from es ≡ unlabelled_from fs
    same_from_equal end end e = refl
    same_from_equal end (entry l h fs) e = absurd (false≢true e)
    same_from_equal (entry k g es) end e = absurd (false≢true e)
    same_from_equal (entry k g es) (entry l h fs) e =
        let i = and_inv (equal k l) e in
        let j = and_inv (same_under g h) i.1 in
        rw (equal_true k l i.0, same_under_equal g h j.0, same_from_equal es fs j.1)

-- ---- the tree of the definition
abbrev key_of : Record → List ℕ
key_of r = r.key

abbrev pub layer_of_record : Record → ℕ
layer_of_record r = layer_of r.key

-- the layer of the root
abbrev pub top_of : {D : Type 0} → Page Spelt D → ℕ
top_of t = top_layer (map placed (records t))

module _ {D : Type 0} (t : Page Spelt D) where
  -- the row of keys that the test takes, from the row of records
  keys_row : map (on_item key_of) (map placed (records t)) ≡ map (λ r. placed_key r.key) (records t)
  keys_row = map-map (on_item key_of) placed (records t)

  pub right_layered : right_tree t ≡ true → Layered layer_of_record (top_of t) (keyed t)
  unfolding right_tree
  right_layered h =
      let row : List (Placed (List ℕ)) = map (λ r. placed_key r.key) (records t) in
      let e : unlabelled (keys_of t) ≡ tree_of (λ _. tt) row =
      same_equal (keys_of t) (tree_of (λ _. tt) row) h ∙ unlabelled_tree_of (λ _. tt) row in
      let n : top_of t ≡ top_layer row = sym (top_map key_of (map placed (records t))) ∙ ap top_layer keys_row in
      let k : Layered layer_of (top_of t) (unlabelled (keys_of t)) =
      rw (e, n, ← map-map placed_key key_of (records t)) (tree_of_layered layer_of (λ _. tt) (map key_of (records t))) in
      map_layered layer_of key_of (λ _. tt) (top_of t) (keyed t) (map_layered layer_of (λ k. k) (λ _. tt) (top_of t) (keys_of t) k)

  pub right_built : right_tree t ≡ true → unlabelled (keyed t) ≡ tree_of (λ _. tt) (map placed (records t))
  unfolding tree_of
  right_built h = sym (layered_shape layer_of_record (top_of t) (keyed t) (right_layered h))

  pub built_right : unlabelled (keyed t) ≡ tree_of (λ _. tt) (map placed (records t)) → right_tree t ≡ true
  unfolding right_tree
  built_right e =
      let k : keys_of t ≡ tree_of (λ _. tt) (map (λ r. placed_key r.key) (records t)) =
      sym (map_map_tree (λ r. r) (λ _. tt) key_of (λ u. u) (keyed t))
      ∙ rw (e, ← keys_row) (map_tree_of key_of (λ u. u) (λ _. tt) (λ _. tt) (λ p. refl) (map placed (records t))) in
      rw k (same_refl _)

  pub layered_right : Layered layer_of_record (top_of t) (keyed t) → right_tree t ≡ true
  unfolding tree_of
  layered_right h = built_right (sym (layered_shape layer_of_record (top_of t) (keyed t) h))

-- ---- the local test
-- In the tree that a register spells: layer and depth of each record add up to c, every linked page holds a record, and the root holds one
-- where there are records at all.
pub record Local {D : Type 0} (c : ℕ) (t : Page Spelt D) : Type 0 where
  pub level : All (Level layer_of_record c) (depths 0 (keyed t))
  pub filled : Filled (keyed t)
  pub root : (records t ≡ [] → ⊥) → Some (λ z. z.0 ≡ 0) (depths 0 (keyed t))

module _ {D : Type 0} (t : Page Spelt D) where
  pub right_local : right_tree t ≡ true → Local (top_of t) t
  right_local h =
      let k : Layered layer_of_record (top_of t) (keyed t) = right_layered t h in
      let l : All (Level layer_of_record (top_of t)) (depths 0 (keyed t)) =
      layered_level layer_of_record (top_of t) (top_of t) 0 (keyed t) (omega arith) k in
      record {
        level = l;
        filled = layered_filled layer_of_record (top_of t) (keyed t) k;
        root = λ f.
            top_level layer_of_record (top_of t) (depths 0 (keyed t)) l (rw (items_depths 0 (keyed t))) (rw (items_depths 0 (keyed t)) f);
      }

  level_right : (c : ℕ) → All (Level layer_of_record c) (depths 0 (keyed t)) → Filled (keyed t) → top_of t ≡ c → right_tree t ≡ true
  level_right c l f e = layered_right t (rw e (level_layered layer_of_record c c 0 (keyed t) (omega arith) l f))

  pub none_right : records t ≡ [] → Filled (keyed t) → right_tree t ≡ true
  unfolding top_layer
  none_right e f = level_right 0 (rw (map_none (λ z. z.1) (depths 0 (keyed t)) (items_depths 0 (keyed t) ∙ e)) tt) f (rw e)

  pub local_right : (c : ℕ) → Local c t → right_tree t ≡ true
  local_right c h =
      none_or_some (records t) (λ e. none_right e h.filled)
      (λ f. level_right c h.level h.filled
      (rw (← items_depths 0 (keyed t)) (level_top layer_of_record c (depths 0 (keyed t)) h.level (h.root f))))

-- the test of barren pages may be made on the tree as it is spelt
module _ {D : Type 0} where
  barren_keyed : (p : Page Spelt D) → barren (keyed p) ≡ barren p
  unfolding barren no_link no_entry keyed
  barren_keyed (page empty end) = refl
  barren_keyed (page empty (entry e g es)) = refl
  barren_keyed (page (under d p) es) = refl

  mutual
    unfolding none_barren keyed

    pub none_barren_keyed : (t : Page Spelt D) → none_barren (keyed t) ≡ none_barren t
    none_barren_keyed (page g es) = rw (none_barren_keyed_under g, none_barren_keyed_from [] es)

    none_barren_keyed_under : (g : Gap Spelt D) → none_barren_under (keyed_under g) ≡ none_barren_under g
    none_barren_keyed_under empty = refl
    none_barren_keyed_under (under d p) = rw (barren_keyed p, none_barren_keyed p)

    none_barren_keyed_from : (before : List ℕ) (es : Entries Spelt D) → none_barren_from (keyed_from before es) ≡ none_barren_from es
    none_barren_keyed_from before end = refl
    none_barren_keyed_from before (entry e g es) = rw (none_barren_keyed_under g, none_barren_keyed_from (record_of before e).key es)

-- ---- the tree of a set
-- a right tree with its labels right is the tree of its records
pub right_tree_lem : {D : Type 0} (label : Page Record D → D) (t : Page Spelt D) → right_tree t ≡ true → Labelled label (keyed t)
    → keyed t ≡ tree_of label (map placed (records t))
unfolding tree_of
right_tree_lem label t h k = sym (layered_build layer_of_record label (top_of t) (keyed t) (right_layered t h) k)

-- and the tree of a set has the set's records and is right
module _ {D : Type 0} (label : Page Record D → D) (rs : List Record) where
  pub records_tree : records (spelt (tree_of label (map placed rs))) ≡ rs
  records_tree =
      rw (keyed_spelt (tree_of label (map placed rs)), items_tree_of label (map placed rs), map-map (λ (x : Placed Record). x.item) placed rs)
      (map-id rs)

  pub tree_right : right_tree (spelt (tree_of label (map placed rs))) ≡ true
  tree_right =
      built_right (spelt (tree_of label (map placed rs)))
      (rw (records_tree, keyed_spelt (tree_of label (map placed rs))) (unlabelled_tree_of label (map placed rs)))
