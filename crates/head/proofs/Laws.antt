-- When two heads are the same, and the head of a register that is accepted.
use Prim.Native.Nat.{ℕ}
use mathlib.Core.Path.{◌≡◌, refl, sym, ap, subst}
use mathlib.Core.Bool.{true, false}
use mathlib.Core.List.{List, [], map}
use lib.ListN.{length}
use lib.Dec.{eqb}
use borrow.Author.Tests.{eqb-true, ne_eqb, eq-eqb}
use Rattle.bytestring.specs.Bytes.{Bytes, equal}
use Rattle.bytestring.proofs.Equal.{equal_true, equal_refl}
use Rattle.bytestring.proofs.Tools.{All, and_inv, and_both}
use Rattle.fips180.specs.Hash.{sha256}
use Rattle.key.specs.Layer.{layer_of}
use Rattle.tree.specs.Tree.{page, Entries, end, entry, items, top_layer}
use Rattle.tree.specs.Record.{Record, Spelt, record_of, keyed, keyed_from, records, placed}
use Rattle.tree.specs.Table.{SpeltTree, raw_entries, raw_page, bytes_of_page, digest_of, tree_of_set}
use Rattle.tree.specs.Judge.{accepted, judge}
use Rattle.tree.specs.OnePage.{records_in}
use Rattle.tree.proofs.Laws.{accepted_table, keyed_spelt, keyed_items, Layered, LayeredFrom, tree_of_layered}
use Rattle.tree.proofs.Shape.{layer_of_record}
use Rattle.head.specs.declared.Head.{Head}
use Rattle.head.specs.Head.{head_of, same_head}

-- ---- two heads
pub same_fields : {a b c d : ℕ} {x y : List ℕ} → a ≡ b → c ≡ d → x ≡ y
    → ◌≡◌ {A = Head} (record { count = a; layer = c; digest = x }) (record { count = b; layer = d; digest = y })
same_fields e f g = rw (e, f, g)

module _ (h g : Head) where
  pub other_count : (h.count ≡ g.count → ⊥) → false ≡ same_head h g
  unfolding same_head
  other_count n = rw (ne_eqb h.count g.count n)

  module _ (count : h.count ≡ g.count) where
    pub other_layer : (h.layer ≡ g.layer → ⊥) → false ≡ same_head h g
    unfolding same_head
    other_layer n = rw (eq-eqb h.count g.count count, ne_eqb h.layer g.layer n)

    pub by_digest_lem : h.layer ≡ g.layer → equal h.digest g.digest ≡ same_head h g
    unfolding same_head
    by_digest_lem layer = rw (eq-eqb h.count g.count count, eq-eqb h.layer g.layer layer)

  pub same_head_lem : same_head h g ≡ true → h ≡ g
  unfolding same_head
  same_head_lem e =
      let a = and_inv (eqb h.count g.count) e in
      let b = and_inv (eqb h.layer g.layer) a.1 in
      same_fields (eqb-true h.count g.count a.0) (eqb-true h.layer g.layer b.0) (equal_true h.digest g.digest b.1)

pub head_same : (h : Head) → same_head h h ≡ true
unfolding same_head
head_same h = and_both (eq-eqb h.count h.count refl) (and_both (eq-eqb h.layer h.layer refl) (equal_refl h.digest))

-- ---- a register that is accepted: its set's root is its own
pub root_digest_lem : (s : List ℕ) → Bytes s → (t : SpeltTree) → judge s ≡ accepted t → (head_of (records t)).digest ≡ sha256 (bytes_of_page t)
unfolding head_of digest_of
root_digest_lem s b t j = ap (λ (u : SpeltTree). sha256 (bytes_of_page u)) (sym (accepted_table s b t j).spells)

-- and the keys that stand in its root have the head's layer; the root of the empty set is at layer 0
own_layers : (n : ℕ) (before : List ℕ) (es : Entries Spelt (List ℕ)) → LayeredFrom layer_of_record n (keyed_from before es)
    → All (λ (r : Record). layer_of r.key ≡ n) (records_in before (raw_entries es))
unfolding records_in raw_entries keyed Layered
own_layers n before end h = tt
own_layers n before (entry e g es) h = (h.0, own_layers n (record_of before e).key es h.2)

root_layers : (n : ℕ) (t : SpeltTree) → Layered layer_of_record n (keyed t) → All (λ (r : Record). layer_of r.key ≡ n) (records_in [] (raw_page t).entries)
unfolding raw_page keyed Layered
root_layers n (page g es) h = own_layers n [] es h.1

pub root_layer : (s : List ℕ) → Bytes s → (t : SpeltTree) → judge s ≡ accepted t
    → All (λ (r : Record). layer_of r.key ≡ (head_of (records t)).layer) (records_in [] (raw_page t).entries)
unfolding head_of tree_of_set
root_layer s b t j =
    root_layers _ t (subst (λ (u : SpeltTree). Layered layer_of_record (top_layer (map placed (records t))) (keyed u)) (sym (accepted_table s b t j).spells)
    (rw (keyed_spelt (tree_of_set (records t))) (tree_of_layered layer_of_record digest_of (records t))))

pub empty_layer : (head_of []).layer ≡ 0
unfolding head_of top_layer
empty_layer = refl

-- the count is that of the entries in all pages
pub entries_counted : (t : SpeltTree) → (head_of (records t)).count ≡ length (items t)
unfolding head_of
entries_counted t = keyed_items t
