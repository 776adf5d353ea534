-- Keys in buffers: the tests on the key of an entry, and on the first key of a linked tree.
use Prim.Native.Nat.{ℕ, ◌+◌, ◌-◌, ◌≤◌, ◌<◌}
use mathlib.Core.Path.{◌≡◌, refl, sym, ap, ◌∙◌}
use mathlib.Core.Bool.{Bool, true, false, not, false≢true, and-false}
use mathlib.Core.Option.{Option, none, some}
use mathlib.Core.List.{List, [], ◌∷◌}
use native.Mathlib.Omega.{arith}
use lib.Dec.{eqb, leb, ltb}
use lib.ListN.{length, take, drop, length-drop}
use lib.Seq.{take_all, length-take-le}
use borrow.Author.Tests.{leb-true, ltb-true, ltb-false, eq-eqb, ne_eqb, not-true, not-false}
use borrow.Table.Steps.{cases}
use Rattle.bytestring.specs.Bytes.{front}
use Rattle.bytestring.proofs.Tools.{and_inv, part_is}
use Rattle.limits.specs.Limits.{longest_key}
use Rattle.key.specs.Key.{lawful, less, shared}
use Rattle.key.specs.Layer.{layer_of}
use Rattle.key.proofs.Lawful.{long_unlawful}
use Rattle.key.proofs.Laws.{shared_le_left}
use Rattle.page_reader.specs.Place.{entry_at}
use Rattle.page_reader.specs.declared.EntryAt.{EntryAt}
use Rattle.page_keys.specs.Buffer.{HoldsKey, LastIs, Extended, PrefixIs, LawfulIs, RisesIs}
use Rattle.page_keys.proofs.Buffers.{holds_whole, remembered}
use Rattle.tree.specs.OnePage.{key_after}
use Rattle.summaries.specs.Summary.{passes}
use Rattle.tree_keys.specs.Ends.{FirstSays}
use Rattle.tree_keys.specs.declared.KeyAt.{KeyAt}
use Rattle.summing.specs.Inner.{LastOf, KeyHolds, key_stands, KeyAsked, KeyTaken, KeyWrong, FirstFollows}

lawful_some : (k : List ℕ) → lawful k ≡ true → 0 < length k
unfolding lawful
lawful_some k h = cases (leb 3 (length k)) (λ q. omega (arith, leb-true 3 (length k) q)) (λ q. absurd (false≢true (sym (rw q) ∙ h)))

less_nothing : (k : List ℕ) → 0 < length k → less [] k ≡ true
unfolding less
less_nothing [] h = absurd (omega arith)
less_nothing (b ∷ k) h = refl

-- ---- the tests on one key
module _ (buffer : List ℕ) (size : ℕ) (last : List ℕ) (before layer : ℕ) where
  pub key_too_long : longest_key < size → KeyHolds buffer size last before layer false
  unfolding KeyHolds
  key_too_long h k w o l = let e : lawful k ≡ false = long_unlawful k (omega (arith, w.size)) in rw e

  module _ (rule : Bool) (law : LawfulIs buffer size rule) where
    pub key_unlawful : not rule ≡ true → KeyHolds buffer size last before layer false
    unfolding KeyHolds LawfulIs
    key_unlawful h k w o l = let e : lawful k ≡ false = sym (law k w) ∙ not-true rule h in rw e

    module _ (room : size ≤ length buffer) (n : ℕ) (is_layer : n ≡ layer_of (take size buffer)) where
      layer_is : (k : List ℕ) → HoldsKey buffer size k → n ≡ layer_of k
      layer_is k w = is_layer ∙ ap layer_of (holds_whole w room)

      pub key_other_layer : (n ≡ layer → ⊥) → KeyHolds buffer size last before layer false
      unfolding KeyHolds
      key_other_layer f k w o l =
          let e : eqb layer (layer_of k) ≡ false = ne_eqb layer (layer_of k) (λ q. f (layer_is k w ∙ sym q)) in
          rw (e, and-false (lawful k))

      pub key_compared : not rule ≡ false → n ≡ layer → (r : Bool) → RisesIs last before buffer size r → KeyHolds buffer size last before layer r
      unfolding KeyHolds RisesIs LawfulIs passes
      key_compared h e r rises k w o l =
          let yes : lawful k ≡ true = sym (law k w) ∙ not-false rule h in
          let same : eqb layer (layer_of k) ≡ true = eq-eqb layer (layer_of k) (sym e ∙ layer_is k w) in
          rw (yes, same) (rises_as o l yes)
        where
          rises_as : (p : Option (List ℕ)) → LastOf last before p → lawful k ≡ true → r ≡ passes p k
          rises_as none z y =
              let nothing : LastIs last before [] = record { room = omega arith; bytes = rw z } in
              rises [] k nothing w room ∙ less_nothing k (lawful_some k y)
          rises_as (some j) z y = rises j k z w room

-- ---- the key of an entry
module _ (buffer : List ℕ) (size : ℕ) (p : List ℕ) (e : EntryAt) (last : List ℕ) (before layer : ℕ) (asked : KeyAsked buffer p e last) where
  abbrev spelt : List ℕ → List ℕ
  spelt k = key_after k (entry_at p e)

  module _ (fits : Bool) (tested : PrefixIs buffer size p e.shares e.remainder e.size fits) (short : fits ≡ true → e.shares < length buffer) where
    pub prefix_wrong : not fits ≡ true → KeyWrong buffer size p e last before layer
    unfolding PrefixIs key_stands
    prefix_wrong h k w l o x =
        let no : eqb e.shares (shared k (spelt k)) ≡ false =
        cases (ltb e.shares (length buffer))
        (λ q. sym (tested k w (ltb-true e.shares (length buffer) q)) ∙ not-true fits h)
        (λ q. ne_eqb e.shares (shared k (spelt k)) (λ y. omega (arith, ltb-false e.shares (length buffer) q, shared_le_left k (spelt k), asked.held))) in
        rw no

    module _ (yes : not fits ≡ false) (buffer₁ : List ℕ) (size₁ : ℕ) (extended : Extended buffer size p e.shares e.remainder e.size buffer₁ size₁)
        (r : Bool) (holds : KeyHolds buffer₁ size₁ last before layer r) (small : r ≡ true → size₁ ≤ longest_key) where
      right_prefix : (k : List ℕ) → HoldsKey buffer size k → eqb e.shares (shared k (spelt k)) ≡ true
      unfolding PrefixIs
      right_prefix k w = sym (tested k w (short (not-false fits yes))) ∙ not-false fits yes

      rest_is : (k : List ℕ) → HoldsKey buffer size k → (o : Option (List ℕ)) → LastOf last before o → key_stands k (entry_at p e) o layer ≡ r
      unfolding Extended KeyHolds key_stands
      rest_is k w o l = rw (right_prefix k w) (sym (holds (spelt k) (extended k w) o l))

      pub key_wrong : not r ≡ true → KeyWrong buffer size p e last before layer
      key_wrong h k w l o x = rest_is k w o x ∙ not-true r h

      key_long : not r ≡ false → (k : List ℕ) → HoldsKey buffer size k → (o : Option (List ℕ)) → LastOf last before o → 0 < size₁
      unfolding Extended KeyHolds
      key_long h k w o x =
          let held = extended k w in
          let law = (and_inv (lawful (spelt k)) (sym (holds (spelt k) held o x) ∙ not-false r h)).0 in
          omega (arith, lawful_some (spelt k) law, held.size)

      pub key_right : not r ≡ false → length buffer₁ ≡ length buffer → (last₁ : List ℕ) → last₁ ≡ front (take size₁ buffer₁) last
          → KeyTaken buffer size p e last before layer size₁ buffer₁ last₁
      unfolding Extended
      key_right h room last₁ q =
          let few : size₁ ≤ longest_key = small (not-false r h) in
          record {
            short = few;
            same = remembered last buffer₁ size₁ (omega (arith, asked.held)) last₁ q;
            some_bytes = key_long h;
            holds = λ k w. extended k w;
            right = λ k w o l. rest_is k w o l ∙ not-false r h;
          }

-- ---- the first key of a tree
module _ (s p labels pages : List ℕ) (n c : ℕ) (before : List ℕ) (size : ℕ) where
  pub none_before : size ≡ 0 → FirstFollows s p labels pages n c before size true
  unfolding FirstFollows passes
  none_before z raws f x q o l none-there = rw (none-there z)

  pub first_compared : (size ≡ 0 → ⊥) → (k : KeyAt) → FirstSays s p labels pages n c k → (r : Bool)
      → RisesIs before size (take (k.place + k.size - k.place) (drop k.place p)) k.size r → FirstFollows s p labels pages n c before size r
  unfolding FirstFollows RisesIs passes
  first_compared z k first r rises raws f x q none l w = absurd (z l)
  first_compared z k first r rises raws f x q (some j) l w =
      let part : List ℕ = take k.size (drop k.place p) in
      let whole : length part ≡ k.size = length-take-le k.size (drop k.place p) (omega (arith, length-drop k.place p, first.within)) in
      let held : HoldsKey part k.size x.first =
      record {
        bytes = take_all k.size part (omega (arith, whole)) ∙ first.first raws f x q
            ∙ sym (take_all (length part) x.first (omega (arith, ap length (first.first raws f x q))));
        size = sym whole ∙ ap length (first.first raws f x q);
      } in
      (rw (part_is p k.place k.size) at rises) j x.first l held (omega (arith, whole))
