-- The keys of states, and the position of one.
use Rattle.std.specs.Prelude.{Result, Ok, Err, Some, None}
use Prim.Native.Nat.{ℕ, zero, suc, ◌<◌}
use mathlib.Core.Path.{◌≡◌, sym, ap, ◌∙◌}
use mathlib.Core.Bool.{true, false}
use mathlib.Core.List.{List, [], ◌∷◌, ◌++◌}
use native.Mathlib.Omega.{arith}
use lib.Dec.{eqb, ltb}
use lib.ListN.{length, take, drop, take-append-drop, length-append}
use borrow.Author.Tests.{eqb-true, eqb-false, ltb-true, ltb-false}
use borrow.Table.Steps.{cases}
use Rattle.bytestring.specs.Bytes.{Bytes, equal}
use Rattle.bytestring.proofs.Equal.{equal_refl, equal-cases}
use Rattle.bytestring.proofs.Tools.{All, all_at, all_weaken}
use Rattle.key.specs.Key.{slash_byte, collection, name, lawful, less}
use Rattle.key.proofs.Laws.{less_asymmetric, less_same, less-connected}
use Rattle.key.proofs.SlashLaws.{slash_stands}
use Rattle.tree.specs.Record.{Record, records}
use Rattle.tree.proofs.Laws.{accepted_table}
use Rattle.promises.proofs.MapLaws.{Before, Above, Sorted, above_before, rising_sorted, before_other}
use Rattle.states.specs.States.{state_collection}
use Rattle.index.specs.Accepted.{AcceptedIndex}
use Rattle.row.specs.Row.{nothing}
use Rattle.row.specs.Search.{key_at, count_front, count_below, count_up_to, PositionIs, SearchSays}
use Rattle.states_reader.specs.Inner.{OwnSays}

-- ---- a key of the collection `state`
abbrev pub state_begin : List ℕ
state_begin = 0x73 ∷ 0x74 ∷ 0x61 ∷ 0x74 ∷ 0x65 ∷ 0x2F ∷ []

begins_collection : (k : List ℕ) → take 6 k ≡ state_begin → collection k ≡ state_collection
unfolding collection
begins_collection k e =
    let whole : k ≡ state_begin ++ drop 6 k = sym (take-append-drop 6 k) ∙ ap (λ (l : List ℕ). l ++ drop 6 k) e in
    ap collection whole

module _ (k : List ℕ) (h : lawful k ≡ true) where
  collection_parts : collection k ≡ state_collection → k ≡ state_collection ++ (slash_byte ∷ name k)
  collection_parts e =
      (slash_stands k h).2.parts ∙ ap (λ (l : List ℕ). l ++ (slash_byte ∷ name k)) e

  collection_begins : collection k ≡ state_collection → take 6 k ≡ state_begin
  collection_begins e = ap (take 6) (collection_parts e)

  pub state_key_lem : equal (take 6 k) state_begin ≡ equal (collection k) state_collection
  state_key_lem =
      equal-cases (collection k) state_collection
      (λ q e. rw (q, collection_begins e) (equal_refl state_begin))
      (λ q f. rw q (equal-cases (take 6 k) state_begin (λ r e. absurd (f (begins_collection k e))) (λ r g. r)))

  pub short_key : length k < 6 → false ≡ equal (collection k) state_collection
  short_key l =
      equal-cases (collection k) state_collection
      (λ q e. absurd (omega (arith, ap length (collection_parts e), length-append state_collection (slash_byte ∷ name k))))
      (λ q f. sym q)

-- ---- the position of a key
-- every key of a sorted list but one is another
above_at : (k : List ℕ) (m : List Record) → Above k m → (i : ℕ) → i < length m → Before k (key_at m i)
above_at k m a i h = all_at (λ x. Before k x.key) nothing m a i h

sorted_at : (m : List Record) → Sorted m → (i j : ℕ) → i < j → j < length m → Before (key_at m i) (key_at m j)
sorted_at [] s i j h l = absurd (omega arith)
sorted_at (x ∷ m) s i zero h l = absurd (omega arith)
sorted_at (x ∷ m) s zero (suc j) h l = above_at x.key m s.0 j (omega arith)
sorted_at (x ∷ m) s (suc i) (suc j) h l = sorted_at m s.1 i j (omega arith) (omega arith)

differ : (a b : List ℕ) → (a ≡ b → ⊥) → equal a b ≡ false
differ a b f = equal-cases a b (λ q e. absurd (f e)) (λ q g. q)

same : (a b : List ℕ) → b ≡ a → equal a b ≡ true
same a b e = rw e (equal_refl a)

-- a key that no record has
not_there : (k : List ℕ) (m : List Record) → Sorted m → count_below k m ≡ count_up_to k m → All (λ x. equal k x.key ≡ false) m
unfolding count_front
not_there k [] s e = tt
not_there k (x ∷ m) s e =
    less-connected x.key k
    (λ l.
    let further : less k x.key ≡ false = less_asymmetric x.key k l in
    let rest : suc (count_below k m) ≡ suc (count_up_to k m) = rw (l, further) at e in
    (differ k x.key (λ q. before_other x.key k l (sym q)), not_there k m s.1 (omega arith)))
    (λ q.
    let none : ◌≡◌ {A = ℕ} 0 (suc (count_up_to k m)) = rw (less_same x.key k q, less_same k x.key (sym q)) at e in
    absurd (omega arith))
    (λ l.
    let above = above_before k x.key m l s.0 in (
      differ k x.key (before_other k x.key l),
      all_weaken (λ y. Before k y.key) (λ y. equal k y.key ≡ false) (λ y g. differ k y.key (before_other k y.key g)) m above,
    ))

module _ {s index : List ℕ} {count : ℕ} (b : Bytes s) (k : List ℕ) (r : Result (ℕ × ℕ) ℕ) (says : SearchSays s index count k r) where
  module _ (a : AcceptedIndex s index count) where
    found : PositionIs k (records a.tree) r
    unfolding SearchSays
    found = (says a.tree a.judged a.size a.indexed).1

    sorted : Sorted (records a.tree)
    sorted = rising_sorted (records a.tree) (accepted_table s b a.tree a.judged).fit.order

  pub own_found : (position place : ℕ) → r ≡ Ok (position, place) → OwnSays s index count k (Some position)
  own_found position place e a i h =
      let here : (position < length (records a.tree)) × (key_at (records a.tree) position ≡ k) × (position ≡ count_below k (records a.tree)) =
      rw e at (found a) in
      let key = key_at (records a.tree) in
      cases (eqb i position)
      (λ q. rw (q, eqb-true i position q) (same k (key position) here.1))
      (λ q. rw q (differ k (key i) (λ f.
      cases (ltb i position)
      (λ l.
      before_other (key i) (key position) (sorted_at (records a.tree) (sorted a) i position (ltb-true i position l) here.0) (sym f ∙ sym here.1))
      (λ l.
      let later : position < i = omega (arith, ltb-false i position l, eqb-false i position q) in
      before_other (key position) (key i) (sorted_at (records a.tree) (sorted a) position i later (omega (arith, a.size))) (here.1 ∙ f)))))

  pub own_within : (position place : ℕ) → r ≡ Ok (position, place) → AcceptedIndex s index count → position < count
  own_within position place e a =
      let here : (position < length (records a.tree)) × (key_at (records a.tree) position ≡ k) × (position ≡ count_below k (records a.tree)) =
      rw e at (found a) in
      omega (arith, here.0, a.size)

  pub own_absent : (position : ℕ) → r ≡ Err position → OwnSays s index count k None
  own_absent position e a i h =
      let here : (position ≡ count_below k (records a.tree)) × (position ≡ count_up_to k (records a.tree)) = rw e at (found a) in
      let none = not_there k (records a.tree) (sorted a) (sym here.0 ∙ here.1) in
      all_at (λ x. equal k x.key ≡ false) nothing (records a.tree) none i (omega (arith, a.size))
