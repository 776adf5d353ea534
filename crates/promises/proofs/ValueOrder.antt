-- The order of values: by their digests, and at equal digests by the codecs.
use Prim.Native.Nat.{ℕ, ◌<◌}
use mathlib.Core.Path.{◌≡◌, sym, ap₂, ◌∙◌}
use mathlib.Core.Bool.{true, false, false≢true, or-true}
use mathlib.Core.List.{List, ◌++◌}
use lib.ListN.{take, take-append-drop}
use borrow.Table.Steps.{cases}
use borrow.Author.Tests.{lt-ltb}
use Rattle.bytestring.proofs.Equal.{equal-cases}
use Rattle.value.specs.Value.{value_codec, value_digest, is_value}
use Rattle.value.proofs.Laws.{value_parts}
use Rattle.key.specs.Key.{less}
use Rattle.key.proofs.Laws.{is_false, less_irreflexive, less_transitive, less-connected}
use Rattle.promises.specs.Map.{less_value}

module _ (v w : List ℕ) where
  pub lesser_digest : less (value_digest v) (value_digest w) ≡ true → less_value v w ≡ true
  unfolding less_value
  lesser_digest h = rw h

  pub lesser_codec : value_digest v ≡ value_digest w → less (take 1 v) (take 1 w) ≡ true → less_value v w ≡ true
  unfolding less_value
  lesser_codec e h =
      equal-cases (value_digest v) (value_digest w) (λ q _. rw (q, h) (or-true (less (value_digest v) (value_digest w)))) (λ q n. absurd (n e))

  value-cases {κ} : {C : Type κ} → less_value v w ≡ true → (less (value_digest v) (value_digest w) ≡ true → C) → (value_digest v ≡ value_digest w → less (take 1 v) (take 1 w) ≡ true → C) → C
  unfolding less_value
  value-cases h f g =
      cases (less (value_digest v) (value_digest w)) f
      (λ e. equal-cases (value_digest v) (value_digest w)
      (λ q same. g same (rw (e, q) at h))
      (λ q _. absurd (false≢true (rw (e, q) at h))))

-- the codec and the digest are all of a value
pub same_parts : (v w : List ℕ) → take 1 v ≡ take 1 w → value_digest v ≡ value_digest w → v ≡ w
same_parts v w e f = sym (take-append-drop 1 v) ∙ ap₂ (λ (a b : List ℕ). a ++ b) e f ∙ take-append-drop 1 w

value_irreflexive : (v : List ℕ) → less_value v v ≡ true → ⊥
value_irreflexive v h = value-cases v v h (less_irreflexive (value_digest v)) (λ _. less_irreflexive (take 1 v))

pub value_transitive : (u v w : List ℕ) → less_value u v ≡ true → less_value v w ≡ true → less_value u w ≡ true
value_transitive u v w h k =
    value-cases u v h
    (λ p. value-cases v w k
    (λ q. lesser_digest u w (less_transitive (value_digest u) (value_digest v) (value_digest w) p q))
    (λ e _. lesser_digest u w (rw (← e) p)))
    (λ d p. value-cases v w k
    (λ q. lesser_digest u w (rw d q))
    (λ e q. lesser_codec u w (d ∙ e) (less_transitive (take 1 u) (take 1 v) (take 1 w) p q)))

pub value-connected {κ} : {C : Type κ} (v w : List ℕ) → (less_value v w ≡ true → C) → (v ≡ w → C) → (less_value w v ≡ true → C) → C
value-connected v w f g h =
    less-connected (value_digest v) (value_digest w)
    (λ p. f (lesser_digest v w p))
    (λ e. less-connected (take 1 v) (take 1 w) (λ p. f (lesser_codec v w e p)) (λ q. g (same_parts v w q e)) (λ p. h (lesser_codec w v (sym e) p)))
    (λ p. h (lesser_digest w v p))

pub value_asymmetric : (v w : List ℕ) → less_value v w ≡ true → less_value w v ≡ false
value_asymmetric v w h = is_false (less_value w v) (λ k. value_irreflexive v (value_transitive v w v h k))

pub value_same : (v w : List ℕ) → v ≡ w → less_value v w ≡ false
value_same v w e = rw e (is_false (less_value w w) (value_irreflexive w))

-- values with equal digests stand in the order of their codecs
pub codec_first : (v w : List ℕ) → is_value v ≡ true → is_value w ≡ true → value_digest v ≡ value_digest w → value_codec v < value_codec w → less_value v w ≡ true
unfolding less
codec_first v w h k e l =
    lesser_codec v w e (rw (← value_parts v h, ← value_parts w k, lt-ltb (value_codec v) (value_codec w) l))
