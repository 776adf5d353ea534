-- Equal strings of bytes.
use Prim.Native.Nat.{ℕ, ◌+◌, ◌≤◌, ◌<◌}
use mathlib.Core.Path.{◌≡◌, refl, sym, ap, ap₂, ◌∙◌}
use mathlib.Core.Bool.{Bool, true, false, ◌&&◌, false≢true, and_assoc, and-true}
use mathlib.Core.List.{List, [], ◌∷◌}
use native.Mathlib.Omega.{arith}
use native.Mathlib.Numerals.{add-one}
use lib.ListN.{length, drop, get_or, drop_of_length-le}
use lib.Seq.{drop-cons}
use lib.Dec.{eqb}
use lib.Pointwise.{pointwise}
use borrow.Author.Tests.{eqb-true, eq-eqb}
use borrow.Table.Steps.{cases}
use Rattle.bytestring.specs.Bytes.{equal}
use Rattle.bytestring.proofs.Tools.{and_inv}

-- ---- the test
pub equal_true : (s t : List ℕ) → equal s t ≡ true → s ≡ t
unfolding equal
equal_true [] [] h = refl
equal_true [] (b ∷ t) h = absurd (false≢true h)
equal_true (a ∷ s) [] h = absurd (false≢true h)
equal_true (a ∷ s) (b ∷ t) h =
    let k = and_inv (eqb a b) h in
    ap₂ (λ (x : ℕ) (l : List ℕ). x ∷ l) (eqb-true a b k.0) (equal_true s t k.1)

pub equal_refl : (s : List ℕ) → equal s s ≡ true
unfolding equal
equal_refl [] = refl
equal_refl (a ∷ s) = rw (eq-eqb a a refl, equal_refl s)

pub equal-cases {κ} : {C : Type κ} (s t : List ℕ) → (equal s t ≡ true → s ≡ t → C) → (equal s t ≡ false → (s ≡ t → ⊥) → C) → C
equal-cases s t f g =
    cases (equal s t) (λ e. f e (equal_true s t e)) (λ e. g e (λ q. false≢true (sym e ∙ rw q (equal_refl t))))

-- the library's equality of slices
pub pointwise_equal : (s t : List ℕ) → pointwise eqb s t ≡ equal s t
unfolding equal
pointwise_equal [] [] = refl
pointwise_equal [] (b ∷ t) = refl
pointwise_equal (a ∷ s) [] = refl
pointwise_equal (a ∷ s) (b ∷ t) = ap (λ (x : Bool). eqb a b && x) (pointwise_equal s t)

-- ---- the loop that compares
module _ (a b : List ℕ) where
  pub lengths_differ : (length a ≡ length b → ⊥) → false ≡ equal a b
  lengths_differ f = equal-cases a b (λ e q. absurd (f (ap length q))) (λ e g. sym e)

  -- a turn of the loop that compares byte i, and its end
  module _ (same : Bool) (i : ℕ) (e : length a ≡ length b) (u : (same && equal (drop i a) (drop i b)) ≡ equal a b) where
    pub bytes_compared : i < length a → (same && eqb (get_or a i 0) (get_or b i 0) && equal (drop (i + 1) a) (drop (i + 1) b)) ≡ equal a b
    unfolding equal
    bytes_compared h =
        let l : i < length b = omega arith in
        rw (add-one, and_assoc) (rw (drop-cons a i 0 h, drop-cons b i 0 l) at u)

    pub bytes_end : length a ≤ i → same ≡ equal a b
    unfolding equal
    bytes_end h =
        let l : length b ≤ i = omega arith in
        sym (and-true same) ∙ rw (drop_of_length-le a h, drop_of_length-le b l) at u
