-- Texts added at a place of an output.
use Rattle.std.specs.Prelude.{Option, Some, None}
use Prim.Native.Nat.{ℕ, zero, suc, ◌+◌, ◌-◌, ◌/◌, ◌%◌, ◌≤◌, ◌<◌}
use mathlib.Core.Path.{◌≡◌, refl, sym, ap, subst, ◌∙◌}
use mathlib.Core.List.{List, [], ◌∷◌, ◌++◌, append_assoc, append-nil}
use native.Mathlib.Omega.{arith}
use native.Mathlib.Numerals.{add-one}
use lib.ListN.{length, take, drop, set, length-append, length-set}
use lib.Seq.{take_at, take-suc-set, length-take-le}
use borrow.Author.Tests.{lt-ltb, le-ltb}
use Rattle.bytestring.specs.Bytes.{front}
use Rattle.bytestring.proofs.Lending.{lent, back, onto_place}
use Rattle.promises.specs.Listing.{digits, line_feed}
use Rattle.listing.specs.Text.{TextStands, Adds}

-- ---- one text after another
pub adds_nothing : (o : List ℕ) (at : ℕ) → Adds o at [] o (Some at)
adds_nothing o at = record { adds = λ p w. rw (append-nil p) w }

pub no_room : (o e : List ℕ) (at : ℕ) (x : List ℕ) → length e ≡ length o → length o < at + length x → Adds o at x e None
no_room o e at x k h = record { adds = λ p w. omega (arith, w.0, length-append p x) }

module _ {o e : List ℕ} {at : ℕ} {x : List ℕ} where
  pub adds_then : {m : List ℕ} {n : ℕ} {q r : Option ℕ} {y : List ℕ} → Adds o at x m q → q ≡ Some n → Adds m n y e r → Adds o at (x ++ y) e r
  adds_then {m} {n} {q} {r} {y} f h g = record {
    adds = λ p w. subst (λ (l : List ℕ). TextStands e l r) (append_assoc p x y)
        (g.adds (p ++ x) (subst (λ (z : Option ℕ). TextStands m (p ++ x) z) h (f.adds p w)));
  }

  pub adds_short : {q : Option ℕ} → Adds o at x e q → q ≡ None → (y : List ℕ) → Adds o at (x ++ y) e None
  adds_short {q} f h y = record {
    adds = λ p w.
        let short : length e < length (p ++ x) = subst (λ (z : Option ℕ). TextStands e (p ++ x) z) h (f.adds p w) in
        omega (arith, length-append p x, length-append x y, length-append p (x ++ y));
  }

  -- as it is answered
  pub adds_none : Adds o at x e None → {r : Option ℕ} → r ≡ None → Adds o at x e r
  adds_none f {r} h = subst (λ (q : Option ℕ). Adds o at x e q) (sym h) f

  pub adds_same : {r : Option ℕ} {y : List ℕ} → Adds o at x e r → y ≡ x → Adds o at y e r
  adds_same {r} f h = subst (λ (l : List ℕ). Adds o at l e r) (sym h) f

-- from the place 0 on
pub adds_first : {o e x y : List ℕ} {r : Option ℕ} → Adds o 0 x e r → y ≡ x → TextStands e y r
adds_first {o} {e} {x} {y} {r} f h = subst (λ (l : List ℕ). TextStands e l r) (sym h) (f.adds [] (refl, omega arith, refl))

-- ---- bytes
pub adds_byte : (o : List ℕ) (at b : ℕ) → at < length o → Adds o at (b ∷ []) (set o at b) (Some (at + 1))
adds_byte o at b h = record {
  adds = λ p w. (
    omega (arith, w.0, length-append p (b ∷ [])),
    omega (arith, length-set o at b),
    rw (add-one at, take-suc-set o at b h) (ap (λ (l : List ℕ). l ++ (b ∷ [])) w.2),
  );
}

-- written at the front of the part that is lent from the place on
pub adds_bytes : (bytes o ys : List ℕ) (at : ℕ) → at + length bytes ≤ length o → ys ≡ front bytes (lent at o) → Adds o at bytes (back at o ys) (Some (at + length bytes))
adds_bytes bytes o ys at h f =
    let low : at ≤ length o = omega arith in
    let n : length (take at o) ≡ at = length-take-le at o low in
    let e : back at o ys ≡ front (take at o ++ bytes) o = onto_place o bytes ys at low f in
    let m : length (take at o ++ bytes) ≡ at + length bytes = omega (arith, length-append (take at o) bytes) in
    let rest : List ℕ = drop (length (take at o ++ bytes)) o in
    record {
      adds = λ p w. (
        omega (arith, w.0, length-append p bytes),
        omega (arith, ap length e, length-append (take at o ++ bytes) rest, m),
        rw (e, take_at (take at o ++ bytes) rest (at + length bytes) m, w.2),
      );
    }

-- ---- digits
pub no_digits : (most n : ℕ) → most ≡ 0 → digits most n ≡ []
unfolding digits
no_digits most n e = rw e

pub one_digit : (most n : ℕ) → 0 < most → n < 10 → digits most n ≡ (0x30 + n) ∷ []
unfolding digits
one_digit zero n h k = absurd (omega arith)
one_digit (suc most) n h k = rw (lt-ltb n 10 k)

pub more_digits : (most n : ℕ) → 0 < most → 10 ≤ n → digits most n ≡ digits (most - 1) (n / 10) ++ ((0x30 + n % 10) ∷ [])
unfolding digits
more_digits zero n h k = absurd (omega arith)
more_digits (suc most) n h k = let e : suc most - 1 ≡ most = omega arith in rw (le-ltb n 10 k, e)

-- ---- the first line, with the rest
pub then_lines : (w d l : List ℕ) → w ++ (d ++ (line_feed ∷ l)) ≡ (w ++ (d ++ (line_feed ∷ []))) ++ l
then_lines w d l = sym (append_assoc w (d ++ (line_feed ∷ [])) l ∙ ap (λ (r : List ℕ). w ++ r) (append_assoc d (line_feed ∷ []) l))
