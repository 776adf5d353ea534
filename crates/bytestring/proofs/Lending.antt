-- Writing at the front of an output, and at the front of the part of it that is lent from a place on.
use Prim.Native.Nat.{ℕ, suc, ◌+◌, ◌-◌, ◌≤◌, ◌<◌}
use mathlib.Core.Path.{◌≡◌, sym, ap, ◌∙◌}
use mathlib.Core.List.{List, ◌++◌, append_assoc, append-nil}
use native.Mathlib.Omega.{arith}
use native.Mathlib.Numerals.{add-one}
use lib.ListN.{length, take, drop, get_or, set, length-append, length-drop, drop_of_length-le, take-append-drop}
use lib.Seq.{take_all, take-suc, take_at, drop_at, drop-drop, drop-cons, append_snoc, set_at, length-take-le}
use Rattle.bytestring.specs.Bytes.{front}

-- ---- byte by byte
-- the first i bytes are written
abbrev pub WrittenSoFar : List ℕ → List ℕ → List ℕ → ℕ → Type 0
WrittenSoFar bytes o out i = out ≡ take i bytes ++ drop i o

module _ (bytes o out : List ℕ) (i : ℕ) (u : WrittenSoFar bytes o out i) where
  pub written_all : length bytes ≤ i → i ≤ length bytes → out ≡ front bytes o
  written_all h k = let e : i ≡ length bytes = omega arith in u ∙ rw (e, take_all (length bytes) bytes (omega arith))

  pub written_more : i < length bytes → length bytes ≤ length o → WrittenSoFar bytes o (set out i (get_or bytes i 0)) (i + 1)
  written_more h k =
      let n : i ≤ length bytes = omega arith in
      rw (u, add-one i, drop-cons o i 0 (omega arith), set_at (take i bytes) (get_or o i 0) (drop (suc i) o) (get_or bytes i 0) i (length-take-le i bytes n), take-suc bytes i 0 h)
      (sym (append_snoc (take i bytes) (get_or bytes i 0) (drop (suc i) o)))

-- ---- a part that is lent
-- what `&mut xs[at..]` lends
abbrev pub lent : ℕ → List ℕ → List ℕ
lent at xs = take (length xs - at) (drop at xs)

-- xs when that part comes back as ys
abbrev pub back : ℕ → List ℕ → List ℕ → List ℕ
back at xs ys = take at xs ++ (ys ++ drop (length xs - at) (drop at xs))

module _ (xs p r : List ℕ) (at : ℕ) (e : xs ≡ p ++ r) (h : length p ≡ at) where
  size : length (drop at xs) ≤ length xs - at
  size = omega (arith, length-drop at xs)

  pub lent_is : lent at xs ≡ r
  lent_is = take_all (length xs - at) (drop at xs) size ∙ ap (drop at) e ∙ drop_at p r at h

  pub back_is : (ys : List ℕ) → back at xs ys ≡ p ++ ys
  back_is ys = rw (drop_of_length-le (drop at xs) size, append-nil) (rw e (ap (λ (l : List ℕ). l ++ ys) (take_at p r at h)))

-- p stands at the front, and b is written at the front of what is lent behind it
pub onto : (o p b : List ℕ) (at : ℕ) (xs ys : List ℕ) → xs ≡ front p o → length p ≡ at → ys ≡ front b (lent at xs) → back at xs ys ≡ front (p ++ b) o
onto o p b at xs ys e h f =
    let l : lent at xs ≡ drop (length p) o = lent_is xs p (drop (length p) o) at e h in
    back_is xs p (drop (length p) o) at e h ys ∙ rw (f, l, drop-drop (length b) (length p) o, length-append p b) (sym (append_assoc p b (drop (length p + length b) o)))

-- the same in an output that was whole before
pub onto_place : (o b ys : List ℕ) (at : ℕ) → at ≤ length o → ys ≡ front b (lent at o) → back at o ys ≡ front (take at o ++ b) o
onto_place o b ys at h f =
    let n : length (take at o) ≡ at = length-take-le at o h in
    onto o (take at o) b at o ys (rw n (sym (take-append-drop at o))) n f
