-- Bytes written at a place of an output, after one another and in any order.
use Prim.Native.Nat.{ℕ, ◌+◌, ◌-◌, ◌≤◌}
use mathlib.Core.Path.{◌≡◌, refl, sym, ap, ◌∙◌}
use mathlib.Core.List.{List, [], ◌++◌, append_assoc}
use native.Mathlib.Omega.{arith}
use lib.ListN.{length, take, drop, length-append, length-drop, take-append-drop}
use lib.Seq.{length-take-le, take_at, drop_at, drop-drop, drop-append-le, take-append-add, drop-append-add}
use Rattle.bytestring.specs.Bytes.{front}
use Rattle.writer.specs.Wrote.{overwritten}

-- k bytes come back as so many others
pub part_length : (place : ℕ) (o : List ℕ) (k : ℕ) → place + k ≤ length o → (ys : List ℕ) → length ys ≡ length (take k (drop place o))
    → length (take place o ++ (ys ++ drop k (drop place o))) ≡ length o
part_length place o k h ys e =
    omega (
      arith,
      length-append (take place o) (ys ++ drop k (drop place o)),
      length-append ys (drop k (drop place o)),
      length-take-le place o (omega arith),
      length-take-le k (drop place o) (omega (arith, length-drop place o)),
      length-drop k (drop place o),
      length-drop place o,
    )

pub over_front : (b o : List ℕ) → front b o ≡ overwritten 0 b o
unfolding overwritten
over_front b o = let e : 0 + length b ≡ length b = omega arith in rw e

module _ (place : ℕ) (o : List ℕ) (h : place ≤ length o) where
  pub over_nothing : overwritten place [] o ≡ o
  unfolding overwritten
  over_nothing = let e : place + 0 ≡ place = omega arith in rw e (take-append-drop place o)

  -- what comes back when b is written at the front of k bytes that are lent from this place on
  pub over_part : (b : List ℕ) (k : ℕ) → length b ≤ k → place + k ≤ length o
      → take place o ++ (front b (take k (drop place o)) ++ drop k (drop place o)) ≡ overwritten place b o
  unfolding overwritten
  over_part b k l m =
      let d = drop place o in
      let n : length b ≤ length (take k d) = omega (arith, length-take-le k d (omega (arith, length-drop place o))) in
      rw (
        append_assoc b (drop (length b) (take k d)) (drop k d),
        ← drop-append-le (length b) (take k d) (drop k d) n,
        take-append-drop k d,
        drop-drop (length b) place o,
      )

  pub over_length : (b : List ℕ) → place + length b ≤ length o → length (overwritten place b o) ≡ length o
  unfolding overwritten
  over_length b l =
      omega (
        arith,
        length-append (take place o) (b ++ drop (place + length b) o),
        length-append b (drop (place + length b) o),
        length-take-le place o h,
        length-drop (place + length b) o,
      )

  pub over_more : (a b : List ℕ) → overwritten (place + length a) b (overwritten place a o) ≡ overwritten place (a ++ b) o
  unfolding overwritten
  over_more a b =
      let p = take place o in
      let q = drop (place + length a) o in
      let e : length (p ++ a) ≡ place + length a = length-append p a ∙ rw (length-take-le place o h) in
      let z : place + length a + length b ≡ place + (length a + length b) = omega arith in
      rw (
        ← append_assoc p a q,
        take_at (p ++ a) q (place + length a) e,
        ← drop-drop (length b) (place + length a) ((p ++ a) ++ q),
        drop_at (p ++ a) q (place + length a) e,
        drop-drop (length b) (place + length a) o,
        length-append a b,
        z,
        append_assoc p a (b ++ drop (place + (length a + length b)) o),
        append_assoc a b (drop (place + (length a + length b)) o),
      )

-- behind what stands before
over_behind : (p q t : List ℕ) (k : ℕ) → overwritten (length p + k) t (p ++ q) ≡ p ++ overwritten k t q
unfolding overwritten
over_behind p q t k =
    let e : length p + k + length t ≡ length p + (k + length t) = omega arith in
    rw (e, take-append-add p q k, drop-append-add p q (k + length t)) (append_assoc p (take k q) (t ++ drop (k + length t) q))

over_at : (p m q a : List ℕ) (place : ℕ) → length p ≡ place → length m ≡ length a → overwritten place a ((p ++ m) ++ q) ≡ (p ++ a) ++ q
unfolding overwritten
over_at p m q a place l e =
    let n : length (p ++ m) ≡ place + length a = length-append p m ∙ rw (l, e) in
    rw (drop_at (p ++ m) q (place + length a) n, append_assoc p m q, take_at p (m ++ q) place l) (sym (append_assoc p a q))

-- two strings at places of their own
module _ (place behind : ℕ) (a b o : List ℕ) (h : place + length a ≤ behind) (l : behind ≤ length o) where
  abbrev p : List ℕ
  p = take place o

  abbrev m : List ℕ
  m = take (length a) (drop place o)

  abbrev q : List ℕ
  q = drop (place + length a) o

  lp : length p ≡ place
  lp = length-take-le place o (omega arith)

  lm : length m ≡ length a
  lm = length-take-le (length a) (drop place o) (omega (arith, length-drop place o))

  split : o ≡ (p ++ m) ++ q
  split = sym (append_assoc p m q ∙ rw (← drop-drop (length a) place o, take-append-drop (length a) (drop place o)) (take-append-drop place o))

  over_third : (x : List ℕ) → length x ≡ length a → overwritten behind b ((p ++ x) ++ q) ≡ (p ++ x) ++ overwritten (behind - (place + length a)) b q
  over_third x e =
      let n : behind ≡ length (p ++ x) + (behind - (place + length a)) = omega (arith, length-append p x, lp) in
      ap (λ (k : ℕ). overwritten k b ((p ++ x) ++ q)) n ∙ over_behind (p ++ x) q b (behind - (place + length a))

  pub over_apart : overwritten place a (overwritten behind b o) ≡ overwritten behind b (overwritten place a o)
  over_apart =
      ap (λ (x : List ℕ). overwritten place a (overwritten behind b x)) split
      ∙ rw (over_third m lm) (over_at p m (overwritten (behind - (place + length a)) b q) a place lp lm)
      ∙ sym (over_third a refl)
      ∙ sym (ap (λ (x : List ℕ). overwritten behind b (overwritten place a x)) split ∙ rw (over_at p m q a place lp lm))
