-- Keys in buffers: how the next key of a page is made from the one before it.
use Prim.Native.Nat.{ℕ, ◌+◌, ◌-◌, ◌≤◌, ◌<◌, min}
use mathlib.Core.Path.{◌≡◌, refl, sym, ap, ◌∙◌}
use mathlib.Core.List.{List, [], ◌++◌, append-nil}
use native.Mathlib.Omega.{arith}
use lib.Dec.{leb}
use lib.ListN.{length, take, drop, length-append, length-take, length-drop, drop_of_length-le}
use lib.Seq.{take-take, take_all, take-nil, take_at, take-append-le, take-append-add, length-take-le}
use borrow.Author.Tests.{leb-true, leb-false}
use borrow.Table.Steps.{cases}
use Rattle.bytestring.specs.Bytes.{front}
use Rattle.bytestring.proofs.Lending.{lent, back, onto_place}
use Rattle.page_keys.specs.Buffer.{HoldsKey, Extended}

-- ---- lists
take_swap : (m n : ℕ) (l : List ℕ) → take m (take n l) ≡ take n (take m l)
take_swap m n l =
    cases (leb m n)
    (λ e. take-take m n l (leb-true m n e) ∙ sym (take_all n (take m l) (omega (arith, length-take m l, leb-true m n e))))
    (λ e. take_all m (take n l) (omega (arith, length-take n l, leb-false m n e)) ∙ sym (take-take n m l (omega (arith, leb-false m n e))))

take_least : (m : ℕ) (l : List ℕ) → take (min m (length l)) l ≡ take m l
take_least m l =
    cases (leb m (length l))
    (λ e. let least : min m (length l) ≡ m = omega (arith, leb-true m (length l) e) in rw least)
    (λ e. take_all (min m (length l)) l (omega (arith, leb-false m (length l) e)) ∙ sym (take_all m l (omega (arith, leb-false m (length l) e))))

-- ---- a key that a buffer holds
pub holds_none : (buffer : List ℕ) → HoldsKey buffer 0 []
holds_none buffer = record { bytes = sym (take-nil (length buffer)); size = refl }

module _ {buffer : List ℕ} {n : ℕ} {k : List ℕ} (w : HoldsKey buffer n k) where
  -- whole, where there is room
  pub holds_whole : n ≤ length buffer → take n buffer ≡ k
  holds_whole h = w.bytes ∙ take_all (length buffer) k (omega (arith, w.size))

  -- its first bytes
  holds_front : (m : ℕ) → HoldsKey buffer (min m n) (take m k)
  holds_front m =
      let least : take (min m n) k ≡ take m k = ap (λ (j : ℕ). take (min m j) k) w.size ∙ take_least m k in
      record {
        bytes =
            sym (take-take (min m n) n buffer (omega arith)) ∙ ap (take (min m n)) w.bytes ∙ take_swap (min m n) (length buffer) k
            ∙ ap (take (length buffer)) least;
        size = omega (arith, w.size, length-take m k);
      }

  -- any bytes behind the last that it has room for
  holds_past : (l : List ℕ) → length buffer ≤ n → HoldsKey buffer (n + length l) (k ++ l)
  holds_past l h = record {
    bytes =
        take_all (n + length l) buffer (omega arith) ∙ sym (take_all n buffer h) ∙ w.bytes
        ∙ sym (take-append-le (length buffer) k l (omega (arith, w.size)));
    size = omega (arith, length-append k l, w.size);
  }

-- ---- bytes written at the front of a buffer
-- the first bytes of a key, as many as there is room for
front_holds : (buffer k : List ℕ) → HoldsKey (front (take (length buffer) k) buffer) (length k) k
front_holds buffer k =
    let p : List ℕ = take (length buffer) k in
    let room : length (front p buffer) ≡ length buffer =
    omega (arith, length-append p (drop (length p) buffer), length-drop (length p) buffer, length-take (length buffer) k) in
    record {
      bytes =
          rw room
          (cases (leb (length k) (length buffer))
          (λ q.
          let whole : p ≡ k = take_all (length buffer) k (leb-true (length k) (length buffer) q) in
          rw whole (take_at k (drop (length k) buffer) (length k) refl))
          (λ q.
          let full : length p ≡ length buffer = omega (arith, length-take (length buffer) k, leb-false (length k) (length buffer) q) in
          let none : drop (length p) buffer ≡ [] = drop_of_length-le buffer {i = length p} (omega arith) in
          rw (none, append-nil) (take_all (length k) p (omega (arith, leb-false (length k) (length buffer) q)))));
      size = refl;
    }

module _ (buffer s : List ℕ) (size shares at n keep : ℕ) (e : keep ≡ min shares size) (fits : at + n ≤ length s) where
  count : length (take n (drop at s)) ≡ n
  count = length-take-le n (drop at s) (omega (arith, length-drop at s))

  kept : (k : List ℕ) → HoldsKey buffer size k → HoldsKey buffer keep (take shares k)
  kept k w = rw e (holds_front w shares)

  -- no room for more
  pub extended_full : length buffer ≤ keep → Extended buffer size s shares at n buffer (keep + n)
  unfolding Extended
  extended_full h k w =
      let long : keep + n ≡ keep + length (take n (drop at s)) = omega (arith, count) in
      rw long (holds_past (kept k w) (take n (drop at s)) h)

  -- as many bytes as there is room for, at the front of the part behind those kept
  module _ (room : keep < length buffer) (m : ℕ) (least : m ≡ min n (length buffer - keep)) where
    more : take (length buffer - keep) (take n (drop at s)) ≡ take m (drop at s)
    more =
        let same : min (length buffer - keep) (length (take n (drop at s))) ≡ m = omega (arith, count) in
        sym (take_least (length buffer - keep) (take n (drop at s))) ∙ rw same (take-take m n (drop at s) (omega arith))

    front_of : (j : List ℕ) → length j ≡ keep → take (length buffer) (j ++ take n (drop at s)) ≡ j ++ take m (drop at s)
    front_of j h =
        let split : length buffer ≡ length j + (length buffer - keep) = omega arith in
        ap (λ (i : ℕ). take i (j ++ take n (drop at s))) split ∙ take-append-add j (take n (drop at s)) (length buffer - keep) ∙ ap (λ (l : List ℕ). j ++ l) more

    pub extended_more : (ys : List ℕ) → ys ≡ front (take (at + m - at) (drop at s)) (lent keep buffer)
        → Extended buffer size s shares at n (back keep buffer ys) (keep + n)
    unfolding Extended
    extended_more ys f k w =
        let j : List ℕ = take shares k in
        let u : HoldsKey buffer keep j = kept k w in
        let held : take keep buffer ≡ j = holds_whole u (omega arith) in
        let width : at + m - at ≡ m = omega arith in
        let now : back keep buffer ys ≡ front (take keep buffer ++ take m (drop at s)) buffer =
        onto_place buffer (take m (drop at s)) ys keep (omega arith) (rw width at f) in
        let long : keep + n ≡ length (j ++ take n (drop at s)) = omega (arith, length-append j (take n (drop at s)), count, u.size) in
        rw (now, held, ← front_of j (sym u.size), long) (front_holds buffer (j ++ take n (drop at s)))

-- ---- the key in a buffer becomes the last key
module _ (last buffer : List ℕ) (size : ℕ) (h : size ≤ length buffer) where
  pub room_for_last : length buffer ≡ length last → length (take size buffer) ≤ length last
  room_for_last e = omega (arith, length-take size buffer)

  pub remembered : (last' : List ℕ) → last' ≡ front (take size buffer) last → take size last' ≡ take size buffer
  remembered last' e = rw e (take_at (take size buffer) (drop (length (take size buffer)) last) size (length-take-le size buffer h))
