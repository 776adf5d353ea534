-- Tools on tests, lists and bytes, for the crates above.
use Prim.Native.Nat.{ℕ, zero, suc, ◌+◌, ◌-◌, ◌<◌}
use mathlib.Core.Path.{◌≡◌, refl}
use mathlib.Core.Bool.{Bool, true, false, cond, ◌&&◌, false≢true}
use mathlib.Core.List.{List, [], ◌∷◌, ◌++◌}
use native.Mathlib.Omega.{arith}
use native.Mathlib.Nat.{sub-zero, suc-sub-suc}
use lib.ListN.{length, get_or, take, drop, replicate, take-append-drop}
use lib.Seq.{take-nil}
use Rattle.std.proofs.lemmas.List.{drop-replicate}
use Rattle.bytestring.specs.Bytes.{Bytes, zeros}

-- ---- tests (`cases`, which splits on a test, is in borrow.Table.Steps)
-- a choice gave z: by the one branch or by the other
pub cond-inv {κ} : {A : Type 0} {C : Type κ} (b : Bool) {x y z : A} → (b ≡ true → x ≡ z → C) → (b ≡ false → y ≡ z → C) → cond b x y ≡ z → C
cond-inv true f g h = f refl h
cond-inv false f g h = g refl h

-- two tests hold
pub and_inv : (a : Bool) {b : Bool} → (a && b) ≡ true → (a ≡ true) × (b ≡ true)
and_inv true h = (refl, h)
and_inv false h = absurd (false≢true h)

pub and_both : {a b : Bool} → a ≡ true → b ≡ true → (a && b) ≡ true
and_both p q = rw (p, q)

-- ---- all elements of a list have a property
abbrev pub All : {A : Type 0} → (A → Type 0) → List A → Type 0
All P [] = Unit {0}
All P (a ∷ l) = P a × All P l

pub all_append : {A : Type 0} (P : A → Type 0) (l m : List A) → All P l → All P m → All P (l ++ m)
all_append P [] m p q = q
all_append P (a ∷ l) m p q = (p.0, all_append P l m p.1 q)

pub all_split : {A : Type 0} (P : A → Type 0) (l m : List A) → All P (l ++ m) → All P l × All P m
all_split P [] m p = (tt, p)
all_split P (a ∷ l) m p =
    let q = all_split P l m p.1 in
    ((p.0, q.0), q.1)

pub all_weaken : {A : Type 0} (P Q : A → Type 0) → ((a : A) → P a → Q a) → (l : List A) → All P l → All Q l
all_weaken P Q f [] p = tt
all_weaken P Q f (a ∷ l) p = (f a p.0, all_weaken P Q f l p.1)

pub all_at : {A : Type 0} (P : A → Type 0) (d : A) (l : List A) → All P l → (i : ℕ) → i < length l → P (get_or l i d)
all_at P d [] h i k = absurd (omega arith)
all_at P d (a ∷ l) h zero k = h.0
all_at P d (a ∷ l) h (suc i) k = all_at P d l h.1 i (omega arith)

-- ---- lists of bytes
pub bytes_append : (s t : List ℕ) → Bytes s → Bytes t → Bytes (s ++ t)
bytes_append [] t p q = q
bytes_append (b ∷ s) t p q = (p.0, bytes_append s t p.1 q)

pub bytes_right : (s t : List ℕ) → Bytes (s ++ t) → Bytes t
bytes_right [] t p = p
bytes_right (b ∷ s) t p = bytes_right s t p.1

pub bytes_drop : (n : ℕ) (s : List ℕ) → Bytes s → Bytes (drop n s)
bytes_drop n s b = bytes_right (take n s) (drop n s) (rw (take-append-drop n s) b)

-- from what a slice tells of each of its elements
pub bytes_of_lem : (s : List ℕ) → ((i : ℕ) → i < length s → get_or s i 0 < 256) → Bytes s
bytes_of_lem [] f = tt
bytes_of_lem (b ∷ s) f = (f 0 (omega arith), bytes_of_lem s (λ i h. f (suc i) (omega arith)))

-- ---- parts
-- the part from a place on, as it is lent by its two ends
pub part_is : (l : List ℕ) (from size : ℕ) → take (from + size - from) (drop from l) ≡ take size (drop from l)
part_is l from size = let e : from + size - from ≡ size = omega arith in rw e

-- and as what is left of the front of a list
pub part_taken : {A : Type 0} (n i : ℕ) (l : List A) → take (n - i) (drop i l) ≡ drop i (take n l)
part_taken n zero l = rw sub-zero
part_taken zero (suc i) l = let e : 0 - suc i ≡ 0 = omega arith in rw e
part_taken (suc n) (suc i) [] = take-nil (suc n - suc i)
part_taken (suc n) (suc i) (w ∷ l) = rw suc-sub-suc (part_taken n i l)

pub drop_replicate : {A : Type 0} (a : A) (k n : ℕ) → drop k (replicate n a) ≡ replicate (n - k) a
drop_replicate a k n = drop-replicate k n a

pub drop_zeros : (k n : ℕ) → drop k (zeros n) ≡ zeros (n - k)
drop_zeros k n = drop_replicate 0 k n
