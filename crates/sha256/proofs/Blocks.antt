-- The blocks of a message, one after the other.
use mathlib.Core.Path.{◌≡◌, refl, sym, ap, ap₂, ◌∙◌}
use mathlib.Core.List.{List, ◌++◌}
use Prim.Native.Nat.{ℕ, zero, suc, ◌+◌, ◌-◌, ◌*◌, ◌/◌, ◌≤◌}
use native.Mathlib.Numerals.{add-one}
use native.Mathlib.Omega.{arith}
use native.Mathlib.Nat.{add-zero, add-suc, mul-zero, mul-suc, mul_assoc}
use lib.ListN.{length, take, drop, length-drop, take-append-drop}
use lib.Seq.{length-take-le, take-append-le, drop-append-le, drop-append-add, take_all}
use Rattle.fips180.specs.Hash.{after_blocks, compress}
use Rattle.fips180.specs.declared.State.{State}

-- the part k of n bytes, as the code takes it
part : (m : List ℕ) (n k : ℕ) → take (n * k + n - n * k) (drop (n * k) m) ≡ take n (drop (n * k) m)
part m n k = let e : n * k + n - n * k ≡ n = omega arith in rw e

-- the blocks of the front
pub front : (n : ℕ) (s : State) (a b : List ℕ) → 64 * n ≤ length a → after_blocks n s (a ++ b) ≡ after_blocks n s a
unfolding after_blocks
front zero s a b h = refl
front (suc n) s a b h =
    ap₂ compress (front n s a b (omega arith))
    (ap (take 64) (drop-append-le (64 * n) a b (omega arith)) ∙ take-append-le 64 (drop (64 * n) a) b (omega (arith, length-drop (64 * n) a)))

-- the blocks after a front of q blocks
pub back : (j q : ℕ) (s : State) (a b : List ℕ) → length a ≡ 64 * q → after_blocks (q + j) s (a ++ b) ≡ after_blocks j (after_blocks q s (a ++ b)) b
unfolding after_blocks
back zero q s a b h = ap (λ (k : ℕ). after_blocks k s (a ++ b)) (add-zero q)
back (suc j) q s a b h =
    let e : 64 * (q + j) ≡ length a + 64 * j = omega arith in
    ap (λ (k : ℕ). after_blocks k s (a ++ b)) (add-suc q j)
    ∙ ap₂ compress (back j q s a b h) (ap (take 64) (ap (λ (k : ℕ). drop k (a ++ b)) e ∙ drop-append-add a b (64 * j)))

-- j blocks more, after q
more : (m : List ℕ) (s : State) (q j : ℕ) → 64 * q ≤ length m → after_blocks j (after_blocks q s m) (drop (64 * q) m) ≡ after_blocks (q + j) s m
more m s q j h =
    let e = take-append-drop (64 * q) m in
    ap (λ (l : List ℕ). after_blocks j (after_blocks q s l) (drop (64 * q) m)) (sym e)
    ∙ sym (back j q s (take (64 * q) m) (drop (64 * q) m) (length-take-le (64 * q) m h)) ∙ ap (after_blocks (q + j) s) e

-- no group
pub none : (m : List ℕ) (lanes k : ℕ) (s : State) → k ≡ 0 → s ≡ after_blocks (lanes * k) s m
unfolding after_blocks
none m lanes k s e = rw (e, mul-zero) refl

-- a group of blocks more
pub turn : (m : List ℕ) (lanes k : ℕ) (s x y : State) → 64 * lanes * k + 64 * lanes ≤ length m → x ≡ after_blocks (lanes * k) s m
    → y ≡ after_blocks lanes x (take (64 * lanes * k + 64 * lanes - 64 * lanes * k) (drop (64 * lanes * k) m)) → y ≡ after_blocks (lanes * (k + 1)) s m
turn m lanes k s x y h e f =
    let size : ℕ = 64 * lanes in
    let at : size * k ≡ 64 * (lanes * k) = mul_assoc 64 lanes k in
    let all : lanes * k + lanes ≡ lanes * (k + 1) = sym (rw add-one (mul-suc lanes k)) in
    let rest : List ℕ = drop (size * k) m in
    let l : length (take size rest) ≡ size = length-take-le size rest (omega (arith, length-drop (size * k) m)) in
    f ∙ ap₂ (after_blocks lanes) e (part m size k)
    ∙ sym (front lanes (after_blocks (lanes * k) s m) (take size rest) (drop size rest) (omega arith))
    ∙ ap (after_blocks lanes (after_blocks (lanes * k) s m)) (take-append-drop size rest ∙ ap (λ (n : ℕ). drop n m) at)
    ∙ more m s (lanes * k) lanes (omega arith) ∙ ap (λ (n : ℕ). after_blocks n s m) all

pub one_by_one : (n : ℕ) (s : State) (m : List ℕ) → after_blocks (1 * n) s m ≡ after_blocks n s m
one_by_one n s m = let e : 1 * n ≡ n = omega arith in rw e refl

-- the blocks after f fours, as the code takes them
pub after_fours : (m : List ℕ) (f : ℕ) (s z x y : State) → f ≡ length m / 256 → z ≡ s → x ≡ after_blocks (4 * f) z m
    → (let rest : List ℕ = take (length m - 256 * f) (drop (256 * f) m) in y ≡ after_blocks (1 * (length rest / 64)) x rest → y ≡ after_blocks (length m / 64) s m)
after_fours m f s z x y h i e g =
    let at : 256 * f ≡ 64 * (4 * f) = omega arith in
    let rest : take (length m - 256 * f) (drop (256 * f) m) ≡ drop (256 * f) m = take_all (length m - 256 * f) (drop (256 * f) m) (omega (arith, length-drop (256 * f) m)) in
    let j : ℕ = length (drop (256 * f) m) / 64 in
    let all : 4 * f + j ≡ length m / 64 = omega (arith, length-drop (256 * f) m) in
    g ∙ one_by_one _ _ _ ∙ ap₂ (λ (z : State) (l : List ℕ). after_blocks (length l / 64) z l) (e ∙ ap (λ (z : State). after_blocks (4 * f) z m) i) rest
    ∙ ap (λ (n : ℕ). after_blocks j (after_blocks (4 * f) s m) (drop n m)) at
    ∙ more m s (4 * f) j (omega arith) ∙ ap (λ (n : ℕ). after_blocks n s m) all
