-- The last blocks, as the code fills them in.
use mathlib.Core.Path.{◌≡◌, refl, sym, ap, ap₂, ◌∙◌}
use mathlib.Core.List.{List, [], ◌∷◌, ◌++◌, append_assoc}
use Prim.Native.Nat.{ℕ, zero, suc, ◌+◌, ◌-◌, ◌*◌, ◌≤◌}
use native.Mathlib.Nat.{zero-add, le_of_suc-le-suc, not-suc-le-zero}
use native.Mathlib.Omega.{arith}
use lib.ListN.{length, take, drop, length-append}
use lib.Seq.{paste, take-length, take-append_seam, drop-append-add, take-append-add}
use Rattle.bytestring.proofs.Tools.{drop_zeros}
use Rattle.bytestring.specs.Bytes.{zeros}
use Rattle.fips180.specs.Hash.{ending, bytes64}

take_zeros : (k n : ℕ) → k ≤ n → take k (zeros n) ≡ zeros k
take_zeros zero n h = refl
take_zeros (suc k) zero h = absurd (not-suc-le-zero h)
take_zeros (suc k) (suc n) h = ap (λ (l : List ℕ). 0 ∷ l) (take_zeros k n (le_of_suc-le-suc h))

-- the bytes of a that are left, then a byte, then zeros
module _ (rest : List ℕ) where
  first : paste (zeros 128) 0 rest (length rest) ≡ rest ++ zeros (128 - length rest)
  first = ap₂ ◌++◌ (take-length rest) (ap (λ (k : ℕ). drop k (zeros 128)) (zero-add (length rest)) ∙ drop_zeros (length rest) 128)

  abbrev marked : List ℕ
  marked = rest ++ (0x80 ∷ [])

  second : paste (rest ++ zeros (128 - length rest)) (length rest) (0x80 ∷ []) 1 ≡ marked ++ zeros (128 - length rest - 1)
  second =
      ap₂ (λ (a b : List ℕ). a ++ (0x80 ∷ []) ++ b) (take-append_seam rest _)
      (drop-append-add rest _ 1 ∙ drop_zeros 1 (128 - length rest))

  third : (bits : List ℕ) (k : ℕ) → length rest + 9 + k ≤ 128 → length bits ≡ 8
      → paste (marked ++ zeros (128 - length rest - 1)) (length rest + 1 + k) bits (length bits)
      ≡ marked ++ zeros k ++ bits ++ zeros (128 - (length rest + 9 + k))
  third bits k h e =
      let z : ℕ = 128 - length rest - 1 in
      let l : length marked ≡ length rest + 1 = length-append rest (0x80 ∷ []) in
      let a : take (length rest + 1 + k) (marked ++ zeros z) ≡ marked ++ zeros k =
      ap (λ (i : ℕ). take (i + k) (marked ++ zeros z)) (sym l) ∙ take-append-add marked (zeros z) k ∙ ap (λ (r : List ℕ). marked ++ r) (take_zeros k z (omega arith)) in
      let i : length rest + 1 + k + length bits ≡ length marked + (k + 8) = omega arith in
      let f : z - (k + 8) ≡ 128 - (length rest + 9 + k) = omega arith in
      let b : drop (length rest + 1 + k + length bits) (marked ++ zeros z) ≡ zeros (128 - (length rest + 9 + k)) =
      ap (λ (i : ℕ). drop i (marked ++ zeros z)) i ∙ drop-append-add marked (zeros z) (k + 8) ∙ drop_zeros (k + 8) z
      ∙ ap zeros f in
      ap₂ (λ (x y : List ℕ). x ++ y) (ap₂ (λ (x y : List ℕ). x ++ y) a (take-length bits)) b

pub filled : (rest t1 t2 t3 bits : List ℕ) (n j : ℕ) → j ≤ 2 → length rest + 9 ≤ 64 * j
    → t1 ≡ paste (zeros 128) 0 rest (length rest)
    → t2 ≡ paste t1 (length rest) (0x80 ∷ []) 1
    → bits ≡ bytes64 (8 * n)
    → t3 ≡ paste t2 (64 * j - 8) bits (length bits)
    → t3 ≡ ending rest (64 * j - 9 - length rest) n ++ zeros (128 - 64 * j)
filled rest t1 t2 t3 bits n j h2 h e1 e2 e e3 =
    let k : ℕ = 64 * j - 9 - length rest in
    let i : 64 * j - 8 ≡ length rest + 1 + k = omega arith in
    let f : 128 - (length rest + 9 + k) ≡ 128 - 64 * j = omega arith in
    let p : t2 ≡ marked rest ++ zeros (128 - length rest - 1) = e2 ∙ ap (λ (t : List ℕ). paste t (length rest) (0x80 ∷ []) 1) (e1 ∙ first rest) ∙ second rest in
    e3 ∙ ap₂ (λ (t : List ℕ) (i : ℕ). paste t i bits (length bits)) p i
    ∙ third rest bits k (omega arith) (ap length e)
    ∙ ap₂ (λ (b : List ℕ) (i : ℕ). marked rest ++ zeros k ++ b ++ zeros i) e f
    ∙ simp append_assoc
