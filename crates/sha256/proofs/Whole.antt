-- The hash of a message that is taken in two parts: its whole blocks, and the rest with the padding.
use mathlib.Core.Path.{◌≡◌, sym, ap, ap₂, ◌∙◌}
use mathlib.Core.List.{List, ◌∷◌, ◌++◌, append_assoc}
use Prim.Native.Nat.{ℕ, ◌+◌, ◌-◌, ◌*◌, ◌/◌, ◌%◌}
use native.Mathlib.Nat.{mul-div_cancel, zero-lt-suc}
use native.Mathlib.Omega.{arith}
use lib.ListN.{length, take, drop, length-append, length-replicate, length-drop, take-append-drop}
use lib.Seq.{take_all, length-take-le}
use Rattle.bytestring.specs.Bytes.{zeros}
use Rattle.fips180.specs.Hash.{after_blocks, ending, bytes64, pad, hash, H0}
use Rattle.fips180.specs.declared.State.{State}
use Rattle.sha256.proofs.Blocks.{front, back}

length_ending : (m : List ℕ) (k n : ℕ) → length (ending m k n) ≡ length m + k + 9
length_ending m k n =
    let P : List ℕ = 0x80 ∷ zeros k ++ bytes64 (8 * n) in
    omega (arith, length-append m P, length-append (0x80 ∷ zeros k) (bytes64 (8 * n)), length-replicate {A = ℕ} k 0)

-- q whole blocks of l bytes, r bytes left, and j blocks for these
module _ (l r q j : ℕ) (er : r ≡ l - 64 * q) (eq : q ≡ l / 64) (ej : j ≡ (r + 8) / 64 + 1) where
  blocks : l + (64 * j - 9 - r) + 9 ≡ (q + j) * 64
  blocks = omega arith

  gap : 64 * j - 9 - r ≡ (119 - l % 64) % 64
  gap = omega arith

pub whole : (m t : List ℕ) (q j : ℕ) → q ≡ length m / 64 → j ≡ (length (drop (64 * q) m) + 8) / 64 + 1
    → t ≡ ending (drop (64 * q) m) (64 * j - 9 - length (drop (64 * q) m)) (length m) ++ zeros (128 - 64 * j)
    → after_blocks j (after_blocks q H0 m) t ≡ hash m
unfolding hash pad
whole m t q j eq ej et =
    let r : List ℕ = drop (64 * q) m in
    let lr : length r ≡ length m - 64 * q = length-drop (64 * q) m in
    let k : ℕ = 64 * j - 9 - length r in
    let ek : k ≡ (119 - length m % 64) % 64 = gap (length m) (length r) q j lr eq ej in
    let T : List ℕ = ending r k (length m) in
    let P : List ℕ = 0x80 ∷ zeros k ++ bytes64 (8 * length m) in
    let lT : length T ≡ 64 * j = length_ending r k (length m) ∙ omega arith in
    let cut : ending m k (length m) ≡ take (64 * q) m ++ T =
    ap (λ (x : List ℕ). x ++ P) (sym (take-append-drop (64 * q) m)) ∙ append_assoc (take (64 * q) m) r P in
    let n : length (ending m k (length m)) / 64 ≡ q + j = ap (λ (x : ℕ). x / 64) (length_ending m k (length m) ∙ blocks (length m) (length r) q j lr eq ej) ∙ mul-div_cancel (q + j) (zero-lt-suc 63) in
    ap (after_blocks j (after_blocks q H0 m)) et ∙ front j (after_blocks q H0 m) T _ (omega arith)
    ∙ ap (λ (s : State). after_blocks j s T) (sym (front q H0 m P (omega arith)) ∙ ap (after_blocks q H0) cut)
    ∙ sym (back j q H0 (take (64 * q) m) T (length-take-le (64 * q) m (omega arith)))
    ∙ ap₂ (λ (i : ℕ) (l : List ℕ). after_blocks i H0 l) (sym n) (sym cut)
    ∙ ap (λ (k : ℕ). after_blocks (length (ending m k (length m)) / 64) H0 (ending m k (length m))) ek

-- the same, of the rest as the code takes it
pub done : (m t : List ℕ) (q j : ℕ) (x : State) → q ≡ length m / 64
    → (let r : List ℕ = take (length m - 64 * q) (drop (64 * q) m) in
    j ≡ (length r + 8) / 64 + 1 → t ≡ ending r (64 * j - 9 - length r) (length m) ++ zeros (128 - 64 * j) → x ≡ after_blocks q H0 m → after_blocks j x t ≡ hash m)
done m t q j x eq ej et ex =
    let er : take (length m - 64 * q) (drop (64 * q) m) ≡ drop (64 * q) m = take_all (length m - 64 * q) (drop (64 * q) m) (omega (arith, length-drop (64 * q) m)) in
    ap (λ (x : State). after_blocks j x t) ex
    ∙ whole m t q j eq (ej ∙ ap (λ (r : List ℕ). (length r + 8) / 64 + 1) er)
    (et ∙ ap (λ (r : List ℕ). ending r (64 * j - 9 - length r) (length m) ++ zeros (128 - 64 * j)) er)
