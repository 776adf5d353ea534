-- The leading zero bits of a digest, counted word by word.
use Prim.Native.Nat.{ℕ, zero, suc, ◌+◌, ◌*◌, ◌/◌, ◌%◌, ◌^◌, ◌≤◌, ◌<◌}
use mathlib.Core.Path.{◌≡◌, refl, sym, ap, ap₂, ◌∙◌}
use mathlib.Core.List.{List, [], ◌∷◌, ◌++◌, append_assoc}
use native.Mathlib.Omega.{arith}
use native.Mathlib.Nat.{add_comm, pow-suc, div-eq_of_lt, div-eq_of_lt-le, not-suc-le-zero, pos_of_ne-zero, zero-add, suc-add}
use native.Mathlib.Numerals.{add-one}
use lib.Count.{count_leading_zeros, leading_of_zero, leading_top, leading_unique}
use lib.Dec.{ltb}
use lib.ListN.{length, drop, get_or, drop_of_length-le}
use lib.Pow.{shr-shr, field, mod-mod-pow}
use lib.Seq.{drop-cons}
use borrow.Author.Tests.{ltb-true, ltb-false}
use borrow.Table.Steps.{cases}
use Rattle.fips180.specs.Hash.{bytes_of}
use Rattle.key.specs.Layer.{bits, bits_of, leading_zero_bits}
use Rattle.key.proofs.Laws.{length_bits}

-- ---- a number of k bits: its bits begin with as many zeros as the machine counts
top_bit : (k n : ℕ) → 2 ^ k ≤ n → n < 2 ^ suc k → n / 2 ^ k ≡ 1
top_bit k n h l = div-eq_of_lt-le (2 ^ k) (omega arith) (omega (arith, pow-suc 2 k))

-- the zeros and the m bits from the highest 1 on make k
zeros_and_length : (k n : ℕ) → n < 2 ^ k → (m : ℕ) × (leading_zero_bits (bits k n) + m ≡ k) × (n < 2 ^ m) × (2 ^ m ≤ 2 * n + 1)
unfolding bits leading_zero_bits
zeros_and_length zero n h = (0, refl, h, omega arith)
zeros_and_length (suc k) n h =
    cases (ltb n (2 ^ k))
    (λ e.
    let l = ltb-true n (2 ^ k) e in
    let w = zeros_and_length k n l in
    rw (div-eq_of_lt l) (w.0, omega arith, w.2, w.3))
    (λ e. rw (top_bit k n (ltb-false n (2 ^ k) e) h) (suc k, omega arith, h, omega (arith, pow-suc 2 k, ltb-false n (2 ^ k) e)))

zeros_of_number : (k n : ℕ) → n < 2 ^ k → leading_zero_bits (bits k n) ≡ count_leading_zeros k n
zeros_of_number k n h =
    let w = zeros_and_length k n h in
    leading_unique k n (leading_zero_bits (bits k n)) w.0 w.1 w.2 w.3

-- ---- the bits of a word are those of its four bytes
bits_append : (k j n : ℕ) → bits (k + j) n ≡ bits k (n / 2 ^ j) ++ bits j n
unfolding bits
bits_append zero j n = rw zero-add
bits_append (suc k) j n =
    rw suc-add (ap₂ (λ (b : ℕ) (l : List ℕ). b % 2 ∷ l) (ap (λ (m : ℕ). n / 2 ^ m) (add_comm k j) ∙ sym (shr-shr n j k)) (bits_append k j n))

-- bits above the lowest k do not count
bits_low : (k j n : ℕ) → bits k (n % 2 ^ (j + k)) ≡ bits k n
unfolding bits
bits_low zero j n = refl
bits_low (suc k) j n =
    let e : j + suc k ≡ j + 1 + k = omega arith in
    rw e (ap₂ (λ (b : ℕ) (l : List ℕ). b ∷ l) (ap (λ (m : ℕ). m % 2) (field n (j + 1) k) ∙ mod-mod-pow (n / 2 ^ k) j 1) (bits_low k (j + 1) n))

word_bits : (w : ℕ) (ws : List ℕ) → bits_of (bytes_of (w ∷ ws)) ≡ bits 32 w ++ bits_of (bytes_of ws)
unfolding bits_of
word_bits w ws =
    simp (
      bits_low 8 0 (w / 2 ^ 24),
      bits_low 8 0 (w / 2 ^ 16),
      bits_low 8 0 (w / 2 ^ 8),
      bits_low 8 0 w,
      bits_append 8 24 w,
      bits_append 8 16 w,
      bits_append 8 8 w,
      append_assoc,
    )

-- ---- the zeros go on behind a string of zeros alone, and end in any other
zeros_past : (s t : List ℕ) → leading_zero_bits s ≡ length s → leading_zero_bits (s ++ t) ≡ length s + leading_zero_bits t
unfolding leading_zero_bits
zeros_past [] t e = omega arith
zeros_past (zero ∷ s) t e = omega (arith, zeros_past s t (omega arith))
zeros_past (suc b ∷ s) t e = absurd (omega arith)

zeros_within : (s t : List ℕ) → leading_zero_bits s < length s → leading_zero_bits (s ++ t) ≡ leading_zero_bits s
unfolding leading_zero_bits
zeros_within [] t h = absurd (not-suc-le-zero h)
zeros_within (zero ∷ s) t h = ap (λ (n : ℕ). 1 + n) (zeros_within s t (omega arith))
zeros_within (suc b ∷ s) t h = refl

-- ---- word by word
abbrev pub zeros_of : List ℕ → ℕ
zeros_of ws = leading_zero_bits (bits_of (bytes_of ws))

zero_word : (ws : List ℕ) → zeros_of (0 ∷ ws) ≡ 32 + zeros_of ws
unfolding bits leading_zero_bits
zero_word ws = rw (word_bits 0 ws) (zeros_past (bits 32 0) (bits_of (bytes_of ws)) refl)

other_word : (w : ℕ) (ws : List ℕ) → (w ≡ 0 → ⊥) → w < 2 ^ 32 → zeros_of (w ∷ ws) ≡ count_leading_zeros 32 w
other_word w ws f h =
    let e = zeros_of_number 32 w h in
    let t = leading_top 32 w (pos_of_ne-zero f) h in
    let l : leading_zero_bits (bits 32 w) < length (bits 32 w) = omega (arith, e, t.1, length_bits 32 w) in
    rw (word_bits w ws) (zeros_within (bits 32 w) (bits_of (bytes_of ws)) l ∙ e)

-- the words before i are zero, which makes n bits
abbrev pub ZerosSoFar : List ℕ → ℕ → ℕ → Type 0
ZerosSoFar ws n i = (n ≡ 32 * i) × (n + zeros_of (drop i ws) ≡ zeros_of ws)

-- the ways that a turn of the loop goes
module _ (ws : List ℕ) (n i : ℕ) (u : ZerosSoFar ws n i) where
  pub words_end : length ws ≤ i → n ≡ zeros_of ws
  unfolding bits_of leading_zero_bits
  words_end h = omega (arith, rw (drop_of_length-le ws h) at u.1)

  module _ (h : i < length ws) where
    pub word_stops : get_or ws i 0 < 2 ^ 32 → (get_or ws i 0 ≡ 0 → ⊥) → n + count_leading_zeros 32 (get_or ws i 0) ≡ zeros_of ws
    word_stops l f = omega (arith, rw (drop-cons ws i 0 h) at u.1, other_word (get_or ws i 0) (drop (suc i) ws) f l)

    pub word_goes_on : get_or ws i 0 ≡ 0 → ZerosSoFar ws (n + count_leading_zeros 32 (get_or ws i 0)) (i + 1)
    word_goes_on e =
        let z : count_leading_zeros 32 (get_or ws i 0) ≡ 32 = rw e (leading_of_zero 32) in
        let d : zeros_of (drop i ws) ≡ 32 + zeros_of (drop (i + 1) ws) = rw (add-one, drop-cons ws i 0 h, e) (zero_word (drop (suc i) ws)) in
        (omega arith, omega arith)
