-- The words of a schedule one after the other, and those of four schedules beside each other.
use Rattle.std.proofs.Common.{◌≡◌, ℕ, zero, suc, ◌+◌, ◌-◌, ◌*◌, ◌/◌, ◌%◌, ◌<◌, ◌≤◌, List, [], ◌∷◌, ◌++◌, length, get_or, take, drop, set, sym, refl, ap, ◌∙◌, ap₂, ⊎_elim, eq-or-lt_of_le, arith, length-append, get_or-drop, get_or-take, ext_get_or, le-ltb, lt-ltb}
use Rattle.std.proofs.Math.Nat.{mul_comm, mul-add, mod-lt}
use Rattle.std.proofs.lemmas.Nat.{div-mul-add, mod-mul-add, div-add-mod', le-div, div_below}
use Rattle.std.proofs.lemmas.Grind.{rows}
use lib.ListN.{get_or-append}
use lib.Seq.{get_or_at}
use Rattle.fips180.specs.Hash.{schedule, W, word, next}
use Rattle.rounds.specs.Inner.{Made, Beside}
use Rattle.rounds.proofs.Making.{made_at, made_more}

length_schedule : (n : ℕ) (m : List ℕ) → length (schedule n m) ≡ n
unfolding schedule
length_schedule zero m = refl
length_schedule (suc n) m = let e = length_schedule n m in length-append (schedule n m) (W m (schedule n m) n ∷ []) ∙ omega arith

-- the word t of a schedule, however long it is
at_word : (n t : ℕ) (m : List ℕ) → t < n → get_or (schedule n m) t 0 ≡ W m (schedule t m) t
unfolding schedule
at_word zero t m h = absurd (omega arith)
at_word (suc n) t m h =
    let e = length_schedule n m in
    let g : t ≤ n = omega arith in
    ⊎_elim
    (λ f. ap (λ (k : ℕ). get_or (schedule n m ++ (W m (schedule n m) n ∷ [])) k 0) f
    ∙ get_or_at (schedule n m) (W m (schedule n m) n) [] 0 n e
    ∙ ap (λ (k : ℕ). W m (schedule k m) k) (sym f))
    (λ f. get_or-append (schedule n m) (W m (schedule n m) n ∷ []) 0 t (omega arith) ∙ at_word n t m f)
    (eq-or-lt_of_le g)

same : (m : List ℕ) (n k t : ℕ) → t < n → t < k → get_or (schedule n m) t 0 ≡ get_or (schedule k m) t 0
same m n k t h g = at_word n t m h ∙ sym (at_word k t m g)

word_low : (m : List ℕ) (t : ℕ) → t < 16 → get_or (schedule 64 m) t 0 ≡ word m (4 * t)
unfolding W
word_low m t h = at_word 64 t m (omega arith) ∙ simp (lt-ltb t 16 h)

-- the word t of a whole schedule, by the words before it
word_high : (m : List ℕ) (t w2 w7 w15 w16 : ℕ) → 16 ≤ t → t < 64
    → (let before : ℕ → ℕ = λ n. get_or (schedule 64 m) (t - n) 0 in
    w2 ≡ before 2 → w7 ≡ before 7 → w15 ≡ before 15 → w16 ≡ before 16 → next w2 w7 w15 w16 ≡ get_or (schedule 64 m) t 0)
unfolding W
word_high m t w2 w7 w15 w16 h g e2 e7 e15 e16 =
    sym
    (at_word 64 t m g
    ∙ rw (le-ltb t 16 h, same m t 64 (t - 2) (omega arith) (omega arith), same m t 64 (t - 7) (omega arith) (omega arith), same m t 64 (t - 15) (omega arith) (omega arith), same m t 64 (t - 16) (omega arith) (omega arith))
    (sym (rw (e2, e7, e15, e16))))

-- all 64 words stand
pub whole : (m w : List ℕ) → length w ≡ 64 → ((t : ℕ) → t < 64 → get_or w t 0 ≡ get_or (schedule 64 m) t 0) → w ≡ schedule 64 m
whole m w l f = ext_get_or 0 w (schedule 64 m) (l ∙ sym (length_schedule 64 m)) (λ t h. f t (omega arith))

block_word : (m : List ℕ) (i t : ℕ) → t < 16 → word (take 64 (drop (64 * i) m)) (4 * t) ≡ word m (64 * i + 4 * t)
block_word m i t h =
    let byte : (n k : ℕ) → n < 64 → 64 * i + n ≡ k → get_or (take 64 (drop (64 * i) m)) n 0 ≡ get_or m k 0
    = λ n k g e. get_or-take 64 (drop (64 * i) m) n 0 g ∙ get_or-drop (64 * i) m n 0 ∙ ap (λ (x : ℕ). get_or m x 0) e in
    let at : ℕ = 64 * i + 4 * t in
    rw (byte (4 * t) at (omega arith) refl, byte (4 * t + 1) (at + 1) (omega arith) (omega arith), byte (4 * t + 2) (at + 2) (omega arith) (omega arith), byte (4 * t + 3) (at + 3) (omega arith) (omega arith))

-- ---- blocks beside each other
module _ (lanes : ℕ) (m w : List ℕ) where
  -- the word at a place
  abbrev placed : ℕ → ℕ
  placed p = get_or (schedule 64 (take 64 (drop (64 * (p % lanes)) m))) (p / lanes) 0

  placed_at : (p i t : ℕ) → i < lanes → p ≡ lanes * t + i → placed p ≡ get_or (schedule 64 (take 64 (drop (64 * i) m))) t 0
  placed_at p i t h e =
      let f : p ≡ t * lanes + i = e ∙ ap (λ (x : ℕ). x + i) (mul_comm lanes t) in
      let ei : p % lanes ≡ i = ap (λ (x : ℕ). x % lanes) f ∙ mod-mul-add t lanes i h in
      let et : p / lanes ≡ t = ap (λ (x : ℕ). x / lanes) f ∙ div-mul-add t lanes i h in
      ap₂ (λ (i t : ℕ). get_or (schedule 64 (take 64 (drop (64 * i) m))) t 0) ei et

  -- the word t of block i is loaded
  pub word_loaded : (i t v : ℕ) → i < lanes → t < 16 → length w ≡ 64 * lanes → v ≡ word m (64 * i + 4 * t)
      → Beside lanes (lanes * t + i) m w → Beside lanes (lanes * t + (i + 1)) m (set w (lanes * t + i) v)
  word_loaded i t v hi ht l e b =
      let p : ℕ = lanes * t + i in
      let in_w : p < length w = grind (arith, rows) in
      let n : p + 1 ≡ lanes * t + (i + 1) = omega arith in
      made_at placed (set w p v) n
      (made_more placed w p v in_w
      (e ∙ sym (block_word m i t ht) ∙ sym (word_low (take 64 (drop (64 * i) m)) t ht) ∙ sym (placed_at p i t hi refl)) b)

  -- the word at p is made of those before it in its block
  pub word_made : (from i v : ℕ) → 16 * lanes ≤ from → from + i < 64 * lanes → length w ≡ 64 * lanes
      → (let p : ℕ = from + i in v ≡ next (get_or w (p - 2 * lanes) 0) (get_or w (p - 7 * lanes) 0) (get_or w (p - 15 * lanes) 0) (get_or w (p - 16 * lanes) 0))
      → Beside lanes (from + i) m w → Beside lanes (from + (i + 1)) m (set w (from + i) v)
  unfolding Made
  word_made from i v lo hi l e b =
      let p : ℕ = from + i in
      let some : 0 < lanes = omega arith in
      let t : ℕ = p / lanes in
      let j : ℕ = p % lanes in
      let hj : j < lanes = mod-lt p some in
      let ep : p ≡ lanes * t + j = sym (div-add-mod' p lanes) ∙ ap (λ (x : ℕ). x + j) (mul_comm t lanes) in
      let low : 16 ≤ t = le-div 16 p lanes some (omega arith) in
      let high : t < 64 = div_below p lanes 64 some hi in
      let s : List ℕ = take 64 (drop (64 * j) m) in
      let before : (n a : ℕ) → 0 < a → n ≤ 16 → a ≡ lanes * n → get_or w (p - a) 0 ≡ get_or (schedule 64 s) (t - n) 0
      = λ n a pos le ea.
      let u : ℕ = t - n in
      let et : t ≡ n + u = omega arith in
      let d : lanes * t ≡ lanes * n + lanes * u = ap (λ (x : ℕ). lanes * x) et ∙ mul-add lanes n u in
      b (p - a) (omega arith) ∙ placed_at (p - a) j u hj (omega arith) in
      let n : p + 1 ≡ from + (i + 1) = omega arith in
      made_at placed (set w p v) n
      (made_more placed w p v (omega arith)
      (e ∙ word_high s t _ _ _ _ low high (before 2 (2 * lanes) (omega arith) (omega arith) (omega arith)) (before 7 (7 * lanes) (omega arith) (omega arith) (omega arith)) (before 15 (15 * lanes) (omega arith) (omega arith) (omega arith)) (before 16 (16 * lanes) (omega arith) (omega arith) (omega arith))) b)

  -- the words at the places of block i are its schedule
  pub lane : (r : List ℕ) (i n : ℕ) → i < lanes → 64 ≤ n → length r ≡ 64 → Made (λ (t : ℕ). get_or w (lanes * t + i) 0) n r → Beside lanes (64 * lanes) m w
      → r ≡ schedule 64 (take 64 (drop (64 * i) m))
  unfolding Made
  lane r i n hi en l f b =
      whole (take 64 (drop (64 * i) m)) r l
      (λ t h. f t (omega arith) ∙ b (lanes * t + i) (grind (arith, rows)) ∙ placed_at (lanes * t + i) i t hi refl)

pub no_row : (lanes : ℕ) → 0 ≡ lanes * 0
no_row lanes = omega arith
