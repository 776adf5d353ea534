-- Rounds by the sums of constants and words.
use Rattle.std.proofs.Common.{◌≡◌, ℕ, zero, suc, ◌+◌, ◌-◌, ◌*◌, ◌<◌, ◌≤◌, List, [], ◌∷◌, length, get_or, take, drop, set, sym, refl, ap, ap₂, ◌∙◌, add-one, arith, get_or-set_other}
use Rattle.std.specs.List.{fold}
use Rattle.std.proofs.lemmas.List.Sums.{fold-append}
use lib.Seq.{take-add, take-suc, take_all}
use Rattle.fips180.specs.Words.{◌⊞◌, Ch, Σ1}
use Rattle.fips180.specs.Hash.{K, schedule, round, rounds, plus, compress, after_blocks}
use Rattle.fips180.specs.declared.State.{State}
use Rattle.rounds.specs.Inner.{Made, Sums}
use Rattle.rounds.proofs.Making.{made_none, made_at, made_more}

-- the first t of v are sums, the others are the constants still
unfoldable pub Summed : List ℕ → ℕ → List ℕ → Type 0
Summed w t v = Made (λ (x : ℕ). get_or K x 0 ⊞ get_or w x 0) t v × ((x : ℕ) → t ≤ x → get_or v x 0 ≡ get_or K x 0)

pub summed_none : (w v : List ℕ) → v ≡ K → Summed w 0 v
unfolding Summed
summed_none w v e = (made_none _ v, λ x h. ap (λ (l : List ℕ). get_or l x 0) e)

pub summed_more : (w v : List ℕ) (t y : ℕ) → t < length v → y ≡ get_or v t 0 ⊞ get_or w t 0 → Summed w t v → Summed w (t + 1) (set v t y)
unfolding Summed
summed_more w v t y h e s = (
  made_more (λ (x : ℕ). get_or K x 0 ⊞ get_or w x 0) v t y h (e ∙ ap (λ (k : ℕ). k ⊞ get_or w t 0) (s.1 t (omega arith))) s.0,
  λ x g. get_or-set_other v t x y 0 (λ i. omega arith) ∙ s.1 x (omega arith),
)

pub summed_all : (w v : List ℕ) (t : ℕ) → t ≡ 64 → Summed w t v → Sums w v
unfolding Summed
summed_all w v t e s = made_at _ v e s.0

-- the constant 0 adds nothing
pub no_constant : (x y : ℕ) → x ⊞ y ⊞ 0 ≡ x ⊞ y
no_constant x y = omega arith

-- a constant and a word may be added first
together : (x k w : ℕ) → x ⊞ (k ⊞ w) ≡ x ⊞ k ⊞ w
together x k w = omega arith

round_by_sum : (s : State) (k w v : ℕ) → v ≡ k ⊞ w → round s 0 v ≡ round s k w
unfolding round
round_by_sum s k w v e =
    let x : ℕ = s.h ⊞ Σ1 s.e in
    let y : ℕ = Ch s.e s.f s.g in
    rw (e, no_constant x y, together (x ⊞ y) k w)

-- the rounds of these sums
abbrev by_sums : State → List ℕ → State
by_sums s v = fold (λ (x : State) (y : ℕ). round x 0 y) s v

by_sums_is : (w v : List ℕ) (s : State) (t : ℕ) → length v ≡ 64 → Sums w v → t ≤ 64 → by_sums s (take t v) ≡ rounds t w s
unfolding rounds Made
by_sums_is w v s zero l sums h = refl
by_sums_is w v s (suc t) l sums h =
    ap (by_sums s) (take-suc v t 0 (omega arith))
    ∙ fold-append (λ (x : State) (y : ℕ). round x 0 y) s (take t v) (get_or v t 0 ∷ [])
    ∙ ap (λ (x : State). round x 0 (get_or v t 0)) (by_sums_is w v s t l sums (omega arith))
    ∙ round_by_sum _ _ _ _ (sums t (omega arith))

-- eight rounds more, by the sums from 8 * k on
pub eight_more : (v : List ℕ) (s x y : State) (k : ℕ) → x ≡ by_sums s (take (8 * k) v) → y ≡ by_sums x (take (8 * k + 8 - 8 * k) (drop (8 * k) v))
    → y ≡ by_sums s (take (8 * (k + 1)) v)
eight_more v s x y k e f =
    let n : 8 * (k + 1) ≡ 8 * k + 8 = omega arith in
    let m : 8 * k + 8 - 8 * k ≡ 8 = omega arith in
    f ∙ ap₂ by_sums e (ap (λ (n : ℕ). take n (drop (8 * k) v)) m)
    ∙ sym (fold-append (λ (x : State) (y : ℕ). round x 0 y) s (take (8 * k) v) (take 8 (drop (8 * k) v)))
    ∙ ap (by_sums s) (sym (ap (λ (n : ℕ). take n v) n ∙ take-add (8 * k) 8 v))

-- after the last round the hash value from before is added
pub rounds_end : (w v : List ℕ) (s x y : State) (k : ℕ) → 8 ≤ k → k ≤ 8 → length v ≡ 64 → Sums w v → x ≡ by_sums s (take (8 * k) v) → y ≡ plus x s
    → y ≡ plus (rounds 64 w s) s
rounds_end w v s x y k h g l sums e f =
    let n : 8 * k ≡ 64 = omega arith in
    f ∙ ap (λ (z : State). plus z s) (e ∙ ap (λ (n : ℕ). by_sums s (take n v)) n ∙ by_sums_is w v s 64 l sums (omega arith))

pub compressed : (m w : List ℕ) (s y : State) → w ≡ schedule 64 m → y ≡ plus (rounds 64 w s) s → y ≡ compress s m
unfolding compress
compressed m w s y e f = f ∙ ap (λ (l : List ℕ). plus (rounds 64 l s) s) e

-- one block more
pub block_more : (m w : List ℕ) (s x y : State) (i : ℕ) → w ≡ schedule 64 (take 64 (drop (64 * i) m)) → x ≡ after_blocks i s m → y ≡ plus (rounds 64 w x) x
    → y ≡ after_blocks (i + 1) s m
unfolding after_blocks
block_more m w s x y i e f g = rw add-one (compressed (take 64 (drop (64 * i) m)) w x y e g ∙ ap (λ (z : State). compress z (take 64 (drop (64 * i) m))) f)

-- one block is all of its bytes
pub one_block : (m : List ℕ) (s y : State) → length m ≡ 64 → y ≡ after_blocks 1 s m → y ≡ compress s m
unfolding after_blocks
one_block m s y size e = e ∙ ap (compress s) (take_all 64 m (omega arith))
