-- The key rule as the code tries it: the words of ordinary bytes, the pass over a key, the names . and .., and what these tell of a key.
use Rattle.std.specs.Prelude.{Ok, Err}
use Prim.Native.Nat.{ℕ, zero, suc, ◌+◌, ◌-◌, ◌%◌, ◌≤◌, ◌<◌}
use mathlib.Core.Path.{◌≡◌, refl, sym, ◌∙◌}
use mathlib.Core.Bool.{Bool, true, false, cond, ◌&&◌, beq, and-true, and-false, false≢true}
use mathlib.Core.List.{List, [], ◌∷◌}
use native.Mathlib.Omega.{arith}
use native.Mathlib.Nat.{zero-add, add-zero}
use native.Mathlib.Numerals.{add-one}
use lib.Dec.{eqb, ltb}
use lib.ListN.{length, take, drop, get_or, drop_of_length-le, length-drop}
use lib.Seq.{drop-cons, take_all}
use borrow.Author.Tests.{eqb-true, eqb-false, eq-eqb, ne_eqb, ltb-true, ltb-false, le-leb, lt-leb}
use borrow.Table.Steps.{cases}
use Rattle.answer.specs.declared.Refusal.TheVariants.{UnlawfulKey}
use Rattle.key.specs.Key.{slash_byte, dot, ordinary, collection, name, all_ordinary, is_dot_name, lawful, slash_answer}
use Rattle.key.specs.Inner.{only_slash}
use Rattle.key.proofs.Lawful.{ordinary_no_slash, collection_le, name_is, slash_none, long_unlawful, no_collection, no_name, other_bytes}
use Rattle.key_calls.specs.Inner.{has_bit, slash_or_end, passed, OrdinaryFrom}

-- ---- the words of ordinary bytes
-- whether the bits of a word tell of the n numbers from low on which are ordinary: a test that antt computes
unfoldable pub agrees : ℕ → ℕ → ℕ → Bool
agrees word low zero = true
agrees word low (suc n) = beq (has_bit word ((low + n) % 64)) (ordinary (low + n)) && agrees word low n

equal_and_rest : (a b rest : Bool) → beq a b && rest ≡ true → (a ≡ b) × (rest ≡ true)
equal_and_rest true true rest h = (refl, h)
equal_and_rest true false rest h = absurd (false≢true h)
equal_and_rest false true rest h = absurd (false≢true h)
equal_and_rest false false rest h = (refl, h)

pub word_told : (word low n b : ℕ) → agrees word low n ≡ true → low ≤ b → b < low + n → has_bit word (b % 64) ≡ ordinary b
unfolding agrees
word_told word low zero b h above below = absurd (omega arith)
word_told word low (suc n) b h above below =
    let w = equal_and_rest (has_bit word ((low + n) % 64)) (ordinary (low + n)) (agrees word low n) h in
    cases (eqb b (low + n))
    (λ e. rw (eqb-true b (low + n) e) w.0)
    (λ e. word_told word low n b w.1 above (omega (arith, eqb-false b (low + n) e)))

-- ---- the pass over a key of n bytes
-- bytes that are ordinary are passed over, one or several
pub pass_ordinary : (k : List ℕ) (n at i : ℕ) → i < length k → ordinary (get_or k i 0) ≡ true → passed n at i (drop i k) ≡ passed n at (i + 1) (drop (i + 1) k)
unfolding passed
pass_ordinary k n at i h e = rw (drop-cons k i 0 h, e, add-one)

pass_more : (k : List ℕ) (n at m i : ℕ) → i + m ≤ length k → OrdinaryFrom k i (i + m) → passed n at i (drop i k) ≡ passed n at (i + m) (drop (i + m) k)
pass_more k n at zero i h o = rw add-zero
pass_more k n at (suc m) i h o =
    let e : i + suc m ≡ i + 1 + m = omega arith in
    pass_ordinary k n at i (omega arith) (o i (omega arith) (omega arith))
    ∙ rw e (pass_more k n at m (i + 1) (omega arith) (λ j a b. o j (omega arith) (omega arith)))

pub pass_over : (k : List ℕ) (n at i j : ℕ) → i ≤ j → j ≤ length k → OrdinaryFrom k i j → passed n at i (drop i k) ≡ passed n at j (drop j k)
pass_over k n at i j h l o =
    let e : i + (j - i) ≡ j = omega arith in
    rw e at (pass_more k n at (j - i) i (omega arith) (λ m a b. o m a (omega arith)))

-- the ways that a turn of the loop goes
module _ (k : List ℕ) (n at i : ℕ) where
  pub pass_ends : length k ≤ i → passed n at i (drop i k) ≡ at
  unfolding passed
  pass_ends h = rw (drop_of_length-le k h)

  module _ (h : i < length k) (e : ordinary (get_or k i 0) ≡ false) where
    pub pass_other : (get_or k i 0 ≡ slash_byte → ⊥) → passed n at i (drop i k) ≡ n
    unfolding passed
    pass_other f = rw (drop-cons k i 0 h, e, ne_eqb (get_or k i 0) slash_byte f)

    pub pass_second : at < n → passed n at i (drop i k) ≡ n
    unfolding passed
    pass_second l = rw (drop-cons k i 0 h, e, lt-leb n at l, and-false)

    pub pass_slash : get_or k i 0 ≡ slash_byte → n ≤ at → passed n at i (drop i k) ≡ passed n i (i + 1) (drop (i + 1) k)
    unfolding passed
    pass_slash q l = rw (drop-cons k i 0 h, e, eq-eqb (get_or k i 0) slash_byte q, le-leb n at l, add-one)

-- ---- several bytes at once
pub one_ordinary : (k : List ℕ) (i : ℕ) → ordinary (get_or k i 0) ≡ true → OrdinaryFrom k i (i + 1)
one_ordinary k i e m a b = let q : m ≡ i = omega arith in rw q e

-- one part, and then the next
pub then_ordinary : (k : List ℕ) (i j l : ℕ) → OrdinaryFrom k i j → OrdinaryFrom k j l → OrdinaryFrom k i l
then_ordinary k i j l f g m a b = cases (ltb m j) (λ e. f m a (ltb-true m j e)) (λ e. g m (ltb-false m j e) b)

-- one byte more
pub one_more : (k : List ℕ) (i j n : ℕ) → n ≡ j + 1 → (x y : Bool) → (x ≡ true → OrdinaryFrom k i j) → (y ≡ true → ordinary (get_or k j 0) ≡ true) → x && y ≡ true → OrdinaryFrom k i n
one_more k i j n e true y f g h = rw e (then_ordinary k i j (j + 1) (f refl) (one_ordinary k j (g h)))
one_more k i j n e false y f g h = absurd (false≢true h)

-- ---- what the pass tells of a key
-- after the slash
pass_name : (n at i : ℕ) (s : List ℕ) → at < n → passed n at i s ≡ cond (all_ordinary s) at n
unfolding passed all_ordinary
pass_name n at i [] h = refl
pass_name n at i (b ∷ s) h =
    cases (ordinary b) (λ e. rw e (pass_name n at (i + 1) s h)) (λ e. rw (e, lt-leb n at h, and-false))

-- before it
pass_key : (n i : ℕ) (s : List ℕ) → i + length s ≡ n → passed n n i s ≡ cond (only_slash s) (i + length (collection s)) n
unfolding passed collection name all_ordinary only_slash
pass_key n i [] h = sym h
pass_key n i (b ∷ s) h =
    cases (ordinary b)
    (λ e.
    let m : i + suc (length (collection s)) ≡ i + 1 + length (collection s) = omega arith in
    rw (e, ordinary_no_slash b e, e, m) (pass_key n (i + 1) s (omega arith)))
    (λ e. cases (eqb b slash_byte)
    (λ q. rw (e, q, le-leb n n (omega arith), add-zero) (pass_name n i (i + 1) s (omega arith)))
    (λ q. rw (e, q, e)))

pub pass_whole : (k : List ℕ) → passed (length k) (length k) 0 k ≡ slash_or_end k
unfolding slash_or_end
pass_whole k = pass_key (length k) 0 k (omega arith) ∙ rw zero-add

-- ---- the names . and .. by their length
pub dots_one : (s : List ℕ) → length s ≡ 1 → eqb (get_or s 0 0) dot ≡ is_dot_name s
dots_one [] h = absurd (omega arith)
dots_one (a ∷ []) h = refl
dots_one (a ∷ b ∷ s) h = absurd (omega arith)

pub dots_two : (s : List ℕ) → length s ≡ 2 → (eqb (get_or s 0 0) dot && eqb (get_or s 1 0) dot) ≡ is_dot_name s
dots_two [] h = absurd (omega arith)
dots_two (a ∷ []) h = absurd (omega arith)
dots_two (a ∷ b ∷ []) h = refl
dots_two (a ∷ b ∷ c ∷ s) h = absurd (omega arith)

pub dots_other : (s : List ℕ) → (length s ≡ 1 → ⊥) → (length s ≡ 2 → ⊥) → false ≡ is_dot_name s
dots_other [] f g = refl
dots_other (a ∷ []) f g = absurd (f refl)
dots_other (a ∷ b ∷ []) f g = absurd (g refl)
dots_other (a ∷ b ∷ c ∷ s) f g = refl

-- ---- the ways that the code answers
module _ (k : List ℕ) where
  pub long_refused : 256 < length k → Err UnlawfulKey ≡ slash_answer k
  long_refused h = sym (slash_none k (long_unlawful k h))

  -- at is what the pass answered
  module _ (at : ℕ) (a : at ≡ slash_or_end k) where
    by_bytes {κ} : {C : Type κ} → (lawful k ≡ false → at ≡ length k → C) → (only_slash k ≡ true → at ≡ length (collection k) → C) → C
    unfolding slash_or_end
    by_bytes f g = cases (only_slash k) (λ e. g e (rw e at a)) (λ e. f (other_bytes k e) (rw e at a))

    name_length : at ≡ length (collection k) → length (name k) ≡ length k - (at + 1)
    name_length e = rw (name_is k, e, add-one) (simp length-drop)

    pub within : at ≤ length k
    within = by_bytes (λ _ e. omega arith) (λ _ e. omega (arith, collection_le k))

    pub nothing_before : at ≡ 0 → Err UnlawfulKey ≡ slash_answer k
    nothing_before z = sym (slash_none k (by_bytes (λ f _. f) (λ _ e. no_collection k (sym e ∙ z))))

    pub nothing_after : length k - at < 2 → Err UnlawfulKey ≡ slash_answer k
    nothing_after h = sym (slash_none k (by_bytes (λ f _. f) (λ _ e. no_name k (omega (arith, name_length e)))))

    -- some byte stands on each side of the slash, and d says whether the part after it is . or ..
    module _ (f : at ≡ 0 → ⊥) (h : 2 ≤ length k - at) (d : Bool) (l : d ≡ is_dot_name (take (length k - (at + 1)) (drop (at + 1) k))) where
      name_told : at ≡ length (collection k) → is_dot_name (name k) ≡ d
      name_told e = rw (l, name_is k, ← e, add-one, take_all (length k - suc at) (drop (suc at) k) (simp length-drop (omega arith)))

      pub dots_after : d ≡ true → Err UnlawfulKey ≡ slash_answer k
      unfolding lawful
      dots_after y = sym (slash_none k (by_bytes (λ u _. u) (λ _ e. simp (name_told e, y, and-false))))

      pub two_parts : length k ≤ 256 → d ≡ false → Ok at ≡ slash_answer k
      unfolding lawful only_slash slash_answer
      two_parts short y =
          by_bytes
          (λ _ e. absurd (omega arith))
          (λ o e. rw (
            le-leb 3 (length k) (omega arith),
            le-leb (length k) 256 short,
            ← e,
            le-leb 1 at (omega arith),
            le-leb 1 (length (name k)) (omega (arith, name_length e)),
            name_told e,
            y,
          ) (simp and-true (rw o)))
