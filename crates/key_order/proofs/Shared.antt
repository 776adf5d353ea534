-- The leading bytes that two keys share, counted up to a place in both, and the order of two keys.
use Rattle.std.proofs.Common.{ℕ, suc, ◌+◌, ◌≤◌, ◌<◌, ◌≡◌, ◌≢◌, List, [], ◌∷◌, ◌++◌, length, drop, take, get_or, min, refl, sym, ap, ◌∙◌, arith, add-one, eq-eqb, ne_eqb, length-append, length-drop, drop-cons, nat_cmp, Ordering}
use native.Mathlib.Nat.{not-suc-le-zero}
use lib.Arith.{lt_of_le-ne}
use lib.Dec.{eqb, ltb}
use lib.ListN.{drop_of_length-le}
use borrow.Author.Tests.{eqb-true, eqb-false, lt-ltb, le-ltb, ltb-true, ltb-false}
use borrow.Table.Steps.{cases}
use Rattle.std.proofs.Math.Seq.{drop-append_seam, take_all}
use Rattle.std.proofs.lemmas.Bool.Decides.{nat_tests}
use Rattle.std.proofs.lemmas.Cmp.{same_from_slice_cmp}
use Rattle.std.proofs.lemmas.List.{drop-drop}
use Rattle.std.specs.Ordering.{is_lt, is_gt}
use Rattle.std.specs.Cmp.Lexicographic.{slice_cmp}
use Rattle.std.specs.declared.cmp.Ordering.TheVariants.{Less, Equal, Greater}
use Rattle.key.specs.Key.{less, order, shared}
use Rattle.key_order.specs.Inner.{SharedSoFar}

-- ---- what stands behind a part
module _ (a part rest left : List ℕ) (n m : ℕ) (e : left ≡ drop n a) (f : left ≡ part ++ rest) (l : length part ≡ m) where
  pub part_fits : n ≤ length a → n + m ≤ length a
  part_fits h = omega (arith, length-drop n a, ap length (sym e ∙ f), length-append part rest)

  pub behind_part : rest ≡ drop (n + m) a
  behind_part = sym (drop-append_seam part rest) ∙ rw (l, ← f, e) (drop-drop m n a)

-- ---- a part of each key
shared_behind : (part s t : List ℕ) → shared (part ++ s) (part ++ t) ≡ length part + shared s t
unfolding shared
shared_behind [] s t = omega arith
shared_behind (x ∷ part) s t = rw (eq-eqb x x refl) (omega (arith, shared_behind part s t))

shared_none : (s : List ℕ) → shared s [] ≡ 0
unfolding shared
shared_none [] = refl
shared_none (x ∷ s) = refl

-- both stand behind n bytes that are shared
module _ (a b left other : List ℕ) (n : ℕ) (u : SharedSoFar a b n) (e : left ≡ drop n a) (f : other ≡ drop n b) where
  so_far : n + shared left other ≡ shared a b
  so_far = rw (e, f) u

  pub part_agrees : (p q s t : List ℕ) (m : ℕ) → left ≡ p ++ s → other ≡ q ++ t → length p ≡ m → length q ≡ m → p ≡ q → SharedSoFar a b (n + m)
  part_agrees p q s t m g h l k same =
      let d : s ≡ drop (n + m) a = behind_part a p s left n m e g l in
      let c : t ≡ drop (n + m) b = behind_part b q t other n m f h k in
      let v : shared left other ≡ m + shared s t = rw (g, h, ← same) (shared_behind p s t ∙ rw l) in
      rw (← d, ← c) (omega (arith, so_far, v))

-- a byte of each key
module _ (a b : List ℕ) (i : ℕ) (u : SharedSoFar a b i) where
  none_more : shared (drop i a) (drop i b) ≡ 0 → i ≡ shared a b
  none_more e = omega arith

  pub all_shared : (n : ℕ) → n ≤ i → i ≤ n → length a ≤ i → n ≡ shared a b
  unfolding shared
  all_shared n h k l =
      let e : i ≡ shared a b = none_more (rw (drop_of_length-le a l)) in
      omega arith

  module _ (ha : i < length a) (hb : i < length b) where
    pub byte_differs : (get_or a i 0 ≢ get_or b i 0) → i ≡ shared a b
    unfolding shared
    byte_differs f = none_more (rw (drop-cons a i 0 ha, drop-cons b i 0 hb, ne_eqb (get_or a i 0) (get_or b i 0) f))

    pub byte_agrees : get_or a i 0 ≡ get_or b i 0 → SharedSoFar a b (i + 1)
    unfolding shared
    byte_agrees e =
        let s : shared (drop i a) (drop i b) ≡ suc (shared (drop (i + 1) a) (drop (i + 1) b)) =
        rw (add-one, drop-cons a i 0 ha, drop-cons b i 0 hb, eq-eqb (get_or a i 0) (get_or b i 0) e) in
        omega arith

-- ---- keys cut to the length of the shorter
cut_second : (a b : List ℕ) → shared a (take (length a) b) ≡ shared a b
unfolding shared
cut_second [] b = refl
cut_second (x ∷ a) [] = refl
cut_second (x ∷ a) (y ∷ b) = rw (cut_second a b)

cut_first : (a b : List ℕ) → shared (take (length b) a) b ≡ shared a b
unfolding shared
cut_first [] [] = refl
cut_first [] (y ∷ b) = refl
cut_first (x ∷ a) [] = refl
cut_first (x ∷ a) (y ∷ b) = rw (cut_first a b)

pub shared_cut : (a b : List ℕ) (n : ℕ) → n ≡ min (length a) (length b) → shared (take n a) (take n b) ≡ shared a b
shared_cut a b n e =
    cases (ltb (length a) (length b))
    (λ q.
    let m : n ≡ length a = omega (arith, ltb-true (length a) (length b) q) in
    rw (m, take_all (length a) a (omega arith)) (cut_second a b))
    (λ q.
    let m : n ≡ length b = omega (arith, ltb-false (length a) (length b) q) in
    rw (m, take_all (length b) b (omega arith)) (cut_first a b))

-- ---- the order
-- a key stands before another where the library says so
less_told : (a b : List ℕ) (r : Ordering) → r ≡ slice_cmp nat_cmp a b → is_lt r ≡ less a b
unfolding less
less_told = same_from_slice_cmp nat_cmp is_lt less refl (λ _ _. refl) (λ _ _. refl) (λ x y xs ys o h. grind (arith, nat_tests))

more_told : (a b : List ℕ) (r : Ordering) → r ≡ slice_cmp nat_cmp a b → is_gt r ≡ less b a
unfolding less
more_told =
    same_from_slice_cmp nat_cmp is_gt (λ a b. less b a) refl (λ _ _. refl) (λ _ _. refl) (λ x y xs ys o h. grind (arith, nat_tests))

before : (a b : List ℕ) → Less ≡ slice_cmp nat_cmp a b → Less ≡ order a b
unfolding order
before a b e = rw (← less_told a b _ e)

same_place : (a b : List ℕ) → Equal ≡ slice_cmp nat_cmp a b → Equal ≡ order a b
unfolding order
same_place a b e = rw (← less_told a b _ e, ← more_told a b _ e)

after : (a b : List ℕ) → Greater ≡ slice_cmp nat_cmp a b → Greater ≡ order a b
unfolding order
after a b e = rw (← less_told a b _ e, ← more_told a b _ e)

pub order_is : (a b : List ℕ) (o : Ordering) → o ≡ slice_cmp nat_cmp a b → o ≡ order a b
order_is a b Less = before a b
order_is a b Equal = same_place a b
order_is a b Greater = after a b

-- ---- behind the bytes that they share
-- the first byte there differs
differ_there : (a b : List ℕ) → shared a b < length a → shared a b < length b → get_or a (shared a b) 0 ≡ get_or b (shared a b) 0 → ⊥
unfolding shared
differ_there [] b = λ ha hb. absurd (not-suc-le-zero ha)
differ_there (x ∷ a) [] = λ ha hb. absurd (not-suc-le-zero hb)
differ_there (x ∷ a) (y ∷ b) =
    cases (eqb x y)
    (λ e. rw e (λ ha hb. differ_there a b (omega arith) (omega arith)))
    (λ e. rw e (λ ha hb. eqb-false x y e))

order_same : (x y : ℕ) (a b : List ℕ) → x ≡ y → order (x ∷ a) (y ∷ b) ≡ order a b
unfolding less order
order_same x y a b e = rw (le-ltb x y (omega arith), le-ltb y x (omega arith), eq-eqb x y e, eq-eqb y x (sym e))

-- and the order is that of what stands there
order_there : (a b : List ℕ) → order a b ≡ order (drop (shared a b) a) (drop (shared a b) b)
unfolding shared
order_there [] b = refl
order_there (x ∷ a) [] = refl
order_there (x ∷ a) (y ∷ b) = cases (eqb x y) (λ e. rw e (order_same x y a b (eqb-true x y e) ∙ order_there a b)) (λ e. rw e)

-- the order by what stands there, for the crates above: i is where the shared bytes end
module _ (a b : List ℕ) (i : ℕ) (u : i ≡ shared a b) where
  at_i : order a b ≡ order (drop i a) (drop i b)
  at_i = rw u (order_there a b)

  pub both_end : length b ≤ i → length a ≤ i → Equal ≡ order a b
  unfolding less order
  both_end hb ha = sym (at_i ∙ rw (drop_of_length-le a ha, drop_of_length-le b hb))

  pub b_begins_a : length b ≤ i → i < length a → Greater ≡ order a b
  unfolding less order
  b_begins_a hb ha = sym (at_i ∙ rw (drop-cons a i 0 ha, drop_of_length-le b hb))

  pub a_begins_b : i < length b → length a ≤ i → Less ≡ order a b
  unfolding less order
  a_begins_b hb ha = sym (at_i ∙ rw (drop-cons b i 0 hb, drop_of_length-le a ha))

  module _ (hb : i < length b) (ha : i < length a) where
    pub lower_byte : get_or a i 0 < get_or b i 0 → Less ≡ order a b
    unfolding less order
    lower_byte h = sym (at_i ∙ rw (drop-cons a i 0 ha, drop-cons b i 0 hb, lt-ltb (get_or a i 0) (get_or b i 0) h))

    pub higher_byte : get_or b i 0 ≤ get_or a i 0 → Greater ≡ order a b
    unfolding less order
    higher_byte h =
        let f : get_or a i 0 ≡ get_or b i 0 → ⊥ = rw u (differ_there a b (rw u at ha) (rw u at hb)) in
        let l : get_or b i 0 < get_or a i 0 = lt_of_le-ne h (λ e. f (sym e)) in
        sym (at_i ∙ rw (drop-cons a i 0 ha, drop-cons b i 0 hb, le-ltb (get_or a i 0) (get_or b i 0) h, ne_eqb (get_or a i 0) (get_or b i 0) f, lt-ltb (get_or b i 0) (get_or a i 0) l))
