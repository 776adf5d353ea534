-- The highest layer of a range, the run of records of other layers, and gaps with and without a page.
use Prim.Native.Nat.{ℕ, zero, suc, ◌+◌, ◌-◌, ◌≤◌, ◌<◌, max}
use mathlib.Core.Path.{◌≡◌, refl, sym, ap, ◌∙◌}
use mathlib.Core.List.{List}
use mathlib.Core.Logic.{⊎_elim}
use native.Mathlib.Omega.{arith}
use native.Mathlib.Nat.{le_of_suc-le-suc, eq-or-lt_of_le}
use native.Mathlib.Numerals.{add-one}
use lib.ListN.{get_or}
use Rattle.word.specs.Word.{layer_in}
use Rattle.tree.specs.Tree.{top_layer}
use Rattle.layout.specs.Build.{record_in, span}
use Rattle.layout.specs.Layout.{has_page}
use Rattle.std.proofs.Common.{nat_lt, nat_cmp, cond}
use Rattle.std.specs.declared.cmp.Ordering.{Ordering}
use Rattle.std.specs.declared.cmp.Ordering.TheVariants.{Less, Equal, Greater}
use Rattle.std.specs.Ordering.{MatchOrdering, is_lt, ord_max}
use Rattle.std.specs.Cmp.{ranks}
use Rattle.std.proofs.lemmas.Bool.{le-ltb, lt-ltb}

-- ---- the highest layer
-- the first i records are looked at
abbrev pub TopSoFar : List ℕ → ℕ → ℕ → ℕ → Type 0
TopSoFar row n top i = (s u : List ℕ) → max top (top_layer (span (record_in s u row) i (n - i))) ≡ top_layer (span (record_in s u row) 0 n)

pub top_none : (row : List ℕ) (n : ℕ) → TopSoFar row n 0 0
top_none row n s u = let e : n - 0 ≡ n = omega arith in rw e (omega arith)

module _ (row : List ℕ) (n top i : ℕ) (t : TopSoFar row n top i) where
  pub top_more : (layer next : ℕ) → i < n → layer ≡ layer_in (get_or row i 0) → next ≡ max top layer → TopSoFar row n next (i + 1)
  unfolding span top_layer record_in
  top_more layer next h e f s u =
      let z : n - i ≡ suc (n - (i + 1)) = omega arith in
      let w = rw (z, ← add-one i, ← e) at (t s u) in
      omega (arith, w)

  pub top_all : n ≤ i → (s u : List ℕ) → top ≡ top_layer (span (record_in s u row) 0 n)
  unfolding span top_layer
  top_all h s u =
      let z : n - i ≡ 0 = omega arith in
      let w = rw z at (t s u) in
      omega (arith, w)

-- ---- a run of other layers
-- none from lo to before i is of layer n
abbrev pub OthersSoFar : List ℕ → ℕ → ℕ → ℕ → Type 0
OthersSoFar row n lo i = (j : ℕ) → lo ≤ j → j < i → layer_in (get_or row j 0) ≡ n → ⊥

pub others_none : (row : List ℕ) (n lo : ℕ) → OthersSoFar row n lo lo
others_none row n lo j h k q = absurd (omega arith)

pub others_more : (row : List ℕ) (n lo i x : ℕ) → OthersSoFar row n lo i → x ≡ layer_in (get_or row i 0) → (x ≡ n → ⊥) → OthersSoFar row n lo (i + 1)
others_more row n lo i x f e g j h k q =
    ⊎_elim (λ p. g (e ∙ ap (λ (m : ℕ). layer_in (get_or row m 0)) (sym p) ∙ q)) (λ p. f j h p q) (eq-or-lt_of_le (le_of_suc-le-suc (rw add-one at k)))

-- ---- gaps
pub page_bottom : (n m : ℕ) → n ≤ 0 → nat_lt 0 n ≡ has_page n m
unfolding has_page
page_bottom zero m h = refl
page_bottom (suc n) m h = absurd (omega arith)

page_of_range : (n m lo hi : ℕ) → 0 < n → lo ≤ hi → m ≡ hi - lo → nat_lt lo hi ≡ has_page n m
unfolding has_page
page_of_range zero m lo hi h k e = absurd (omega arith)
page_of_range (suc n) zero lo hi h k e = le-ltb lo hi (omega (arith, e))
page_of_range (suc n) (suc m) lo hi h k e = lt-ltb lo hi (omega (arith, e))

pub page_within : (n lo hi : ℕ) → 0 < n → lo ≤ hi → nat_lt lo hi ≡ has_page n (hi - lo)
page_within n lo hi h k = page_of_range n (hi - lo) lo hi h k refl

-- ---- the greater of two numbers, as `max` of std says it
greater_by : (a b : ℕ) (o : Ordering) → MatchOrdering o (b < a) (b ≡ a) (a < b) → cond (is_lt o) a b ≡ max a b
greater_by a b Less h = omega arith
greater_by a b Equal h = omega arith
greater_by a b Greater h = omega arith

pub greater_is : (a b : ℕ) → ord_max nat_cmp a b ≡ max a b
greater_is a b = greater_by a b (nat_cmp b a) (ranks b a)
