-- The test of a page as a whole.
use Prim.Native.Nat.{ℕ, zero, suc, ◌≤◌, ◌<◌}
use mathlib.Core.Path.{◌≡◌, refl, ap, ◌∙◌}
use mathlib.Core.Bool.{Bool, true, ◌&&◌}
use native.Mathlib.Omega.{arith}
use lib.Dec.{eqb, ltb}
use borrow.Author.Tests.{ne_eqb, lt-ltb}
use Rattle.page_reader.specs.declared.PageAt.{PageAt}
use Rattle.index.specs.Walk.{page_holds, PageTaken}
use Rattle.index.specs.declared.walk.WalkState.{WalkState}

-- ---- a page that may stand where it stands
pub page_has_entry : (link count left : ℕ) → 0 < count → true ≡ page_holds link count left
unfolding page_holds
page_has_entry link zero left h = absurd (omega arith)
page_has_entry zero (suc count) left h = refl
page_has_entry (suc link) (suc count) left h = refl

pub root_is_bare : (link count left : ℕ) → count ≤ 0 → link ≡ 0 → eqb left 0 ≡ page_holds link count left
unfolding page_holds
root_is_bare zero zero zero h e = refl
root_is_bare zero zero (suc left) h e = ne_eqb (suc left) 0 (λ q. omega arith)
root_is_bare zero (suc count) left h e = absurd (omega arith)
root_is_bare (suc link) count left h e = absurd (omega arith)

pub page_has_left : (link count left : ℕ) → count ≤ 0 → (link ≡ 0 → ⊥) → ltb 0 left ≡ page_holds link count left
unfolding page_holds
page_has_left zero count left h f = absurd (f refl)
page_has_left (suc link) zero zero h f = refl
page_has_left (suc link) zero (suc left) h f = lt-ltb 0 (suc left) (omega arith)
page_has_left (suc link) (suc count) left h f = absurd (omega arith)

-- ---- the test of a page, taken in
pub page_taken : (link : ℕ) (p : PageAt) (st : WalkState) (holds : Bool) → holds ≡ page_holds link p.count p.left
    → (b : Bool) → b ≡ (st.filled && holds) → PageTaken link p st (record {
      next = p.end;
      count = st.count;
      chains = st.chains;
      last = st.last;
      prefixes = st.prefixes;
      lawful = st.lawful;
      rising = st.rising;
      filled = b;
    })
page_taken link p st holds eh b eb = record {
  next = refl;
  count = refl;
  chains = refl;
  last = refl;
  prefixes = refl;
  lawful = refl;
  rising = refl;
  fill = eb ∙ ap (λ (x : Bool). st.filled && x) eh;
}
