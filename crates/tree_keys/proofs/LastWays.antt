-- The last key of a tree, along the links of last gaps.
use Prim.Native.Nat.{ℕ, ◌+◌, ◌≤◌, ◌<◌}
use mathlib.Core.Path.{◌≡◌, refl, sym, subst, ◌∙◌}
use mathlib.Core.List.{List}
use native.Mathlib.Omega.{arith}
use lib.ListN.{length, get_or}
use Rattle.bytestring.specs.Bytes.{Bytes}
use Rattle.limits.specs.Limits.{deepest, longest_key}
use Rattle.page.specs.Page.{RawPage}
use Rattle.page_keys.specs.Buffer.{LastIs}
use Rattle.summaries.specs.Summary.{summary}
use Rattle.filing.specs.Filed.{page_place, no_page, pages_by_digest, Filed}
use Rattle.tree_keys.specs.Ends.{PagesFiled, Leads, LeadsTo, LastSays}
use Rattle.tree_keys.specs.Inner.{EndsWith, LinkWithin, PageEndsWith, SameLast}
use Rattle.tree_keys.specs.declared.OwnEnd.{OwnEnd}
use Rattle.tree_keys.proofs.Following.{page_summary, layer_low, link_leads, link_below}

-- The tree under the page c has the last key of the tree under the page i.
abbrev pub LastSoFar : List ℕ → List ℕ → List ℕ → List ℕ → ℕ → ℕ → ℕ → ℕ → Type 0
LastSoFar s p labels pages n i c steps = (raws : List RawPage) → Filed s p labels pages n raws → SameLast raws i c steps

module _ (s p labels pages : List ℕ) (n i : ℕ) where
  pub last_begins : Bytes p → i < n → LastSoFar s p labels pages n i i 0
  last_begins b h raws f x q = (x, q, refl, omega (arith, layer_low f b i h x q))

  -- what holds the one holds the other
  pub last_shared : (c : ℕ) (last : List ℕ) (size : ℕ) → LastSoFar s p labels pages n i c 0 → LastSays s p labels pages n c last size
      → LastSays s p labels pages n i last size
  last_shared c last size u v raws f x q = let y = u raws f x q in subst (LastIs last size) y.2 (v raws f y.0 y.1)

  module _ (c steps : ℕ) (u : LastSoFar s p labels pages n i c steps) where
    pub last_too_deep : deepest ≤ steps → (last : List ℕ) (size : ℕ) → LastSays s p labels pages n i last size
    last_too_deep h last size raws f x q = let y = u raws f x q in absurd (omega (arith, y.3))

    pub last_arrived : LastSoFar s p labels pages n i c 0
    last_arrived raws f x q = let y = u raws f x q in (y.0, y.1, y.2, omega (arith, y.3))

    module _ (h : c < n) (at : ℕ) (place : at ≡ page_place (get_or pages c 0)) (last : List ℕ) (r : OwnEnd) (w : PageEndsWith p at last r) where
      end_is : (raws : List RawPage) → Filed s p labels pages n raws → EndsWith p (get_or raws c no_page) last r
      end_is raws f = let x = f.places c h in w (get_or raws c no_page) x.0 (rw place x.1)

      pub end_leads : PagesFiled s p labels pages n → LinkWithin p r.link → (r.link ≡ 0 → ⊥) → Leads s p labels n r.link
      end_leads v within z =
          let some_link : 0 < r.link = omega (arith, z) in
          link_leads v.1 c r.link h (within some_link) ((end_is v.0 v.1).linked some_link)

      module _ (b : Bytes p) where
        pub last_own_key : r.link ≡ 0 → length last ≡ longest_key → (size : ℕ) → (r.size ≤ longest_key → size ≡ r.size)
            → LastSays s p labels pages n i last size
        last_own_key z room size same raws f x q =
            let y = u raws f x q in
            let own : LastIs last r.size y.0.last = (end_is raws f).own (summary deepest (pages_by_digest raws)) y.0 (page_summary f b c h y.0 y.1) z in
            let e : size ≡ r.size = same (omega (arith, own.room)) in
            subst (LastIs last size) y.2 (rw e own)

        pub last_goes_on : (r.link ≡ 0 → ⊥) → (to : ℕ) → LeadsTo s p labels n r.link to → LastSoFar s p labels pages n i to (steps + 1)
        last_goes_on z to leads raws f x q =
            let y = u raws f x q in
            let some_link : 0 < r.link = omega (arith, z) in
            let end = end_is raws f in
            let below = link_below f b c r.link to h (end.linked some_link) leads y.0 y.1 in
            let same = end.below (summary deepest (pages_by_digest raws)) y.0 below.0 (page_summary f b c h y.0 y.1) some_link below.1 in
            (below.0, below.2, sym same ∙ y.2, omega (arith, below.3, y.3))
