-- The first key of a tree, along left links.
use Prim.Native.Nat.{ℕ, ◌+◌, ◌≤◌, ◌<◌}
use mathlib.Core.Path.{◌≡◌, refl, sym, ap, ◌∙◌}
use mathlib.Core.Logic.{inl}
use mathlib.Core.Option.{none, some}
use mathlib.Core.List.{List, [], ◌∷◌}
use native.Mathlib.Omega.{arith}
use lib.ListN.{length, take, drop, get_or}
use Rattle.bytestring.specs.Bytes.{Bytes}
use Rattle.limits.specs.Limits.{deepest}
use Rattle.value.specs.Value.{digest_in}
use Rattle.page.specs.Page.{RawEntry, RawPage, page}
use Rattle.page.proofs.Readers.{read_sub}
use Rattle.page_reader.specs.Place.{Reads, link_at}
use Rattle.states.specs.Pages.{link_list}
use Rattle.promises.specs.Promises.{Among}
use Rattle.summaries.specs.Summary.{Summary, summary_of_page, summary}
use Rattle.summaries.proofs.Fixed.{first_left, first_key}
use Rattle.sequence.specs.Noted.{links_by_place}
use Rattle.filing.specs.Filed.{page_place, no_page, pages_by_digest, Filed}
use Rattle.tree_keys.specs.Ends.{SummaryAt, PagesFiled, InRow, PagesInRow, Leads, LeadsTo, FirstSays}
use Rattle.tree_keys.specs.Inner.{place_after, PageFirst, LinkWithin, LeftIs, SameFirst}
use Rattle.tree_keys.specs.declared.KeyAt.{KeyAt}
use Rattle.tree_keys.proofs.Following.{order_links, page_summary, layer_low, link_leads, link_below}
use Rattle.tree_keys.proofs.Firsts.{nowhere, link_is, no_link_lem, no_summary}
use Rattle.tree_keys.proofs.Rows.{row_reads}

-- ---- the left link of the c-th page
pub record LeftOf (s p labels pages : List ℕ) (n c left : ℕ) : Type 0 where
  pub within : LinkWithin p left
  pub link : (raws : List RawPage) → Filed s p labels pages n raws → link_at p left ≡ (get_or raws c no_page).left

module _ (s p labels pages : List ℕ) (n c : ℕ) (h : c < n) (b : Bytes p) (at : ℕ) (place : at ≡ page_place (get_or pages c 0)) (left : ℕ) where
  pub left_by_reading : ((end : ℕ) → LeftIs p at end left) → LeftOf s p labels pages n c left
  left_by_reading l = record {
    within = (l 0).within;
    link = λ raws f. let x = f.places c h in (l x.0).link b (get_or raws c no_page) (rw place x.1);
  }

module _ {s p labels pages : List ℕ} {n : ℕ} (w : PagesInRow s p labels pages n) (c : ℕ) (h : c < n) (b : Bytes p)
    (at : ℕ) (place : at ≡ page_place (get_or pages c 0)) (end : ℕ) (after : end ≡ place_after p pages n c) where
  -- the pages of a sequence are determined
  ends_there : (raws : List RawPage) → Filed s p labels pages n raws → Reads page p at (get_or raws c no_page) end
  ends_there raws f =
      let row = read_sub (λ (l : List RawPage) _. InRow pages n l) (sym w.1.reads ∙ f.reads) w.2 in
      rw (place, after) (row_reads b f row c h)

  pub page_between : (at ≤ end) × (end ≤ length p)
  page_between = let r = ends_there w.0 w.1 in (omega (arith, r.ahead), r.within)

  pub left_by_end : (left : ℕ) → LeftIs p at end left → LeftOf s p labels pages n c left
  left_by_end left l = record { within = l.within; link = λ raws f. l.link b (get_or raws c no_page) (ends_there raws f) }

-- ---- the way down
-- The tree under the page c has the first key of the tree under the page i.
abbrev pub FirstSoFar : List ℕ → List ℕ → List ℕ → List ℕ → ℕ → ℕ → ℕ → ℕ → Type 0
FirstSoFar s p labels pages n i c steps = (raws : List RawPage) → Filed s p labels pages n raws → SameFirst raws i c steps

module _ (s p labels pages : List ℕ) (n i : ℕ) where
  pub first_begins : Bytes p → i < n → FirstSoFar s p labels pages n i i 0
  first_begins b h raws f x q = (x, q, refl, omega (arith, layer_low f b i h x q))

  module _ (c steps : ℕ) (u : FirstSoFar s p labels pages n i c steps) where
    pub first_too_deep : deepest ≤ steps → FirstSays s p labels pages n i nowhere
    first_too_deep h = record {
      within = omega arith;
      first = λ raws f x q. let y = u raws f x q in absurd (omega (arith, y.3));
    }

    module _ (h : c < n) (b : Bytes p) (left : ℕ) (l : LeftOf s p labels pages n c left) where
      -- no left link: the key is the page's own
      module _ (z : left ≡ 0) (at : ℕ) (place : at ≡ page_place (get_or pages c 0)) (k : KeyAt) (o : PageFirst p at k) where
        none_left : (raws : List RawPage) → Filed s p labels pages n raws → (get_or raws c no_page).left ≡ none
        none_left raws f = sym (l.link raws f) ∙ no_link_lem p left z

        own_key : (raws : List RawPage) → Filed s p labels pages n raws → (y : Summary) → SummaryAt raws c y
            → (es : List RawEntry) → (get_or raws c no_page).entries ≡ es → take k.size (drop k.place p) ≡ y.first
        own_key raws f y v [] e =
            let child = summary deepest (pages_by_digest raws) in
            let bare : get_or raws c no_page ≡ no_page = λ j. record { entries = e j; left = none_left raws f j } in
            absurd (no_summary child y (ap (summary_of_page child) (sym bare) ∙ page_summary f b c h y v))
        own_key raws f y v (a ∷ es) e =
            let x = f.places c h in
            o.remainder (get_or raws c no_page) x.0 (rw place x.1) a es e
            ∙ sym (first_key (summary deepest (pages_by_digest raws)) (get_or raws c no_page) y (page_summary f b c h y v) a es (none_left raws f) e)

        pub first_own : FirstSays s p labels pages n i k
        first_own = record {
          within = o.within;
          first = λ raws f x v. let y = u raws f x v in own_key raws f y.0 y.1 (get_or raws c no_page).entries refl ∙ y.2;
        }

      module _ (some_left : left ≡ 0 → ⊥) where
        left_among : (raws : List RawPage) → Filed s p labels pages n raws → Among (digest_in p left) (links_by_place (get_or raws c no_page))
        unfolding link_list
        left_among raws f = order_links (get_or raws c no_page) (digest_in p left) (rw (← l.link raws f, link_is p left some_left) (inl refl))

        pub left_leads : PagesFiled s p labels pages n → Leads s p labels n left
        left_leads w = link_leads w.1 c left h (l.within (omega (arith, some_left))) (left_among w.0 w.1)

        pub first_goes_on : (r : ℕ) → LeadsTo s p labels n left r → FirstSoFar s p labels pages n i r (steps + 1)
        first_goes_on r to raws f x v =
            let y = u raws f x v in
            let below = link_below f b c left r h (left_among raws f) to y.0 y.1 in
            let child = summary deepest (pages_by_digest raws) in
            let linked : (get_or raws c no_page).left ≡ some (digest_in p left) = sym (l.link raws f) ∙ link_is p left some_left in
            let same = first_left child (get_or raws c no_page) y.0 (page_summary f b c h y.0 y.1) (digest_in p left) below.0 linked below.1 in
            (below.0, below.2, sym same ∙ y.2, omega (arith, below.3, y.3))
