-- Filed pages: a page is found under its digest, and its summary is made from those of its links.
use Prim.Native.Nat.{ℕ, zero, suc, ◌<◌}
use mathlib.Core.Path.{◌≡◌, refl, sym, ap, ◌∙◌}
use mathlib.Core.Logic.{inl, inr}
use mathlib.Core.Option.{some}
use mathlib.Core.List.{List, [], ◌∷◌, ◌++◌, map, append-nil}
use native.Mathlib.Omega.{arith}
use lib.ListN.{length, get_or, drop}
use Rattle.bytestring.specs.Bytes.{Bytes}
use Rattle.bytestring.proofs.Tools.{bytes_drop}
use Rattle.limits.specs.Limits.{deepest}
use Rattle.fips180.specs.Hash.{sha256}
use Rattle.page.specs.Reading.{read}
use Rattle.page.specs.Page.{RawPage, page_bytes, page}
use Rattle.page.proofs.Pages.{page_reads, page_spells}
use Rattle.promises.specs.Map.{find}
use Rattle.promises.specs.Promises.{Among}
use Rattle.promises.proofs.MapLaws.{rising_sorted}
use Rattle.promises.proofs.DifferenceLaws.{among_left, among_right}
use Rattle.states.specs.Pages.{sequence, link_list, links_after, links_of_read}
use Rattle.states.proofs.Holding.{file_stands}
use Rattle.summaries.specs.Summary.{summary_of_page, summary_of_read, summary_of_found, summary, ReachedIn, ReachedFrom}
use Rattle.summaries.proofs.Fixed.{summary_fixed}
use Rattle.sequence.specs.Noted.{links_by_place, links_of_all}
use Rattle.filing.specs.Filed.{page_place, no_page, bytes_at, pages_by_digest, Filed}
use Rattle.tree_keys.proofs.Following.{pages_rise, order_links}
use Rattle.summing.specs.Inner.{raws_of, raws_in}

-- ---- the pages that a sequence reads as
pub raws_are : (p : List ℕ) (raws : List RawPage) → sequence p ≡ read raws [] → raws ≡ raws_in p
unfolding raws_of
raws_are p raws h = sym (ap raws_of h)

bytes_among : (raws : List RawPage) (c : ℕ) → c < length raws → Among (bytes_at raws c) (map page_bytes raws)
bytes_among [] c h = absurd (omega arith)
bytes_among (r ∷ raws) zero h = inl refl
bytes_among (r ∷ raws) (suc c) h = inr (bytes_among raws c (omega arith))

links_of_page : (raws : List RawPage) (c : ℕ) (d : List ℕ) → c < length raws → Among d (links_by_place (get_or raws c no_page)) → Among d (links_of_all raws)
unfolding links_of_all
links_of_page [] c d h i = absurd (omega arith)
links_of_page (r ∷ raws) zero d h i = among_left (links_by_place r) (links_of_all raws) d i
links_of_page (r ∷ raws) (suc c) d h i = among_right (links_by_place r) (links_of_all raws) d (links_of_page raws c d (omega arith) i)

module _ {s p labels pages : List ℕ} {n : ℕ} {raws : List RawPage} (f : Filed s p labels pages n raws) where
  pub page_found : (c : ℕ) → c < n → find (sha256 (bytes_at raws c)) (pages_by_digest raws) ≡ some (bytes_at raws c)
  page_found c h =
      file_stands (map page_bytes raws) (rising_sorted (pages_by_digest raws) (pages_rise f)) (bytes_at raws c) (bytes_among raws c (omega (arith, f.number)))

  pub page_back : Bytes p → (c : ℕ) → c < n → page (bytes_at raws c) ≡ read (get_or raws c no_page) []
  page_back b c h =
      let at = f.places c h in
      let place : ℕ = page_place (get_or pages c 0) in
      let raw : RawPage = get_or raws c no_page in
      let good = (page_spells.back (drop place p) (drop at.0 p) raw (bytes_drop place p b) at.1.reads).1 in
      ap page (sym (append-nil (page_bytes raw))) ∙ page_reads raw [] good

  pub summary_is : Bytes p → (c : ℕ) → c < n
      → summary deepest (pages_by_digest raws) (sha256 (bytes_at raws c)) ≡ summary_of_page (summary deepest (pages_by_digest raws)) (get_or raws c no_page)
  unfolding summary_of_found summary_of_read
  summary_is b c h = summary_fixed (pages_by_digest raws) (sha256 (bytes_at raws c)) ∙ rw (page_found c h, page_back b c h)

  -- each link of a page leads to a page
  pub links_lead : (c : ℕ) → c < n → (d : List ℕ) → Among d (link_list (get_or raws c no_page).left ++ links_after (get_or raws c no_page).entries)
      → (i : ℕ) × (i < n) × (sha256 (bytes_at raws i) ≡ d)
  links_lead c h d i = f.linked d (links_of_page raws c d (omega (arith, f.number)) (order_links (get_or raws c no_page) d i))

  -- a page is reached from its digest, and so is what is reached from its links
  pub reached_here : (c : ℕ) → c < n → ReachedFrom (pages_by_digest raws) (sha256 (bytes_at raws c)) (bytes_at raws c)
  unfolding ReachedIn
  reached_here c h = (1, (bytes_at raws c, page_found c h, inl refl))

  pub reached_on : Bytes p → (c : ℕ) → c < n → (d q : List ℕ) → Among d (link_list (get_or raws c no_page).left ++ links_after (get_or raws c no_page).entries)
      → ReachedFrom (pages_by_digest raws) d q → ReachedFrom (pages_by_digest raws) (sha256 (bytes_at raws c)) q
  unfolding ReachedIn links_of_read
  reached_on b c h d q i (m, r) = (suc m, (bytes_at raws c, page_found c h, inr (d, rw (page_back b c h) i, r)))
