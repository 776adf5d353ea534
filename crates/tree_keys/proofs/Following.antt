-- Filed pages: each is found under its digest, and has its summary from those of the pages that it links to.
use Prim.Native.Nat.{ℕ, zero, suc, ◌+◌, ◌^◌, ◌≤◌, ◌<◌}
use mathlib.Core.Path.{◌≡◌, refl, sym, ap, ◌∙◌}
use mathlib.Core.Bool.{true}
use mathlib.Core.Logic.{inl, inr, ⊎_elim}
use mathlib.Core.Option.{some}
use mathlib.Core.List.{List, [], ◌∷◌, ◌++◌, map, append-nil}
use native.Mathlib.Omega.{arith}
use lib.ListN.{length, get_or, drop}
use borrow.Author.Tests.{lt-ltb}
use Rattle.bytestring.specs.Bytes.{Bytes}
use Rattle.bytestring.proofs.Tools.{bytes_drop}
use Rattle.limits.specs.Limits.{deepest}
use Rattle.fips180.specs.Hash.{sha256}
use Rattle.value.specs.Value.{digest_in}
use Rattle.page.specs.Reading.{read}
use Rattle.page.specs.Page.{RawPage, page_bytes, page}
use Rattle.page.proofs.Pages.{page_reads, page_spells}
use Rattle.tree.specs.Judge.{rising}
use Rattle.promises.specs.Map.{find}
use Rattle.promises.specs.Promises.{Among}
use Rattle.promises.proofs.MapLaws.{rising_sorted}
use Rattle.states.specs.Pages.{link_list, links_after}
use Rattle.states.proofs.Filing.{among-split}
use Rattle.states.proofs.Holding.{file_stands}
use Rattle.summaries.specs.Summary.{Summary, summary_of_page, summary}
use Rattle.summaries.proofs.Tallies.{page_summed}
use Rattle.summaries.proofs.Fixed.{summary_page, links_summed}
use Rattle.links.specs.Links.{digest_named, Names}
use Rattle.sequence.specs.Noted.{links_by_place, links_of_all}
use Rattle.filing.specs.Filed.{page_place, no_page, bytes_at, pages_by_digest, Filed}
use Rattle.filing.proofs.Rises.{all_rising}
use Rattle.tree_keys.specs.Ends.{SummaryAt, Leads, LeadsTo}

-- ---- a word that names a digest of the sequence
pub place_named_lem : (s p chains : List ℕ) (w : ℕ) → w < 2 ^ 24 → digest_named s p chains w ≡ digest_in p w
unfolding digest_named
place_named_lem s p chains w h = rw (lt-ltb w (2 ^ 24) h)

-- ---- a page under its digest
bytes_among : (raws : List RawPage) (c : ℕ) → c < length raws → Among (bytes_at raws c) (map page_bytes raws)
bytes_among [] c h = absurd (omega arith)
bytes_among (r ∷ raws) zero h = inl refl
bytes_among (r ∷ raws) (suc c) h = inr (bytes_among raws c (omega arith))

pub among_part : (ps qs : List (List ℕ)) (d : List ℕ) → (Among d ps → Among d (ps ++ qs)) × (Among d qs → Among d (ps ++ qs))
among_part [] qs d = (λ i. absurd i, λ i. i)
among_part (q ∷ ps) qs d = (
  λ i. ⊎_elim (λ e. inl e) (λ j. inr ((among_part ps qs d).0 j)) i,
  λ i. inr ((among_part ps qs d).1 i),
)

-- the links of a page, in the order of their places or from left to right
pub links_order : (raw : RawPage) (d : List ℕ) → Among d (links_by_place raw) → Among d (link_list raw.left ++ links_after raw.entries)
unfolding links_by_place
links_order raw d i =
    among-split (links_after raw.entries) (link_list raw.left) d i
    (λ j. (among_part (link_list raw.left) (links_after raw.entries) d).1 j)
    (λ j. (among_part (link_list raw.left) (links_after raw.entries) d).0 j)

pub order_links : (raw : RawPage) (d : List ℕ) → Among d (link_list raw.left ++ links_after raw.entries) → Among d (links_by_place raw)
unfolding links_by_place
order_links raw d i =
    among-split (link_list raw.left) (links_after raw.entries) d i
    (λ j. (among_part (links_after raw.entries) (link_list raw.left) d).1 j)
    (λ j. (among_part (links_after raw.entries) (link_list raw.left) d).0 j)

links_of_page : (raws : List RawPage) (c : ℕ) (d : List ℕ) → c < length raws → Among d (links_by_place (get_or raws c no_page)) → Among d (links_of_all raws)
unfolding links_of_all
links_of_page [] c d h i = absurd (omega arith)
links_of_page (r ∷ raws) zero d h i = (among_part (links_by_place r) (links_of_all raws) d).0 i
links_of_page (r ∷ raws) (suc c) d h i = (among_part (links_by_place r) (links_of_all raws) d).1 (links_of_page raws c d (omega arith) i)

module _ {s p labels pages : List ℕ} {n : ℕ} {raws : List RawPage} (f : Filed s p labels pages n raws) where
  pub pages_rise : rising (pages_by_digest raws) ≡ true
  pages_rise = all_rising raws (λ i h.
      let l : suc i < n = omega (arith, f.number) in
      rw (← f.digests i (omega arith), ← f.digests (suc i) l) (f.order i l))

  page_found : (c : ℕ) → c < n → find (sha256 (bytes_at raws c)) (pages_by_digest raws) ≡ some (bytes_at raws c)
  page_found c h = file_stands (map page_bytes raws) (rising_sorted (pages_by_digest raws) pages_rise) (bytes_at raws c) (bytes_among raws c (omega (arith, f.number)))

  page_back : Bytes p → (c : ℕ) → c < n → page (bytes_at raws c) ≡ read (get_or raws c no_page) []
  page_back b c h =
      let at = f.places c h in
      let place = page_place (get_or pages c 0) in
      let raw = get_or raws c no_page in
      let good = (page_spells.back (drop place p) (drop at.0 p) raw (bytes_drop place p b) at.1.reads).1 in
      ap page (sym (append-nil (page_bytes raw))) ∙ page_reads raw [] good

  -- a page has its summary from those of its links
  pub page_summary : Bytes p → (c : ℕ) → c < n → (x : Summary) → SummaryAt raws c x
      → summary_of_page (summary deepest (pages_by_digest raws)) (get_or raws c no_page) ≡ some x
  page_summary b c h x q = summary_page (pages_by_digest raws) (sha256 (bytes_at raws c)) (bytes_at raws c) [] (get_or raws c no_page) x q (page_found c h) (page_back b c h)

  pub layer_low : Bytes p → (c : ℕ) → c < n → (x : Summary) → SummaryAt raws c x → x.layer ≤ 128
  layer_low b c h x q = (page_summed (summary deepest (pages_by_digest raws)) (get_or raws c no_page) x (page_summary b c h x q)).sums.low

  -- a link of a page leads to a page
  pub link_leads : (c link : ℕ) → c < n → link + 32 ≤ length p → Among (digest_in p link) (links_by_place (get_or raws c no_page)) → Leads s p labels n link
  link_leads c link h within i = record {
    pages = pages;
    raws = raws;
    filed = f;
    within = within;
    there = f.linked (digest_in p link) (links_of_page raws c (digest_in p link) (omega (arith, f.number)) i);
  }

  -- the page has a summary one layer below
  pub link_below : Bytes p → (c link r : ℕ) → c < n → Among (digest_in p link) (links_by_place (get_or raws c no_page)) → LeadsTo s p labels n link r
      → (x : Summary) → SummaryAt raws c x
      → (y : Summary) × (summary deepest (pages_by_digest raws) (digest_in p link) ≡ some y) × SummaryAt raws r y × (suc y.layer ≡ x.layer)
  link_below b c link r h i to x q =
      let child = summary deepest (pages_by_digest raws) in
      let y = links_summed child (get_or raws c no_page) x (page_summary b c h x q) (digest_in p link) (links_order (get_or raws c no_page) (digest_in p link) i) in
      (y.0, y.1, ap child (to.digest pages raws f) ∙ y.1, y.2)

-- ---- the search for a linked page
module _ {s p labels : List ℕ} {n link : ℕ} (w : Leads s p labels n link) where
  pub link_low : link < 2 ^ 24
  link_low = omega (arith, w.within, w.filed.short)

  pub word_names : Names s p [] link
  word_names =
      let low = link_low in
      record {
        in_second = λ h. w.within;
        in_first = λ h k. absurd (omega arith);
        chain = λ h. absurd (omega arith);
        label = λ h. absurd (omega arith);
        above = λ h. absurd (omega arith);
        in_chain = λ h. absurd (omega arith);
      }

  pub word_there : (i : ℕ) × (i < n) × (digest_named s p [] (get_or labels i 0) ≡ digest_named s p [] link)
  word_there =
      let c = w.there in
      (c.0, c.1, w.filed.digests c.0 c.1 ∙ c.2 ∙ sym (place_named_lem s p [] link link_low))

  pub link_found : (r : ℕ) → r < n → digest_named s p [] (get_or labels r 0) ≡ digest_named s p [] link → LeadsTo s p labels n link r
  link_found r h e = record {
    number = h;
    digest = λ pages raws f. sym (f.digests r h) ∙ e ∙ place_named_lem s p [] link link_low;
  }
