-- Pages by their places, and the digests that words name.
use Prim.Native.Nat.{ℕ, zero, suc, ◌+◌, ◌-◌, ◌^◌, ◌≤◌, ◌<◌}
use mathlib.Core.Path.{◌≡◌, sym, ap, subst}
use mathlib.Core.List.{List, [], ◌∷◌}
use native.Mathlib.Omega.{arith}
use native.Mathlib.Nat.{add-zero}
use lib.ListN.{length, take, drop, get_or}
use borrow.Author.Tests.{lt-ltb, le-ltb}
use Rattle.bytestring.specs.Bytes.{Bytes}
use Rattle.fips180.specs.Hash.{sha256}
use Rattle.value.specs.Value.{digest_in}
use Rattle.page.specs.Page.{RawPage, page}
use Rattle.page.proofs.Pages.{page_spells}
use Rattle.page_reader.specs.Place.{Reads}
use Rattle.page_reader.proofs.Spelling.{reads_part}
use Rattle.links.specs.Links.{from_first, from_chains, digest_named}
use Rattle.sequence.specs.Noted.{PagesFrom}
use Rattle.filing.specs.Filed.{no_page, bytes_at, link_named}
use Rattle.filing.specs.Inner.{StandingPages, page_end}

-- ---- the digest that a word names
pub named_in_pages : (s p : List ℕ) (w : ℕ) → w < 2 ^ 24 → digest_in p w ≡ link_named s p w
unfolding digest_named
named_in_pages s p w h = rw (lt-ltb w from_first h)

pub named_in_states : (s p : List ℕ) (w : ℕ) → 2 ^ 24 ≤ w → w < 2 ^ 25 → digest_in s (w - 2 ^ 24) ≡ link_named s p w
unfolding digest_named
named_in_states s p w h k = rw (le-ltb w from_first h, lt-ltb w from_chains k)

-- ---- where a page ends
pub next_begins : (p pages : List ℕ) (n i : ℕ) → i + 1 < n → get_or pages (i + 1) 0 ≡ page_end p pages n i
unfolding page_end
next_begins p pages n i h =
    let e : i + 1 ≡ suc i = omega arith in
    let k : suc i < n = omega arith in
    rw (lt-ltb (suc i) n k, e)

pub none_next : (p pages : List ℕ) (n i : ℕ) → n ≤ i + 1 → length p ≡ page_end p pages n i
unfolding page_end
none_next p pages n i h =
    let k : n ≤ suc i = omega arith in
    rw (le-ltb (suc i) n k)

module _ (p pages : List ℕ) (n : ℕ) where
  first_ends : (k to : ℕ) (raws : List RawPage) → PagesFrom p pages (suc k) to raws → n ≡ suc k + length raws → to ≡ page_end p pages n k
  unfolding PagesFrom page_end
  first_ends k to [] h e = let l : n ≤ suc k = omega arith in rw (le-ltb (suc k) n l) h
  first_ends k to (r ∷ raws) h e = let l : suc k < n = omega arith in rw (lt-ltb (suc k) n l) (sym h.0)

  pages_stand : (k at : ℕ) (raws : List RawPage) → PagesFrom p pages k at raws → n ≡ k + length raws
      → (i : ℕ) → i < length raws → Reads page p (get_or pages (k + i) 0) (get_or raws i no_page) (page_end p pages n (k + i))
  unfolding PagesFrom
  pages_stand k at [] h e i l = absurd (omega arith)
  pages_stand k at (r ∷ raws) h e zero l =
      let ends : h.1.0 ≡ page_end p pages n k = first_ends k h.1.0 raws h.1.2 (omega arith) in
      rw (add-zero k, ← ends, h.0) h.1.1
  pages_stand k at (r ∷ raws) h e (suc i) l =
      let m : k + suc i ≡ suc k + i = omega arith in
      rw m (pages_stand (suc k) h.1.0 raws h.1.2 (omega arith) i (omega arith))

module _ {p pages : List ℕ} {n : ℕ} (g : StandingPages p pages n) (i : ℕ) (h : i < n) where
  pub page_read_at : Reads page p (get_or pages i 0) (get_or g.raws i no_page) (page_end p pages n i)
  page_read_at =
      let e : 0 + i ≡ i = omega arith in
      subst (λ (k : ℕ). Reads page p (get_or pages k 0) (get_or g.raws i no_page) (page_end p pages n k)) e
      (pages_stand p pages n 0 0 g.raws g.places (omega (arith, g.number)) i (omega (arith, g.number)))

  pub page_digest : Bytes p → (at end : ℕ) → at ≡ get_or pages i 0 → end ≡ page_end p pages n i
      → sha256 (take (end - at) (drop at p)) ≡ sha256 (bytes_at g.raws i)
  page_digest b at end e f = rw (e, f) (ap sha256 (sym (reads_part page_spells b page_read_at)))
