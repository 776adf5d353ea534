-- Pages filed under their digests: each page of a sequence has a label, a word that names its digest.
use Rattle.std.specs.Prelude.{ℕ, suc, ◌%◌, ◌^◌, ◌≤◌, ◌<◌, ◌≡◌, Bool, true, false, List, [], map, length, get_or}
use Rattle.std.proofs.Math.Option.{none}
use Rattle.limits.specs.Limits.{longest}
use Rattle.fips180.specs.Hash.{sha256}
use Rattle.key.specs.Key.{less}
use Rattle.page.specs.Reading.{read}
use Rattle.page.specs.Page.{RawPage, page_bytes, page}
use Rattle.page_reader.specs.Place.{Reads}
use Rattle.tree.specs.Record.{Record}
use Rattle.tree.specs.Judge.{rising}
use Rattle.promises.specs.Promises.{Among}
use Rattle.states.specs.Pages.{sequence, by_digest}
use Rattle.links.specs.Links.{digest_named, AllName, Rising}
use Rattle.sequence.specs.Noted.{links_of_all, PagesFrom}

-- The word of a page holds its place below 2^22.
abbrev pub page_place : ℕ → ℕ
page_place w = w % 2 ^ 22

abbrev pub no_page : RawPage
no_page = record { entries = []; left = none }

-- The bytes of the i-th page, and its digest.
abbrev pub bytes_at : List RawPage → ℕ → List ℕ
bytes_at raws i = page_bytes (get_or raws i no_page)

abbrev pub pages_by_digest : List RawPage → List Record
pages_by_digest raws = map by_digest (map page_bytes raws)

-- The digest that a word names in the states or in the pages.
abbrev pub link_named : List ℕ → List ℕ → ℕ → List ℕ
link_named s p w = digest_named s p [] w

-- The pages of a sequence p by their words, and so many words of links in order of digest, among them all links of the pages.
pub record Staged (s p words : List ℕ) (total : ℕ) (pages : List ℕ) (n : ℕ) : Type 0 where
  pub raws : List RawPage
  pub reads : sequence p ≡ read raws []
  pub number : length raws ≡ n
  pub places : PagesFrom p pages 0 0 raws
  pub short : length p ≤ longest
  pub room : total ≤ length words
  pub page_room : n ≤ length pages
  pub names : AllName s p [] words total
  pub order : (k : ℕ) → suc k < total → less (link_named s p (get_or words (suc k) 0)) (link_named s p (get_or words k 0)) ≡ false
  pub links : (digest : List ℕ) → Among digest (links_of_all raws) → (k : ℕ) × (k < total) × (link_named s p (get_or words k 0) ≡ digest)

-- Digests rise from page to page, each word names the digest of a page, and each page's digest is named.
pub record Matched (s p words : List ℕ) (total : ℕ) (raws : List RawPage) : Type 0 where
  pub rise : rising (pages_by_digest raws) ≡ true
  pub present : (k : ℕ) → k < total → (i : ℕ) × (i < length raws) × (sha256 (bytes_at raws i) ≡ link_named s p (get_or words k 0))
  pub linked : (i : ℕ) → i < length raws → (k : ℕ) × (k < total) × (link_named s p (get_or words k 0) ≡ sha256 (bytes_at raws i))

-- Each page with its label. The labels' digests rise, so that a digest is found by halves; each link of a page leads to a page.
pub record Filed (s p labels pages : List ℕ) (n : ℕ) (raws : List RawPage) : Type 0 where
  pub reads : sequence p ≡ read raws []
  pub number : length raws ≡ n
  pub short : length p ≤ longest
  pub room : n ≤ length labels
  pub page_room : n ≤ length pages
  pub places : (i : ℕ) → i < n → (to : ℕ) × Reads page p (page_place (get_or pages i 0)) (get_or raws i no_page) to
  pub names : AllName s p [] labels n
  pub digests : (i : ℕ) → i < n → link_named s p (get_or labels i 0) ≡ sha256 (bytes_at raws i)
  pub order : Rising (link_named s p) labels n
  pub linked : (digest : List ℕ) → Among digest (links_of_all raws) → (i : ℕ) × (i < n) × (sha256 (bytes_at raws i) ≡ digest)

-- What filing says: the pages are filed and every word names the digest of a page, or words and pages do not match.
pub record FiledAll (s p words : List ℕ) (total : ℕ) (labels pages : List ℕ) (n : ℕ) (raws : List RawPage) : Type 0 where
  pub filed : Filed s p labels pages n raws
  pub rise : rising (pages_by_digest raws) ≡ true
  pub all : (k : ℕ) → k < total → (i : ℕ) × (i < n) × (sha256 (bytes_at raws i) ≡ link_named s p (get_or words k 0))

abbrev pub FilingSays : List ℕ → List ℕ → List ℕ → ℕ → List ℕ → ℕ → List RawPage → Bool → List ℕ → Type 0
FilingSays s p words total pages n raws true labels = FiledAll s p words total labels pages n raws
FilingSays s p words total pages n raws false labels = Matched s p words total raws → ⊥
