-- The first and the last key of the tree under a filed page.
use Rattle.std.specs.Prelude.{ℕ, zero, suc, ◌+◌, ◌*◌, ◌/◌, ◌%◌, ◌≤◌, ◌<◌, ◌≡◌, List, [], ◌∷◌, length, take, drop, get_or}
use Rattle.std.proofs.Math.Option.{some}
use Rattle.limits.specs.Limits.{deepest, longest_key}
use Rattle.value.specs.Value.{digest_length, digest_in}
use Rattle.fips180.specs.Hash.{sha256}
use Rattle.page.specs.Page.{RawPage, page_bytes}
use Rattle.page_keys.specs.Buffer.{LastIs}
use Rattle.summaries.specs.Summary.{Summary, summary}
use Rattle.filing.specs.Filed.{page_place, bytes_at, pages_by_digest, Filed}
use Rattle.tree_keys.specs.declared.KeyAt.{KeyAt}

-- The tree under the i-th page has a summary.
abbrev pub SummaryAt : List RawPage → ℕ → Summary → Type 0
SummaryAt raws i x = summary deepest (pages_by_digest raws) (sha256 (bytes_at raws i)) ≡ some x

-- Pages are filed.
abbrev pub PagesFiled : List ℕ → List ℕ → List ℕ → List ℕ → ℕ → Type 0
PagesFiled s p labels pages n = (raws : List RawPage) × Filed s p labels pages n raws

-- They stand in a row from the first byte of p on: each begins where the one before it ends.
unfoldable pub row_place : List RawPage → ℕ → ℕ
row_place raws zero = 0
row_place [] (suc i) = 0
row_place (raw ∷ raws) (suc i) = length (page_bytes raw) + row_place raws i

abbrev pub InRow : List ℕ → ℕ → List RawPage → Type 0
InRow pages n raws = (i : ℕ) → i < n → page_place (get_or pages i 0) ≡ row_place raws i

abbrev pub PagesInRow : List ℕ → List ℕ → List ℕ → List ℕ → ℕ → Type 0
PagesInRow s p labels pages n = (raws : List RawPage) × Filed s p labels pages n raws × InRow pages n raws

-- Among filed pages is one whose digest stands at the place of a link.
pub record Leads (s p labels : List ℕ) (n link : ℕ) : Type 0 where
  pub pages : List ℕ
  pub raws : List RawPage
  pub filed : Filed s p labels pages n raws
  pub within : link + digest_length ≤ length p
  pub there : (c : ℕ) × (c < n) × (sha256 (bytes_at raws c) ≡ digest_in p link)

-- The r-th page is the one.
pub record LeadsTo (s p labels : List ℕ) (n link r : ℕ) : Type 0 where
  pub number : r < n
  pub digest : (pages : List ℕ) (raws : List RawPage) → Filed s p labels pages n raws → sha256 (bytes_at raws r) ≡ digest_in p link

-- A key stands in the sequence p where it says; where the tree under the i-th page has a summary, it is the first key of the tree.
pub record FirstSays (s p labels pages : List ℕ) (n i : ℕ) (k : KeyAt) : Type 0 where
  pub within : k.place + k.size ≤ length p
  pub first : (raws : List RawPage) → Filed s p labels pages n raws → (x : Summary) → SummaryAt raws i x → take k.size (drop k.place p) ≡ x.first

-- The last key, in its buffer.
abbrev pub LastSays : List ℕ → List ℕ → List ℕ → List ℕ → ℕ → ℕ → List ℕ → ℕ → Type 0
LastSays s p labels pages n i last size =
    (raws : List RawPage) → Filed s p labels pages n raws → (x : Summary) → SummaryAt raws i x → LastIs last size x.last

-- Keys that are kept: the k-th of 256 bytes each. A tag is 512 times the number of its page, counted from 1, plus the key's length. A tag
-- below 512 has no page: none is kept there, or it is the last tag, which says in whose place the next key is kept.
abbrev pub tag_page : ℕ → ℕ
tag_page tag = tag / 512

abbrev pub tag_size : ℕ → ℕ
tag_size tag = tag % 512

pub record KeptKeys (raws : List RawPage) (n : ℕ) (keys tags : List ℕ) : Type 0 where
  pub room : longest_key * length tags ≤ length keys
  pub size : (k : ℕ) → k < length tags → tag_size (get_or tags k 0) ≤ longest_key
  pub right : (k i : ℕ) → k < length tags → tag_page (get_or tags k 0) ≡ 1 + i → (i < n) × ((x : Summary) → SummaryAt raws i x
      → take (tag_size (get_or tags k 0)) (drop (longest_key * k) keys) ≡ x.last)
