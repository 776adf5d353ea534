-- Filed pages whose trees are summed, each page once.
use Rattle.std.specs.Prelude.{ℕ, suc, ◌/◌, ◌%◌, ◌^◌, ◌≤◌, ◌<◌, ◌≡◌, Bool, true, false, List, length, get_or}
use Rattle.limits.specs.Limits.{deepest}
use Rattle.fips180.specs.Hash.{sha256}
use Rattle.page.specs.Page.{RawPage}
use Rattle.promises.specs.Promises.{Among}
use Rattle.summaries.specs.Summary.{Summary, is_root, ReachedFrom}
use Rattle.sequence.specs.Noted.{links_by_place}
use Rattle.filing.specs.Filed.{no_page, bytes_at, pages_by_digest, Filed}
use Rattle.tree_keys.specs.Ends.{SummaryAt}

-- Above a page's place its word has a note: 0 where the page was not reached, its layer plus 1 where its tree is summed, and 130 for the
-- empty page as a root. Above the note stands the mark that the page was reached with.
abbrev pub page_note : ℕ → ℕ
page_note w = w / 2 ^ 22 % 2 ^ 8

abbrev pub page_mark : ℕ → ℕ
page_mark w = w / 2 ^ 30

abbrev pub note_at : List ℕ → ℕ → ℕ
note_at pages i = page_note (get_or pages i 0)

-- The notes are right: so are the counts of records beside them; and with a page all that it links to was reached.
pub record Summings (s p labels pages counts : List ℕ) (n : ℕ) (raws : List RawPage) : Type 0 where
  pub filed : Filed s p labels pages n raws
  pub room : n ≤ length counts
  pub summed : (i : ℕ) → i < n → 1 ≤ note_at pages i → note_at pages i ≤ deepest
      → (x : Summary) × SummaryAt raws i x × (suc x.layer ≡ note_at pages i) × (x.count ≡ get_or counts i 0)
  pub alone : (i : ℕ) → i < n → deepest < note_at pages i → get_or raws i no_page ≡ no_page
  pub closed : (i : ℕ) → i < n → 1 ≤ note_at pages i → (digest : List ℕ) → Among digest (links_by_place (get_or raws i no_page))
      → (c : ℕ) × (c < n) × (sha256 (bytes_at raws c) ≡ digest) × (1 ≤ note_at pages c)

-- From one state of the words to a later one: what was reached stays; what is reached newly has the mark, and is reached from a digest.
pub record Reaching (raws : List RawPage) (n mark : ℕ) (digest pages counts pages' counts' : List ℕ) : Type 0 where
  pub stays : (i : ℕ) → i < n → 1 ≤ note_at pages i → (get_or pages' i 0 ≡ get_or pages i 0) × (get_or counts' i 0 ≡ get_or counts i 0)
  pub fresh : (i : ℕ) → i < n → note_at pages i ≡ 0 → 1 ≤ note_at pages' i
      → (page_mark (get_or pages' i 0) ≡ mark) × ReachedFrom (pages_by_digest raws) digest (bytes_at raws i)

-- Whether the tree under the i-th page has a summary of a layer.
abbrev pub TreeSays : List ℕ → List ℕ → List ℕ → List ℕ → List ℕ → ℕ → ℕ → ℕ → ℕ → Bool → List ℕ → List ℕ → Type 0
TreeSays s p labels pages counts n i layer mark true pages' counts' =
    (raws : List RawPage) → Summings s p labels pages counts n raws
    → Summings s p labels pages' counts' n raws × Reaching raws n mark (sha256 (bytes_at raws i)) pages counts pages' counts' × (note_at pages' i ≡ suc layer)
TreeSays s p labels pages counts n i layer mark false pages' counts' =
    (raws : List RawPage) → Summings s p labels pages counts n raws → (x : Summary) → SummaryAt raws i x → x.layer ≡ layer → ⊥

-- Whether the i-th page is the root of an accepted register.
abbrev pub RootSays : List ℕ → List ℕ → List ℕ → List ℕ → List ℕ → ℕ → ℕ → ℕ → Bool → List ℕ → List ℕ → Type 0
RootSays s p labels pages counts n i mark true pages' counts' =
    (raws : List RawPage) → Summings s p labels pages counts n raws
    → (is_root (pages_by_digest raws) (sha256 (bytes_at raws i)) ≡ true)
    × Summings s p labels pages' counts' n raws × Reaching raws n mark (sha256 (bytes_at raws i)) pages counts pages' counts' × (1 ≤ note_at pages' i)
RootSays s p labels pages counts n i mark false pages' counts' =
    (raws : List RawPage) → Summings s p labels pages counts n raws → is_root (pages_by_digest raws) (sha256 (bytes_at raws i)) ≡ false
