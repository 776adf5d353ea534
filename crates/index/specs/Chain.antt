-- The pages of a register as a row, in table order. The contracts inside the library cite it, and no public contract does.
use Rattle.std.specs.Prelude.{ℕ, suc, ◌+◌, ◌-◌, ◌*◌, ◌≤◌, ◌<◌, ◌≡◌, Bool, true, cond, ◌&&◌, List, [], ◌∷◌, ◌++◌, length, take, drop, get_or, eqb}
use Rattle.std.proofs.Math.Option.{some}
use Rattle.value.specs.Value.{digest_length, digest_in}
use Rattle.bytestring.specs.Bytes.{equal}
use Rattle.fips180.specs.Hash.{sha256}
use Rattle.page.specs.Page.{page_bytes, page as page_reader}
use Rattle.page_reader.specs.Place.{Reads}
use Rattle.tree.specs.Tree.{page, Gap, empty, under, Entries, end, entry, items, items_under}
use Rattle.tree.specs.Record.{Spelt}
use Rattle.tree.specs.Table.{SpeltTree, raw_page, bytes_of_page, table_under}
use Rattle.word.specs.Word.{page_in, link_in, above_in, end_in, from_in, records_in, below_in}

-- A page without entries leads to one page, by its left link. A chain is such pages, each below the one before, and the page with entries
-- that they lead to. It has the digests of the links that lead to its pages, from its first page down, and none for the root; the place
-- where its page with entries begins, and that page with all below it; how many records stand before those under it in key order, how many
-- stand under it, and how many chains stand below it.
pub record Chain : Type 0 where
  pub labels : List (List ℕ)
  pub page : ℕ
  pub here : SpeltTree
  pub from : ℕ
  pub records : ℕ
  pub below : ℕ

-- The bytes of a page without entries whose left link has this digest.
abbrev pub only_link : List ℕ → List ℕ
only_link digest = page_bytes (record { entries = []; left = some digest })

-- A page without entries ends no chain: its labels go on to the page below it.
unfoldable pub labels_on : List (List ℕ) → Entries Spelt (List ℕ) → List (List ℕ)
labels_on labels end = labels
labels_on labels (entry e g es) = []

unfoldable pub chain_if : Entries Spelt (List ℕ) → Chain → List Chain → List Chain
chain_if end c later = later
chain_if (entry e g es) c later = c ∷ later

-- The chains of a tree whose table begins at `at`, after so many records in key order; the labels lead to its first page.
unfoldable mutual
  pub chains : ℕ → ℕ → List (List ℕ) → SpeltTree → List Chain
  chains from at labels (page g es) =
      let t : SpeltTree = page g es in
      let start : ℕ = at + length (bytes_of_page t) in
      let later : List Chain =
      chains_under from start (labels_on labels es) g ++ chains_from (from + length (items_under g)) (start + length (table_under g)) es in
      chain_if es (record { labels = labels; page = at; here = t; from = from; records = length (items t); below = length later }) later

  pub chains_under : ℕ → ℕ → List (List ℕ) → Gap Spelt (List ℕ) → List Chain
  chains_under from at labels empty = []
  chains_under from at labels (under digest p) = chains from at (labels ++ (digest ∷ [])) p

  pub chains_from : ℕ → ℕ → Entries Spelt (List ℕ) → List Chain
  chains_from from at end = []
  chains_from from at (entry e g es) =
      chains_under (from + 1) at [] g ++ chains_from (from + 1 + length (items_under g)) (at + length (table_under g)) es

-- Each label of a chain is the digest of its page.
unfoldable pub labels_right : List (List ℕ) → SpeltTree → Bool
labels_right [] t = true
labels_right (digest ∷ []) t = equal digest (sha256 (bytes_of_page t))
labels_right (digest ∷ (next ∷ more)) t = equal digest (sha256 (only_link next)) && labels_right (next ∷ more) t

unfoldable pub chains_right : List Chain → Bool
chains_right [] = true
chains_right (c ∷ cs) = labels_right c.labels c.here && chains_right cs

-- ---- the row of chains: two words for each
-- The first label stands at `link`, and the first page at `at`: a page without entries has 47 bytes, the last 32 of them the next label. So
-- one comes to the page with entries, at `to`. Link 0 stands for the root, which no link leads to.
unfoldable pub LabelsAt : List ℕ → ℕ → ℕ → List (List ℕ) → ℕ → Type 0
LabelsAt s link at [] to = (link ≡ 0) × (at ≡ to)
LabelsAt s link at (digest ∷ []) to = (0 < link) × (link + digest_length ≤ length s) × (digest_in s link ≡ digest) × (at ≡ to)
LabelsAt s link at (digest ∷ (next ∷ more)) to =
    (0 < link) × (link + digest_length ≤ length s) × (digest_in s link ≡ digest) × (take 47 (drop at s) ≡ only_link next)
    × LabelsAt s (at + 15) (at + 47) (next ∷ more) to

-- The words of a chain.
pub record ChainWords (s : List ℕ) (w v : ℕ) (c : Chain) : Type 0 where
  pub page : page_in w ≡ c.page
  pub above : above_in w ≡ length c.labels - 1
  pub start : 47 * above_in w ≤ c.page
  pub labels : LabelsAt s (link_in w) (c.page - 47 * above_in w) c.labels c.page
  pub reads : Reads page_reader s c.page (raw_page c.here) (end_in v)
  pub ends : end_in v ≡ c.page + length (bytes_of_page c.here)
  pub within : end_in v ≤ length s
  pub bytes : take (end_in v - c.page) (drop c.page s) ≡ bytes_of_page c.here
  pub from : from_in v ≡ c.from
  pub records : records_in v ≡ c.records
  pub below : below_in v ≡ c.below

-- The row holds the words of these chains from the k-th on, as many as it has room for.
unfoldable pub ChainsAt : List ℕ → List ℕ → ℕ → List Chain → Type 0
ChainsAt s row k [] = Unit {0}
ChainsAt s row k (c ∷ cs) =
    (2 * k + 1 < length row → ChainWords s (get_or row (2 * k) 0) (get_or row (2 * k + 1) 0) c) × ChainsAt s row (suc k) cs

-- What stands past the end of a list of chains.
pub no_chain : Chain
no_chain = record { labels = []; page = 0; here = page empty end; from = 0; records = 0; below = 0 }

-- The label that leads to the page with entries ends the page above it, or is the chain's first.
unfoldable pub last_label : ℕ → ℕ
last_label w = cond (eqb (above_in w) 0) (link_in w) (page_in w - digest_length)

-- That label is the digest of the page; the root has none.
pub record PageLabelled (s : List ℕ) (w v : ℕ) : Type 0 where
  pub ahead : page_in w ≤ end_in v
  pub within : end_in v ≤ length s
  pub fits : 0 < link_in w → last_label w + digest_length ≤ length s
  pub digest : 0 < link_in w → digest_in s (last_label w) ≡ sha256 (take (end_in v - page_in w) (drop (page_in w) s))

-- The same of the first n chains of a row.
pub record Labelled (s row : List ℕ) (n : ℕ) : Type 0 where
  pub room : 2 * n ≤ length row
  pub pages : (i : ℕ) → i < n → PageLabelled s (get_or row (2 * i) 0) (get_or row (2 * i + 1) 0)
