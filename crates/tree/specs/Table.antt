-- The page table: the bytes of a tree, and reading it.
use Rattle.std.specs.Prelude.{ℕ, zero, suc, List, [], ◌∷◌, ◌++◌, map}
use Rattle.std.proofs.Math.Option.{Option, none, some}
use Rattle.fips180.specs.Hash.{sha256}
use Rattle.page.specs.Reading.{read, ends_early, departs, Reader, and_then, ◌>>=◌, pure}
use Rattle.page.specs.Page.{RawEntry, RawPage, page_bytes, page as page_at}
use Rattle.tree.specs.Tree.{Page, page, Gap, empty, under, Entries, end, entry, tree_of}
use Rattle.tree.specs.Record.{Record, Spelt, spelt, placed}

-- A tree whose links carry the digests that stand in them.
abbrev pub SpeltTree : Type 0
SpeltTree = Page Spelt (List ℕ)

-- One page of a tree as its bytes have it: its entries and its links.
unfoldable pub link_of : Gap Spelt (List ℕ) → Option (List ℕ)
link_of empty = none
link_of (under digest p) = some digest

unfoldable pub raw_entries : Entries Spelt (List ℕ) → List RawEntry
raw_entries end = []
raw_entries (entry e g es) = record { shares = e.shares; remainder = e.remainder; after = link_of g; val = e.val } ∷ raw_entries es

unfoldable pub raw_page : SpeltTree → RawPage
raw_page (page g es) = record { entries = raw_entries es; left = link_of g }

unfoldable pub bytes_of_page : SpeltTree → List ℕ
bytes_of_page t = page_bytes (raw_page t)

-- The page table is the sequence of all pages: a page, then its left subtree, then the subtree after each entry in turn.
unfoldable mutual
  pub table : SpeltTree → List ℕ
  table (page g es) = bytes_of_page (page g es) ++ (table_under g ++ table_from es)

  pub table_under : Gap Spelt (List ℕ) → List ℕ
  table_under empty = []
  table_under (under digest p) = table p

  pub table_from : Entries Spelt (List ℕ) → List ℕ
  table_from end = []
  table_from (entry e g es) = table_under g ++ table_from es

-- A page link's digest is SHA-256 of the linked page's bytes.
unfoldable pub digest_of : Page Record (List ℕ) → List ℕ
digest_of p = sha256 (bytes_of_page (spelt p))

-- The tree that the rules give for a set of records in key order, and its table.
unfoldable pub tree_of_set : List Record → Page Record (List ℕ)
tree_of_set rs = tree_of digest_of (map placed rs)

unfoldable pub table_of : List Record → List ℕ
table_of rs = table (spelt (tree_of_set rs))

-- Reading a table. A gap with a link calls for a page, and each entry in turn for the page of the gap after it.
unfoldable pub read_under : Reader SpeltTree → Option (List ℕ) → Reader (Gap Spelt (List ℕ))
read_under tree none = pure empty
read_under tree (some digest) = do
  p ← tree
  pure (under digest p)

unfoldable pub read_from : Reader SpeltTree → List RawEntry → Reader (Entries Spelt (List ℕ))
read_from tree [] = pure end
read_from tree (e ∷ es) = do
  g ← read_under tree e.after
  more ← read_from tree es
  pure (entry (record { shares = e.shares; remainder = e.remainder; val = e.val }) g more)

-- A page is read whole, then its left subtree, then the subtree after each entry. At most `depth` pages follow one another by links; the
-- first byte of a deeper page departs, and input that ends there has ended early.
unfoldable pub read_tree : ℕ → Reader SpeltTree
read_tree zero [] = ends_early
read_tree zero (b ∷ s) = departs
read_tree (suc depth) s =
    and_then (page_at s) (λ p s₁.
    and_then (read_under (read_tree depth) p.left s₁) (λ g s₂.
    and_then (read_from (read_tree depth) p.entries s₂) (λ es s₃. read (page g es) s₃)))
