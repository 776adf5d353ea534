-- The pages of a register: those that another register knows, those that are opened, and the records in them.
use Rattle.std.specs.Prelude.{ℕ, Bool, true, false, cond, not, ◌&&◌, ◌||◌, List, [], ◌∷◌, ◌++◌}
use Rattle.bytestring.specs.Bytes.{equal}
use Rattle.fips180.specs.Hash.{sha256}
use Rattle.tree.specs.Tree.{page, Gap, empty, under, Entries, end, entry}
use Rattle.tree.specs.Record.{Record, Spelt}
use Rattle.tree.specs.Table.{SpeltTree, raw_page, bytes_of_page}
use Rattle.tree.specs.OnePage.{records_in}
use Rattle.promises.specs.Map.{put}

-- The bytes of a register's pages, in table order.
unfoldable mutual
  pub pages_of : SpeltTree → List (List ℕ)
  pages_of (page g es) = bytes_of_page (page g es) ∷ (pages_of_gap g ++ pages_of_entries es)

  pub pages_of_gap : Gap Spelt (List ℕ) → List (List ℕ)
  pages_of_gap empty = []
  pages_of_gap (under digest p) = pages_of p

  pub pages_of_entries : Entries Spelt (List ℕ) → List (List ℕ)
  pages_of_entries end = []
  pages_of_entries (entry e g es) = pages_of_gap g ++ pages_of_entries es

-- A page of the second is known when its digest is that of some page of the first; `first` is the first's pages.
unfoldable pub known : List (List ℕ) → List ℕ → Bool
known [] p = false
known (q ∷ qs) p = equal (sha256 p) (sha256 q) || known qs p

-- A page in its tree: the page with all that is under it, and the pages above it, the nearest first.
pub record PageInTree : Type 0 where
  pub here : SpeltTree
  pub above : List SpeltTree

-- All pages of a tree, in table order; `above` are the pages above its root.
unfoldable mutual
  pub located : List SpeltTree → SpeltTree → List PageInTree
  located above (page g es) =
      let path : List SpeltTree = page g es ∷ above in
      record { here = page g es; above = above } ∷ (located_under path g ++ located_from path es)

  pub located_under : List SpeltTree → Gap Spelt (List ℕ) → List PageInTree
  located_under above empty = []
  located_under above (under digest p) = located above p

  pub located_from : List SpeltTree → Entries Spelt (List ℕ) → List PageInTree
  located_from above end = []
  located_from above (entry e g es) = located_under above g ++ located_from above es

-- A page is opened when neither it nor a page above it is known.
unfoldable pub none_known : List (List ℕ) → List SpeltTree → Bool
none_known first [] = true
none_known first (p ∷ ps) = not (known first (bytes_of_page p)) && none_known first ps

unfoldable pub is_opened : List (List ℕ) → PageInTree → Bool
is_opened first p = none_known first (p.here ∷ p.above)

unfoldable pub opened_among : List (List ℕ) → List PageInTree → List SpeltTree
opened_among first [] = []
opened_among first (p ∷ ps) =
    let later : List SpeltTree = opened_among first ps in
    cond (is_opened first p) (p.here ∷ later) later

-- The opened pages of the second, in table order.
unfoldable pub opened_pages : List (List ℕ) → SpeltTree → List SpeltTree
opened_pages first second = opened_among first (located [] second)

-- The pages that a page links to, in table order.
unfoldable pub linked_under : Gap Spelt (List ℕ) → List SpeltTree
linked_under empty = []
linked_under (under digest p) = p ∷ []

unfoldable pub linked_from : Entries Spelt (List ℕ) → List SpeltTree
linked_from end = []
linked_from (entry e g es) = linked_under g ++ linked_from es

unfoldable pub linked_pages : SpeltTree → List SpeltTree
linked_pages (page g es) = linked_under g ++ linked_from es

-- The records in a page itself, without those under its links.
unfoldable pub in_page : SpeltTree → List Record
in_page p = records_in [] (raw_page p).entries

-- The records in these pages, in key order: each is put into its place.
unfoldable pub put_all : List Record → List Record → List Record
put_all [] m = m
put_all (r ∷ rs) m = put r (put_all rs m)

unfoldable pub in_pages : List SpeltTree → List Record
in_pages [] = []
in_pages (p ∷ ps) = put_all (in_page p) (in_pages ps)
