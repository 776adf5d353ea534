-- A sequence of pages, pages filed by their digests, and a register gathered from its root digest.
use Rattle.std.specs.Prelude.{ℕ, zero, suc, Bool, true, false, cond, ◌&&◌, ◌||◌, List, [], ◌∷◌, ◌++◌, map, length}
use Rattle.std.proofs.Math.Option.{Option, none, some}
use Rattle.bytestring.specs.Bytes.{equal}
use Rattle.fips180.specs.Hash.{sha256}
use Rattle.page.specs.Reading.{Read, read, ends_early, departs, Reader, and_then}
use Rattle.page.specs.Page.{RawEntry, RawPage, page_bytes, page as page_at}
use Rattle.tree.specs.Record.{Record}
use Rattle.promises.specs.Map.{find, insert}

-- ---- a sequence of pages
-- Pages are read one after the other until no bytes are left; so there are at most as many as bytes.
unfoldable pub read_pages : ℕ → Reader (List RawPage)
read_pages zero s = read [] s
read_pages (suc most) [] = read [] []
read_pages (suc most) (b ∷ s) = and_then (page_at (b ∷ s)) (λ p t. and_then (read_pages most t) (λ ps u. read (p ∷ ps) u))

unfoldable pub sequence : Reader (List RawPage)
sequence s = read_pages (length s) s

-- The bytes of each page of a sequence. A register is a sequence of pages too, in table order, its root first.
unfoldable pub bytes_of_each : Read (List RawPage) → List (List ℕ)
bytes_of_each (read ps rest) = map page_bytes ps
bytes_of_each ends_early = []
bytes_of_each departs = []

unfoldable pub pages_in : List ℕ → List (List ℕ)
pages_in s = bytes_of_each (sequence s)

-- ---- pages filed by their digests
-- A page under its digest.
abbrev pub by_digest : List ℕ → Record
by_digest p = record { key = sha256 p; val = p }

-- The pages of a list, each distinct page once, in ascending order of digest.
unfoldable pub filed : List (List ℕ) → List Record
filed [] = []
filed (p ∷ ps) = insert (λ old new. old) (by_digest p) (filed ps)

-- No two unequal pages of a list share a digest.
unfoldable pub apart : List ℕ → List (List ℕ) → Bool
apart p [] = true
apart p (q ∷ qs) = cond (equal (sha256 p) (sha256 q)) (equal p q) true && apart p qs

unfoldable pub all_apart : List (List ℕ) → Bool
all_apart [] = true
all_apart (p ∷ ps) = apart p ps && all_apart ps

-- Whether each page of one list stands in another.
unfoldable pub among : List ℕ → List (List ℕ) → Bool
among p [] = false
among p (q ∷ qs) = equal p q || among p qs

unfoldable pub all_among : List (List ℕ) → List (List ℕ) → Bool
all_among [] qs = true
all_among (p ∷ ps) qs = among p qs && all_among ps qs

-- ---- gathering
-- The digests that a page links to: of its left subtree, then of the subtree after each entry.
unfoldable pub link_list : Option (List ℕ) → List (List ℕ)
link_list none = []
link_list (some digest) = digest ∷ []

unfoldable pub links_after : List RawEntry → List (List ℕ)
links_after [] = []
links_after (e ∷ es) = link_list e.after ++ links_after es

unfoldable pub links_of_read : Read RawPage → List (List ℕ)
links_of_read (read p rest) = link_list p.left ++ links_after p.entries
links_of_read ends_early = []
links_of_read departs = []

-- Two strings one after the other, where both are there.
unfoldable pub together : Option (List ℕ) → Option (List ℕ) → Option (List ℕ)
together none t = none
together (some s) none = none
together (some s) (some t) = some (s ++ t)

unfoldable pub gather_all : (List ℕ → Option (List ℕ)) → List (List ℕ) → Option (List ℕ)
gather_all gather [] = some []
gather_all gather (digest ∷ digests) = together (gather digest) (gather_all gather digests)

unfoldable pub gather_page : (List ℕ → Option (List ℕ)) → Option (List ℕ) → Option (List ℕ)
gather_page gather none = none
gather_page gather (some p) = together (some p) (gather_all gather (links_of_read (page_at p)))

-- The bytes of the tree under a digest: the page of that digest, then the trees under its links in turn. There is none where a page is
-- missing, or where more than `depth` pages follow one another by links.
unfoldable pub gather : ℕ → List Record → List ℕ → Option (List ℕ)
gather zero pages digest = none
gather (suc depth) pages digest = gather_page (gather depth pages) (find digest pages)
