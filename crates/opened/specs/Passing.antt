-- What the passes over the second register's chains say.
use Rattle.std.specs.Prelude.{ℕ, ◌+◌, ◌-◌, ◌≤◌, ◌<◌, ◌≡◌, Bool, true, false, cond, not, ◌&&◌, List, [], ◌∷◌, ◌++◌, map, length, take, drop, get_or, Option, None, Some}
use Rattle.fips180.specs.Hash.{sha256}
use Rattle.word.specs.Word.{from_second, second_word}
use Rattle.tree.specs.Tree.{page, Gap, empty, under, Entries, end, entry}
use Rattle.tree.specs.Record.{Spelt}
use Rattle.tree.specs.Table.{SpeltTree, bytes_of_page}
use Rattle.tree.specs.Judge.{Verdict, refused, accepted}
use Rattle.index.specs.Chain.{Chain, chains}
use Rattle.promises.specs.Pages.{pages_of, known, opened_pages}
use Rattle.known.specs.Rows.{Chained, labels_of}
use Rattle.known.specs.Known.{is_among, Linked, digests_in}
use Rattle.opened.specs.Visits.{visited, open_in, kept, Ordered, MarksAt}
use Rattle.opened.specs.declared.pass.Opening.{Opening}

-- The digests of a tree's pages.
abbrev pub digests_of : SpeltTree → List (List ℕ)
digests_of t = sha256 (bytes_of_page t) ∷ labels_of (chains 0 0 [] t)

-- The pages of a byte string that is accepted.
unfoldable pub pages_in : Verdict → List (List ℕ)
pages_in (refused r) = []
pages_in (accepted t) = pages_of t

-- Whether each record stands in an opened page, in key order; `isOpen` says whether the first page is opened.
unfoldable mutual
  pub flags : List (List ℕ) → Bool → SpeltTree → List Bool
  flags first is_open (page g es) = flags_under first is_open g ++ flags_from first is_open es

  pub flags_under : List (List ℕ) → Bool → Gap Spelt (List ℕ) → List Bool
  flags_under first is_open empty = []
  flags_under first is_open (under digest p) = flags first (is_open && not (known first (bytes_of_page p))) p

  pub flags_from : List (List ℕ) → Bool → Entries Spelt (List ℕ) → List Bool
  flags_from first is_open end = []
  flags_from first is_open (entry e g es) = is_open ∷ (flags_under first is_open g ++ flags_from first is_open es)

-- How many pages are opened.
unfoldable mutual
  pub open_pages : List (List ℕ) → Bool → SpeltTree → ℕ
  open_pages first is_open (page g es) = cond is_open 1 0 + (open_pages_under first is_open g + open_pages_from first is_open es)

  pub open_pages_under : List (List ℕ) → Bool → Gap Spelt (List ℕ) → ℕ
  open_pages_under first is_open empty = 0
  open_pages_under first is_open (under digest p) = open_pages first (is_open && not (known first (bytes_of_page p))) p

  pub open_pages_from : List (List ℕ) → Bool → Entries Spelt (List ℕ) → ℕ
  open_pages_from first is_open end = 0
  open_pages_from first is_open (entry e g es) = open_pages_under first is_open g + open_pages_from first is_open es

-- Those of a list whose flag is set.
unfoldable pub pick : {A : Type 0} → List Bool → List A → List A
pick [] l = []
pick (b ∷ bs) [] = []
pick (true ∷ bs) (a ∷ l) = a ∷ pick bs l
pick (false ∷ bs) (a ∷ l) = pick bs l

-- The words of an index as words of the second register.
abbrev pub marked : List ℕ → List ℕ
marked words = map (λ (w : ℕ). second_word w) words

-- The words of the index are the first register's, and the row has room for all of them.
pub record Room (index row : List ℕ) : Type 0 where
  pub fits : length index ≤ length row
  pub small : (i : ℕ) → i < length index → get_or index i 0 < from_second

-- ---- the passes
-- The marks are those of visited chains, for some digests.
pub record Marked (u row : List ℕ) (m : ℕ) (marks : List ℕ) : Type 0 where
  pub digests : List (List ℕ)
  pub list : List Chain
  pub chained : Chained u row m list
  pub marked : MarksAt digests marks 0 0 list

-- The marks were lowered to the root's digest and those of the table.
abbrev pub Lowered : List ℕ → List ℕ → List ℕ → List ℕ → List ℕ → List ℕ → ℕ → List ℕ → List ℕ → Type 0
Lowered s heads words root u row m marks marks' =
    (digests : List (List ℕ)) (cs : List Chain) → Chained u row m cs → MarksAt digests marks 0 0 cs
    → (count : ℕ) → Linked s heads words count → MarksAt (digests ++ (root ∷ digests_in s (take count words))) marks' 0 0 cs

-- The labels of the chains from the start-th to before the next one were taken in. That one is answered, unless the second register's root,
-- whose digest is `top`, is known by now.
pub record TookPart (s known : List ℕ) (n start : ℕ) (root u row : List ℕ) (m : ℕ) (top marks marks' : List ℕ) (r : Option ℕ) : Type 0 where
  pub next : ℕ
  pub ahead : start ≤ next
  pub most : next ≤ n
  pub onward : start < n → start < next
  pub part : List (List ℕ)
  pub labels : (cs : List Chain) → Chained s known n cs → labels_of (take start cs) ++ part ≡ labels_of (take next cs)
  pub lowered : (digests : List (List ℕ)) (cs : List Chain) → Chained u row m cs → MarksAt digests marks 0 0 cs → MarksAt (digests ++ (root ∷ part)) marks' 0 0 cs
  pub answer : r ≡ cond (is_among (root ∷ part) top) None (Some next)

-- All digests of the first tree were taken in, unless the second's root is known.
pub record AllMarked (t v : SpeltTree) (marks' : List ℕ) (r : Bool) : Type 0 where
  pub is_open : r ≡ not (is_among (digests_of t) (sha256 (bytes_of_page v)))
  pub marks : r ≡ true → MarksAt (digests_of t) marks' 0 0 (chains 0 0 [] v)

-- The words from one place of the index to another were added to the row.
pub record Copied (index row : List ℕ) (from to at : ℕ) (row' : List ℕ) (r : ℕ) : Type 0 where
  pub end : r ≡ at + (to - from)
  pub words : take r row' ≡ take at row ++ take (to - from) (drop from (marked index))

-- All that the last pass needs: marks of chains, whose records stand in order among those of the index.
pub record Staging (u row : List ℕ) (m : ℕ) (marks index : List ℕ) (digests : List (List ℕ)) (cs : List Chain) : Type 0 where
  pub chained : Chained u row m cs
  pub marked : MarksAt digests marks 0 0 cs
  pub ordered : Ordered digests 0 (length index) (visited digests 0 cs)

-- The same for some register, some digests and some chains.
pub record SomeStaging (row : List ℕ) (m : ℕ) (marks index : List ℕ) : Type 0 where
  pub bytes : List ℕ
  pub digests : List (List ℕ)
  pub list : List Chain
  pub staging : Staging bytes row m marks index digests list

-- The opened pages of visited chains were counted, with the root, and the words of the records that are kept were staged.
pub record KeptStaged (index : List ℕ) (digests : List (List ℕ)) (cs : List Chain) (row' : List ℕ) (r : Opening) : Type 0 where
  pub opened : r.opened ≡ 1 + open_in digests (visited digests 0 cs)
  pub fits : r.staged ≤ length index
  pub staged : take r.staged row' ≡ pick (kept digests 0 (length index) (visited digests 0 cs)) (marked index)

-- ---- the whole register
-- The first `count` words are those of the records of v, in key order. The row begins with those of the records in opened pages, as words of
-- the second register.
pub record OpenedStaged (first : List (List ℕ)) (v : SpeltTree) (index : List ℕ) (count : ℕ) (r : Opening) (row' : List ℕ) : Type 0 where
  pub opened : r.opened ≡ length (opened_pages first v)
  pub fits : r.staged ≤ count
  pub staged : take r.staged row' ≡ pick (flags first (not (known first (bytes_of_page v))) v) (marked (take count index))
