-- What is said of a path's pages and their entries. Contracts inside this crate cite it, and no public contract does.
use Rattle.std.specs.Prelude.{ℕ, zero, suc, ◌+◌, ◌≤◌, ◌<◌, ◌≡◌, Bool, true, cond, ◌&&◌, List, [], ◌∷◌, ◌++◌, length, take, drop, Result, Ok, Err}
use Rattle.answer.specs.declared.Refusal.{Refusal}
use Rattle.answer.specs.declared.Refusal.TheVariants.{BytesFollow}
use Rattle.value.specs.Value.{digest_length, digest_in}
use Rattle.key.specs.Key.{lawful, less, shared}
use Rattle.page.specs.Reading.{read, times}
use Rattle.page.specs.Page.{RawEntry, RawPage, entry, page}
use Rattle.page_reader.specs.Place.{link_at}
use Rattle.page_reader.specs.declared.EntryAt.{EntryAt}
use Rattle.page_keys.specs.Buffer.{HoldsKey}
use Rattle.tree.specs.Judge.{all_lawful, rising}
use Rattle.tree.specs.OnePage.{prefixes_of, records_in}
use Rattle.path.specs.Verify.{Sought, value_at, in_gap, sought_from, PathVerdict, stopped, absent, present, at_end, judge_pages}
use Rattle.path_reader.specs.declared.entries.Search.{Search}
use Rattle.path_reader.specs.declared.entries.Search.TheVariants.{On, Value, Gap}
use Rattle.path_reader.specs.declared.entries.EntriesJudged.{EntriesJudged}
use Rattle.path_reader.specs.declared.pages.PageSays.{PageSays}
use Rattle.path_reader.specs.declared.pages.PageSays.TheVariants.{Present, Absent, Linked}

-- ---- one entry
-- Whether the key that takes its prefix from the key held is greater than that one, where the prefix length is right and the key no longer than
-- the buffer.
unfoldable pub Rises : List ℕ → ℕ → List ℕ → ℕ → ℕ → ℕ → Bool → Type 0
Rises buffer size s shares at n r =
    (k : List ℕ) → HoldsKey buffer size k → shares ≡ shared k (take shares k ++ take n (drop at s))
    → length (take shares k ++ take n (drop at s)) ≤ length buffer → r ≡ less k (take shares k ++ take n (drop at s))

-- How the search goes past an entry with the key k.
abbrev pub go_past : List ℕ → List ℕ → EntryAt → Search → Search
go_past key k e (On gap) = cond (less key k) (Gap gap) (cond (less k key) (On e.link) (Value e.value))
go_past key k e (Value value) = Value value
go_past key k e (Gap link) = Gap link

-- The same of the key held, where it stands whole.
unfoldable pub PastEntry : List ℕ → ℕ → List ℕ → EntryAt → Search → Search → Type 0
PastEntry buffer size key e search r = (k : List ℕ) → HoldsKey buffer size k → size ≤ length buffer → r ≡ go_past key k e search

-- One entry more, whose key is held; its prefix length is right where `fits` says so, and its key greater where `rises` says so.
pub record TakesEntry (buffer : List ℕ) (size : ℕ) (key : List ℕ) (fits rises : Bool) (e : EntryAt) (judged r : EntriesJudged) : Type 0 where
  pub prefixes : r.prefixes ≡ (judged.prefixes && fits)
  pub lawful : (k : List ℕ) → HoldsKey buffer size k → r.lawful ≡ (judged.lawful && lawful k)
  pub rising : r.rising ≡ (judged.rising && rises)
  pub search : PastEntry buffer size key e judged.search r.search

-- ---- the entries of a page
-- What the search says behind the last entry.
abbrev pub sought_by : List ℕ → Search → Sought
sought_by s (On link) = in_gap (link_at s link)
sought_by s (Value value) = value_at value
sought_by s (Gap link) = in_gap (link_at s link)

-- All bytes of a digest stand at its place.
abbrev pub SearchWithin : List ℕ → Search → Type 0
SearchWithin s (On link) = 0 < link → link + digest_length ≤ length s
SearchWithin s (Value value) = value + digest_length ≤ length s
SearchWithin s (Gap link) = 0 < link → link + digest_length ≤ length s

-- What is said of a row of entries that begins at a place. The test of prefixes may fail where they are right, but not hold where one is wrong;
-- the test of the order is right where the other two hold, and the search where the keys are lawful.
pub record RowJudged (s : List ℕ) (first left : ℕ) (key : List ℕ) (es : List RawEntry) (r : EntriesJudged) : Type 0 where
  pub prefixes : r.prefixes ≡ true → prefixes_of [] es ≡ true
  pub lawful : r.lawful ≡ all_lawful (records_in [] es)
  pub rising : prefixes_of [] es ≡ true → all_lawful (records_in [] es) ≡ true → r.rising ≡ rising (records_in [] es)
  pub sought : all_lawful (records_in [] es) ≡ true → sought_from key (link_at s left) [] first es ≡ sought_by s r.search
  pub within : all_lawful (records_in [] es) ≡ true → SearchWithin s (On left) → SearchWithin s r.search

-- The same of the n entries from a place on, where they are read.
unfoldable pub JudgesEntries : List ℕ → ℕ → ℕ → ℕ → List ℕ → EntriesJudged → Type 0
JudgesEntries s first n left key r =
    (es : List RawEntry) (past : ℕ) → times n entry (drop first s) ≡ read es (drop past s) → RowJudged s first left key es r

-- ---- one page
-- Whether the prefix lengths of the page at a place are right, where it is read; a pass over its entries has told so, or has failed to tell.
unfoldable pub JudgesPrefixes : List ℕ → ℕ → Bool → Bool → Type 0
JudgesPrefixes path at told r =
    (p : RawPage) (rest : List ℕ) → page (drop at path) ≡ read p rest → (told ≡ true → prefixes_of [] p.entries ≡ true) → r ≡ prefixes_of [] p.entries

-- What a page says whose tests hold, where the key would stand in a gap with the digest of its link at a place, or 0.
unfoldable pub said_in_gap : ℕ → ℕ → PageSays
said_in_gap zero end = Absent end
said_in_gap (suc before) end = Linked (suc before) end

-- The same by the search in it.
abbrev pub said_by : Search → ℕ → PageSays
said_by (On link) end = said_in_gap link end
said_by (Value value) end = Present value end
said_by (Gap link) end = said_in_gap link end

-- What the path says from a page on that says this, where at most `depth` pages follow it.
abbrev pub from_page : List ℕ → List ℕ → ℕ → Result PageSays Refusal → PathVerdict
from_page path key depth (Ok (Present value end)) = at_end (present value) (drop end path)
from_page path key depth (Ok (Absent end)) = at_end absent (drop end path)
from_page path key depth (Ok (Linked link end)) = judge_pages depth key (digest_in path link) end (drop end path)
from_page path key depth (Err r) = stopped r

-- All bytes of the digest that it names stand in the path.
abbrev pub SaidWithin : List ℕ → Result PageSays Refusal → Type 0
SaidWithin path (Ok (Present value end)) = value + digest_length ≤ length path
SaidWithin path (Ok (Absent end)) = Unit {0}
SaidWithin path (Ok (Linked link end)) = link + digest_length ≤ length path
SaidWithin path (Err r) = Unit {0}

-- The page at a place, where this digest is due.
pub record JudgesPage (path : List ℕ) (at : ℕ) (key digest : List ℕ) (r : Result PageSays Refusal) : Type 0 where
  pub says : (depth : ℕ) → judge_pages (suc depth) key digest at (drop at path) ≡ from_page path key depth r
  pub within : SaidWithin path r

-- ---- where the search has ended
-- Two values are answered; bytes left draw 4.
abbrev pub end_answer : ℕ → ℕ → List ℕ → Result (ℕ × ℕ) Refusal
end_answer place codec [] = Ok (place, codec)
end_answer place codec (b ∷ rest) = Err BytesFollow
