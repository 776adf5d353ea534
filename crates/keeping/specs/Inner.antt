-- What contracts inside this crate cite, and no public contract does.
use Rattle.std.specs.Prelude.{ℕ, ◌+◌, ◌-◌, ◌*◌, ◌^◌, ◌≤◌, ◌<◌, ◌≡◌, Bool, true, false, cond, ◌⊎◌, List, [], ◌∷◌, ◌++◌, map, length, take, drop, get_or, Option, Some, None}
use Rattle.bytestring.specs.Bytes.{front}
use Rattle.fips180.specs.Hash.{sha256}
use Rattle.key.specs.Key.{less}
use Rattle.page.specs.Reading.{read, concat}
use Rattle.page.specs.Page.{RawPage, page_bytes}
use Rattle.tree.specs.Judge.{rising}
use Rattle.promises.specs.Promises.{Among}
use Rattle.states.specs.Pages.{sequence, by_digest}
use Rattle.filing.specs.Filed.{bytes_at}
use Rattle.staging.specs.Pages.{page_named}
use Rattle.keeping.specs.Kept.{LabelledPages}
use Rattle.keeping.specs.declared.PagePart.{PagePart}
use Rattle.keeping.specs.declared.Progress.{Progress}

-- ---- a page by its places
-- The string that it stands in, and its bytes.
abbrev pub string_of : List ℕ → List ℕ → PagePart → List ℕ
string_of p register t = cond t.saved register p

abbrev pub part_of : List ℕ → PagePart → List ℕ
part_of s t = take (t.to - t.from) (drop t.from s)

-- Its places are in the string, which is not too long.
pub record InString (s : List ℕ) (t : PagePart) : Type 0 where
  pub rises : t.from ≤ t.to
  pub within : t.to ≤ length s
  pub low : t.to ≤ 2 ^ 22

-- These bytes stand there, and the digest is theirs.
pub record PartStands (s : List ℕ) (t : PagePart) (bytes : List ℕ) : Type 0 where
  pub places : InString s t
  pub part : part_of s t ≡ bytes
  pub digest : t.digest ≡ sha256 bytes

-- ---- the places of pages
-- The i-th page of a sequence begins at a place: from there on the pages from the i-th on are read.
abbrev pub PageBegins : List ℕ → ℕ → ℕ → Type 0
PageBegins p i at = (raws : List RawPage) → sequence p ≡ read raws [] → sequence (drop at p) ≡ read (drop i raws) []

-- Where pages are read from a place on, the first of them stands from there to before another place, and the others follow.
pub record FirstPage (p : List ℕ) (at : ℕ) (raw : RawPage) (raws : List RawPage) (to : ℕ) : Type 0 where
  pub ahead : at < to
  pub within : to ≤ length p
  pub part : take (to - at) (drop at p) ≡ page_bytes raw
  pub others : sequence (drop to p) ≡ read raws []

abbrev pub PastPage : List ℕ → ℕ → ℕ → Type 0
PastPage p at to = (raw : RawPage) (raws : List RawPage) → sequence (drop at p) ≡ read (raw ∷ raws) [] → FirstPage p at raw raws to

-- ---- one page more
-- The bytes behind the first ones of the output, where they fit; their end in any case.
pub record PutBehind (bytes out : List ℕ) (at : ℕ) (out' : List ℕ) (r : ℕ) : Type 0 where
  pub end : r ≡ at + length bytes
  pub put : at + length bytes ≤ length out → out' ≡ front (take at out ++ bytes) out

-- The last page, if there is one, where it has the digest of another.
abbrev pub RepeatSays : Option PagePart → PagePart → Option PagePart → Type 0
RepeatSays last t (Some l) = (last ≡ Some l) × (t.digest ≡ l.digest)
RepeatSays last t None = (l : PagePart) → last ≡ Some l → t.digest ≡ l.digest → ⊥

-- Where the last page written has the same digest, it must be the same page, and nothing is written; any other page is.
abbrev pub AddSays : List ℕ → List ℕ → Option PagePart → PagePart → List ℕ → ℕ → Option ℕ → List ℕ → Type 0
AddSays p register last t out at (Some r) out' =
    ((l : PagePart) × (last ≡ Some l) × (part_of (string_of p register t) t ≡ part_of (string_of p register l) l) × (r ≡ at) × (out' ≡ out))
    ⊎ (((l : PagePart) → last ≡ Some l → t.digest ≡ l.digest → ⊥) × PutBehind (part_of (string_of p register t) t) out at out' r)
AddSays p register last t out at None out' =
    (l : PagePart) × (last ≡ Some l) × (t.digest ≡ l.digest) × (part_of (string_of p register t) t ≡ part_of (string_of p register l) l → ⊥)

-- ---- the two rows
-- A page is one of the first i pages, and kept, or that of one of the first j words.
abbrev pub TakenFrom : List RawPage → List ℕ → List ℕ → ℕ → List ℕ → List ℕ → ℕ → ℕ → List ℕ → Type 0
TakenFrom raws marks register rootEnd chains words i j b =
    ((k : ℕ) × (k < i) × (get_or marks k 0 ≡ 1) × (bytes_at raws k ≡ b))
    ⊎ ((k : ℕ) × (k < j) × (page_named register rootEnd chains (get_or words k 0) ≡ b))

-- Of the i-th page and the j-th word's page the next one: none that is there has a lesser digest.
abbrev pub NextIs : List RawPage → ℕ → List ℕ → List ℕ → ℕ → List ℕ → List ℕ → ℕ → ℕ → ℕ → PagePart → Bool → Type 0
NextIs raws n p register rootEnd chains words m i j t true =
    (j < m) × PartStands register t (page_named register rootEnd chains (get_or words j 0))
    × (i < n → less (sha256 (bytes_at raws i)) t.digest ≡ false)
NextIs raws n p register rootEnd chains words m i j t false =
    (i < n) × PartStands p t (bytes_at raws i) × PageBegins p (i + 1) t.to
    × (j < m → less (sha256 (page_named register rootEnd chains (get_or words j 0))) t.digest ≡ false)

-- The last page written: it is one of them, and none of them has a greater digest, and none that is ahead a lesser.
pub record LastWritten (raws : List RawPage) (n : ℕ) (p register : List ℕ) (rootEnd : ℕ) (chains words : List ℕ) (m : ℕ)
    (written : List (List ℕ)) (g : Progress) (t : PagePart) : Type 0 where
  pub bytes : List ℕ
  pub stands : PartStands (string_of p register t) t bytes
  pub there : Among bytes written
  pub greatest : (b : List ℕ) → Among b written → less (sha256 bytes) (sha256 b) ≡ false
  pub page_ahead : g.i < n → less (sha256 (bytes_at raws g.i)) (sha256 bytes) ≡ false
  pub word_ahead : g.j < m → less (sha256 (page_named register rootEnd chains (get_or words g.j 0))) (sha256 bytes) ≡ false

-- The pages taken so far are written, each once in ascending order of digest, as far as the output has room.
pub record KeptSoFar (raws : List RawPage) (p marks : List ℕ) (n : ℕ) (register : List ℕ) (rootEnd : ℕ) (chains words : List ℕ) (m : ℕ)
    (out : List ℕ) (g : Progress) (out' : List ℕ) : Type 0 where
  pub written : List (List ℕ)
  pub rise : rising (map by_digest written) ≡ true
  pub no_other : (b : List ℕ) → Among b written → TakenFrom raws marks register rootEnd chains words g.i g.j b
  pub all : (b : List ℕ) → TakenFrom raws marks register rootEnd chains words g.i g.j b → Among b written
  pub none : g.last ≡ None → written ≡ []
  pub last : (t : PagePart) → g.last ≡ Some t → LastWritten raws n p register rootEnd chains words m written g t
  pub size : g.length ≡ length (concat (λ b. b) written)
  pub output : length (concat (λ b. b) written) ≤ length out → out' ≡ front (concat (λ b. b) written) out

-- The numbers are in the rows, the next page begins at the place, and no page is longer than 2^22 bytes.
pub record InRows (p : List ℕ) (n m : ℕ) (g : Progress) : Type 0 where
  pub pages : g.i ≤ n
  pub words : g.j ≤ m
  pub begins : PageBegins p g.i g.place
  pub low : g.length ≤ (g.i + g.j) * 2 ^ 22

-- Two unequal pages of the rows share a digest.
pub record DigestShared (raws : List RawPage) (marks : List ℕ) (n : ℕ) (register : List ℕ) (rootEnd : ℕ) (chains words : List ℕ) (m : ℕ) : Type 0 where
  pub one : List ℕ
  pub other : List ℕ
  pub one_taken : TakenFrom raws marks register rootEnd chains words n m one
  pub other_taken : TakenFrom raws marks register rootEnd chains words n m other
  pub same : sha256 one ≡ sha256 other
  pub unequal : one ≡ other → ⊥

-- ---- one turn
-- The row that the page was taken from goes on.
abbrev pub progress_after : ℕ → ℕ → ℕ → PagePart → ℕ → Bool → Progress
progress_after i j at t length true = record { i = i; j = j + 1; place = at; length = length; last = Some t }
progress_after i j at t length false = record { i = i + 1; j = j; place = t.to; length = length; last = Some t }

-- Whether the i-th page is there and not kept.
abbrev pub PassedOver : List ℕ → ℕ → ℕ → Bool → Type 0
PassedOver marks n i true = (i < n) × (get_or marks i 0 ≡ 1 → ⊥)
PassedOver marks n i false = i < n → get_or marks i 0 ≡ 1

-- The rows go on by one page, and what was written so far goes on with it; or two unequal pages share a digest.
abbrev pub StepSays : List ℕ → List ℕ → List ℕ → List ℕ → ℕ → List ℕ → ℕ → List ℕ → List ℕ → ℕ → Progress → List ℕ → Option Progress → List ℕ → Type 0
StepSays s p labels marks n register rootEnd chains words m g out (Some g') out' =
    InRows p n m g' × (g'.i + g'.j ≡ g.i + g.j + 1)
    × ((raws : List RawPage) (old : List ℕ) → LabelledPages s p labels n raws → length out ≡ length old
    → KeptSoFar raws p marks n register rootEnd chains words m old g out → KeptSoFar raws p marks n register rootEnd chains words m old g' out')
StepSays s p labels marks n register rootEnd chains words m g out None out' =
    (raws : List RawPage) (old : List ℕ) → LabelledPages s p labels n raws → KeptSoFar raws p marks n register rootEnd chains words m old g out
    → DigestShared raws marks n register rootEnd chains words m
