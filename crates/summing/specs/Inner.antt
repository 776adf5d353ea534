-- What contracts inside this crate cite, and no public contract does.
use Rattle.std.specs.Prelude.{ℕ, suc, ◌+◌, ◌≤◌, ◌<◌, ◌≡◌, Bool, true, false, ◌&&◌, List, [], length, take, drop, set, eqb, Some, None, Option as OptionOf}
use Rattle.std.proofs.Math.Option.{Option, none, some}
use Rattle.bytestring.specs.Bytes.{Bytes}
use Rattle.limits.specs.Limits.{deepest, longest_key, most, numbers}
use Rattle.fips180.specs.Hash.{sha256}
use Rattle.value.specs.Value.{digest_length, digest_in}
use Rattle.key.specs.Key.{lawful, shared}
use Rattle.key.specs.Layer.{layer_of}
use Rattle.page.specs.Reading.{Read, read, ends_early, departs, times}
use Rattle.page.specs.Page.{RawEntry, RawPage, entry}
use Rattle.page_reader.specs.Place.{link_at, entry_at}
use Rattle.page_reader.specs.declared.EntryAt.{EntryAt}
use Rattle.page_keys.specs.Buffer.{HoldsKey, LastIs}
use Rattle.tree.specs.Record.{Record}
use Rattle.tree.specs.OnePage.{key_after}
use Rattle.promises.specs.Promises.{Among}
use Rattle.states.specs.Pages.{sequence, link_list, links_after}
use Rattle.summaries.specs.Summary.{Summary, Tally, agrees, passes, after_gap, after_entries, summary, ReachedFrom}
use Rattle.filing.specs.Filed.{bytes_at, pages_by_digest, Filed, page_place}
use Rattle.tree_keys.specs.Ends.{SummaryAt, KeptKeys}
use Rattle.summing.specs.Summed.{page_note, page_mark, note_at, Summings, Reaching, TreeSays}
use Rattle.summing.specs.declared.PartSum.{PartSum}
use Rattle.summing.specs.declared.Judging.{Judging}
use Rattle.summing.specs.declared.Written.{Written}

-- The pages of a sequence, and the summary of the tree under a digest of one of them.
unfoldable pub raws_of : Read (List RawPage) → List RawPage
raws_of (read raws rest) = raws
raws_of ends_early = []
raws_of departs = []

abbrev pub raws_in : List ℕ → List RawPage
raws_in p = raws_of (sequence p)

abbrev pub file_of : List ℕ → List Record
file_of p = pages_by_digest (raws_in p)

abbrev pub tree_under : List ℕ → List ℕ → Option Summary
tree_under p digest = summary deepest (file_of p) digest

-- What each part of the judging starts from and leaves.
pub record Underway (s p labels pages counts : List ℕ) (n : ℕ) (keys tags last : List ℕ) : Type 0 where
  pub bytes : Bytes p
  pub summings : Summings s p labels pages counts n (raws_in p)
  pub kept : KeptKeys (raws_in p) n keys tags
  pub places : 2 ≤ length tags
  pub room : length last ≡ longest_key

-- The last key so far stands in its buffer; its length is 0 where there is none.
abbrev pub LastOf : List ℕ → ℕ → Option (List ℕ) → Type 0
LastOf last size none = size ≡ 0
LastOf last size (some k) = LastIs last size k

-- A part of a page of this layer, so far: its count of records and its last key.
pub record Tallied (layer count : ℕ) (last : List ℕ) (size : ℕ) (t : Tally) : Type 0 where
  pub number : t.count ≡ count
  pub agree : agrees t.layer layer ≡ true
  pub latest : LastOf last size t.last

-- The page of a digest is there, and was judged.
abbrev pub LeadsOn : List ℕ → ℕ → List ℕ → Type 0
LeadsOn p n digest = (c : ℕ) × (c < n) × (sha256 (bytes_at (raws_in p) c) ≡ digest)

abbrev pub JudgedAt : List ℕ → ℕ → List ℕ → List ℕ → Type 0
JudgedAt p n pages digest = (c : ℕ) × (c < n) × (sha256 (bytes_at (raws_in p) c) ≡ digest) × (1 ≤ note_at pages c)

-- What is reached from one of these links is reached from the digest.
abbrev pub CarriesOn : List ℕ → List (List ℕ) → List ℕ → Type 0
CarriesOn p links digest = (link q : List ℕ) → Among link links → ReachedFrom (file_of p) link q → ReachedFrom (file_of p) digest q

-- A part of a page was judged: from each tally that it starts with, `step` leads to one with this count and this last key.
pub record PartWhole (Start : Tally → Type 0) (step : Tally → Option Tally) (links : List (List ℕ)) (s p labels : List ℕ) (n layer mark : ℕ)
    (pages counts pages' counts' keys' tags' last' : List ℕ) (sum : PartSum) : Type 0 where
  pub underway : Underway s p labels pages' counts' n keys' tags' last'
  pub few : sum.count ≤ most
  pub grown : (digest : List ℕ) → CarriesOn p links digest → Reaching (raws_in p) n mark digest pages counts pages' counts'
  pub judged : (link : List ℕ) → Among link links → JudgedAt p n pages' link
  pub tally : (t : Tally) → Start t → (u : Tally) × (step t ≡ some u) × Tallied layer sum.count last' sum.size u

-- No page with this part has a summary of this layer.
abbrev pub NoPart : (Tally → Type 0) → (Tally → Option Tally) → ℕ → Type 0
NoPart Start step layer = (t : Tally) → Start t → (u : Tally) → step t ≡ some u → agrees u.layer layer ≡ true → u.count ≤ most → ⊥

abbrev pub PartSays : (Tally → Type 0) → (Tally → Option Tally) → List (List ℕ) → List ℕ → List ℕ → List ℕ → ℕ → ℕ → ℕ
    → List ℕ → List ℕ → OptionOf PartSum → List ℕ → List ℕ → List ℕ → List ℕ → List ℕ → Type 0
PartSays Start step links s p labels n layer mark pages counts (Some sum) pages' counts' keys' tags' last' =
    PartWhole Start step links s p labels n layer mark pages counts pages' counts' keys' tags' last' sum
PartSays Start step links s p labels n layer mark pages counts None pages' counts' keys' tags' last' = NoPart Start step layer

-- A gap: the link at a place, or none at place 0, after the last key so far, if there is one.
abbrev pub BeforeGap : ℕ → ℕ → List ℕ → ℕ → Tally → Type 0
BeforeGap layer count last size t = Tallied layer count last size t × (size ≡ 0 → t.last ≡ none)

abbrev pub GapTold : List ℕ → List ℕ → List ℕ → ℕ → List ℕ → List ℕ → List ℕ → ℕ → ℕ → ℕ → ℕ → ℕ → OptionOf PartSum
    → List ℕ → List ℕ → List ℕ → List ℕ → List ℕ → Type 0
GapTold s p labels n pages counts last size link count layer mark r pages' counts' keys' tags' last' =
    PartSays (BeforeGap layer count last size) (after_gap (tree_under p) (link_at p link)) (link_list (link_at p link)) s p labels n layer mark
    pages counts r pages' counts' keys' tags' last'

pub record GapAsked (p : List ℕ) (n : ℕ) (before last : List ℕ) (size link count layer mark : ℕ) : Type 0 where
  pub leads : 0 < link → LeadsOn p n (digest_in p link)
  pub within : 0 < link → link + digest_length ≤ length p
  pub room : size ≤ length before
  pub same : take size last ≡ take size before
  pub few : count ≤ most
  pub low : layer < deepest
  pub marked : mark < 2

-- The entries of a page, after the gap before them.
abbrev pub EntriesTold : List ℕ → List ℕ → List ℕ → ℕ → List ℕ → List ℕ → List ℕ → ℕ → ℕ → ℕ → ℕ → ℕ → ℕ → OptionOf PartSum
    → List ℕ → List ℕ → List ℕ → List ℕ → List ℕ → Type 0
EntriesTold s p labels n pages counts last size first entries count layer mark r pages' counts' keys' tags' last' =
    (es : List RawEntry) (past : ℕ) → times entries entry (drop first p) ≡ read es (drop past p)
    → PartSays (Tallied layer count last size) (after_entries (tree_under p) [] es) (links_after es) s p labels n layer mark
    pages counts r pages' counts' keys' tags' last'

pub record EntriesAsked (p : List ℕ) (n first entries count layer mark : ℕ) : Type 0 where
  pub row : List RawEntry
  pub past : ℕ
  pub reads : times entries entry (drop first p) ≡ read row (drop past p)
  pub leads : (link : List ℕ) → Among link (links_after row) → LeadsOn p n link
  pub there : first ≤ length p
  pub few : count ≤ most
  pub low : layer < deepest
  pub marked : mark < 2

-- Whether the key in a buffer keeps the key rule, has the layer, and comes after the last key so far.
unfoldable pub KeyHolds : List ℕ → ℕ → List ℕ → ℕ → ℕ → Bool → Type 0
KeyHolds buffer size last before layer r =
    (k : List ℕ) → HoldsKey buffer size k → (o : Option (List ℕ)) → LastOf last before o → r ≡ (lawful k && (eqb layer (layer_of k) && passes o k))

-- What an entry's key must hold after the key `before` of its page and the last key so far.
unfoldable pub key_stands : List ℕ → RawEntry → Option (List ℕ) → ℕ → Bool
key_stands before e o layer =
    let k : List ℕ = key_after before e in
    eqb e.shares (shared before k) && (lawful k && (eqb layer (layer_of k) && passes o k))

pub record KeyAsked (buffer p : List ℕ) (e : EntryAt) (last : List ℕ) : Type 0 where
  pub held : length buffer ≡ suc longest_key
  pub room : length last ≡ longest_key
  pub within : e.remainder + e.size ≤ length p
  pub shares : e.shares < numbers
  pub size : e.size < numbers

-- The key of this length is in the buffer, and is the last key.
pub record KeyTaken (buffer : List ℕ) (size : ℕ) (p : List ℕ) (e : EntryAt) (last : List ℕ) (before layer r : ℕ) (buffer' last' : List ℕ) : Type 0 where
  pub short : r ≤ longest_key
  pub same : take r last' ≡ take r buffer'
  pub some_bytes : (k : List ℕ) → HoldsKey buffer size k → (o : Option (List ℕ)) → LastOf last before o → 0 < r
  pub holds : (k : List ℕ) → HoldsKey buffer size k → HoldsKey buffer' r (key_after k (entry_at p e))
  pub right : (k : List ℕ) → HoldsKey buffer size k → (o : Option (List ℕ)) → LastOf last before o → key_stands k (entry_at p e) o layer ≡ true

-- The key does not hold what it must.
abbrev pub KeyWrong : List ℕ → ℕ → List ℕ → EntryAt → List ℕ → ℕ → ℕ → Type 0
KeyWrong buffer size p e last before layer =
    (k : List ℕ) → HoldsKey buffer size k → length k ≤ longest_key → (o : Option (List ℕ)) → LastOf last before o
    → key_stands k (entry_at p e) o layer ≡ false

abbrev pub KeySays : List ℕ → ℕ → List ℕ → EntryAt → List ℕ → ℕ → ℕ → OptionOf ℕ → List ℕ → List ℕ → Type 0
KeySays buffer size p e last before layer (Some r) buffer' last' = KeyTaken buffer size p e last before layer r buffer' last'
KeySays buffer size p e last before layer None buffer' last' = KeyWrong buffer size p e last before layer

-- Whether the first key of the tree under the c-th page comes after a key.
unfoldable pub FirstFollows : List ℕ → List ℕ → List ℕ → List ℕ → ℕ → ℕ → List ℕ → ℕ → Bool → Type 0
FirstFollows s p labels pages n c before size r =
    (raws : List RawPage) → Filed s p labels pages n raws → (x : Summary) → SummaryAt raws c x
    → (o : Option (List ℕ)) → LastOf before size o → (size ≡ 0 → o ≡ none) → r ≡ passes o x.first

-- The word and the count of the i-th page were written.
pub record PageNoted (pages counts : List ℕ) (i place note mark count : ℕ) (pages' counts' : List ℕ) : Type 0 where
  pub word : ℕ
  pub words : pages' ≡ set pages i word
  pub numbers : counts' ≡ set counts i count
  pub stands : page_place word ≡ place
  pub noted : page_note word ≡ note
  pub marked : page_mark word ≡ mark

-- ---- the same of what is lent together
abbrev pub UnderwayIn : Judging → List ℕ → Written → Type 0
UnderwayIn f pages w = Underway f.states.now f.sequence.now f.labels.now pages w.counts.now f.n w.keys.now w.tags.now w.last.now

abbrev pub GapAskedIn : Judging → List ℕ → Written → ℕ → ℕ → ℕ → ℕ → Type 0
GapAskedIn f before w size link count layer = GapAsked f.sequence.now f.n before w.last.now size link count layer f.mark

abbrev pub GapToldIn : Judging → List ℕ → Written → ℕ → ℕ → ℕ → ℕ → OptionOf PartSum → List ℕ → Written → Type 0
GapToldIn f pages w size link count layer r pages' w' =
    GapTold f.states.now f.sequence.now f.labels.now f.n pages w.counts.now w.last.now size link count layer f.mark r
    pages' w'.counts.now w'.keys.now w'.tags.now w'.last.now

abbrev pub EntriesAskedIn : Judging → ℕ → ℕ → ℕ → ℕ → Type 0
EntriesAskedIn f first entries count layer = EntriesAsked f.sequence.now f.n first entries count layer f.mark

abbrev pub EntriesToldIn : Judging → List ℕ → Written → ℕ → ℕ → ℕ → ℕ → ℕ → OptionOf PartSum → List ℕ → Written → Type 0
EntriesToldIn f pages w size first entries count layer r pages' w' =
    EntriesTold f.states.now f.sequence.now f.labels.now f.n pages w.counts.now w.last.now size first entries count layer f.mark r
    pages' w'.counts.now w'.keys.now w'.tags.now w'.last.now

abbrev pub TreeSaysIn : Judging → List ℕ → Written → ℕ → ℕ → Bool → List ℕ → Written → Type 0
TreeSaysIn f pages w i layer r pages' w' =
    TreeSays f.states.now f.sequence.now f.labels.now pages w.counts.now f.n i layer f.mark r pages' w'.counts.now

-- The slices are the same ones, of the same lengths.
pub record SameSlices (w w' : Written) : Type 0 where
  pub counts : w'.counts.ghost_name ≡ w.counts.ghost_name
  pub keys : w'.keys.ghost_name ≡ w.keys.ghost_name
  pub tags : w'.tags.ghost_name ≡ w.tags.ghost_name
  pub last : w'.last.ghost_name ≡ w.last.ghost_name
  pub counts_length : length w'.counts.now ≡ length w.counts.now
  pub keys_length : length w'.keys.now ≡ length w.keys.now
  pub tags_length : length w'.tags.now ≡ length w.tags.now
  pub last_length : length w'.last.now ≡ length w.last.now
