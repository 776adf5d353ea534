-- What contracts inside this crate cite, and no public contract does.
use Rattle.answer.specs.declared.Refusal.{Refusal}
use Rattle.std.specs.Prelude.{ℕ, ◌+◌, ◌≤◌, ◌<◌, ◌≡◌, Bool, true, false, ◌&&◌, List, [], length, get_or, eqb, Result, Ok, Err, Option, Some, None}
use Rattle.answer.specs.declared.Refusal.TheVariants.{WrongStates}
use Rattle.bytestring.specs.Bytes.{equal}
use Rattle.limits.specs.Limits.{longest, longest_key}
use Rattle.value.specs.Value.{digest_length, digest_in, dag_cbor, value_codec, value_digest}
use Rattle.key.specs.Key.{collection}
use Rattle.page.specs.Reading.{read}
use Rattle.tree.specs.Record.{Record, records}
use Rattle.tree.specs.Table.{SpeltTree}
use Rattle.tree.specs.Judge.{refused, accepted, judge}
use Rattle.promises.specs.Promises.{Among}
use Rattle.states.specs.Pages.{sequence}
use Rattle.states.specs.States.{state_collection, refused_states, judge_with_pages, judge_states}
use Rattle.summaries.specs.Summary.{is_root, ReachedFrom}
use Rattle.links.specs.Links.{from_first, from_chains, Names, AllName}
use Rattle.sequence.specs.Noted.{links_of_all, PagesFrom, SequenceNoted}
use Rattle.index.specs.Accepted.{AcceptedIndex}
use Rattle.row.specs.Row.{nothing}
use Rattle.row.specs.Search.{key_at}
use Rattle.filing.specs.Filed.{bytes_at, link_named, Filed}
use Rattle.tree_keys.specs.Ends.{KeptKeys}
use Rattle.summing.specs.Summed.{page_mark, note_at, Summings, Reaching}
use Rattle.summing.specs.Inner.{raws_in, file_of, LeadsOn, JudgedAt}
use Rattle.gathering.specs.Gathered.{Notes}
use Rattle.states_reader.specs.Held.{most_pages, StatesHeld}

-- ---- the two buffers, each by itself
abbrev pub IndexSays : List ℕ → Result ℕ Refusal → List ℕ → Type 0
IndexSays s (Ok count) index = AcceptedIndex s index count
IndexSays s (Err r) index = judge s ≡ refused r

-- The sequence is noted; or it is refused, whatever register of states is accepted before it.
pub record SequenceHeld (p words pages : List ℕ) (n m : ℕ) : Type 0 where
  pub noted : SequenceNoted p words pages n m
  pub short : length p ≤ longest
  pub few : n ≤ most_pages

abbrev pub PagesSay : List ℕ → Result (ℕ × ℕ) Refusal → List ℕ → List ℕ → Type 0
PagesSay p (Ok (n, m)) words pages = SequenceHeld p words pages n m
PagesSay p (Err r) words pages = (t : SpeltTree) → judge_with_pages (accepted t) p ≡ refused_states r

-- ---- the roots
-- Whether a record is a state's.
abbrev pub is_state : Record → Bool
is_state r = equal (collection r.key) state_collection && eqb (value_codec r.val) dag_cbor

-- A word that names the digest of a value by its place in the states.
pub record RootWord (s v : List ℕ) (w : ℕ) : Type 0 where
  pub place : ℕ
  pub word : w ≡ from_first + place
  pub low : w < from_chains
  pub within : place + digest_length ≤ length s
  pub bytes : digest_in s place ≡ value_digest v

-- The first i records are states, and their words are noted twice: as roots, and after the first m words.
pub record RootsNoted (s : List ℕ) (rs : List Record) (words roots words' : List ℕ) (m i : ℕ) : Type 0 where
  pub states : (j : ℕ) → j < i → is_state (get_or rs j nothing) ≡ true
  pub named : (j : ℕ) → j < i → RootWord s (get_or rs j nothing).val (get_or roots j 0)
  pub added : (j : ℕ) → j < i → get_or words' (m + j) 0 ≡ get_or roots j 0
  pub kept : (k : ℕ) → k < m → get_or words' k 0 ≡ get_or words k 0

abbrev pub RootsSay : List ℕ → List ℕ → ℕ → List ℕ → ℕ → Bool → List ℕ → List ℕ → Type 0
RootsSay s index count words m true roots words' =
    (a : AcceptedIndex s index count) → RootsNoted s (records a.tree) words roots words' m count
RootsSay s index count words m false roots words' =
    (a : AcceptedIndex s index count) → (j : ℕ) × (j < count) × (is_state (get_or (records a.tree) j nothing) ≡ false)

-- The record at this position, if there is one, has the key, and no other has.
abbrev pub is_own : Option ℕ → ℕ → Bool
is_own None i = false
is_own (Some own) i = eqb i own

abbrev pub OwnSays : List ℕ → List ℕ → ℕ → List ℕ → Option ℕ → Type 0
OwnSays s index count k own =
    (a : AcceptedIndex s index count) → (i : ℕ) → i < count → equal k (key_at (records a.tree) i) ≡ is_own own i

-- ---- filing
-- The pages of a sequence p by their words, and so many words of links in whatever order, among them all links of the pages.
pub record Unsorted (s p words : List ℕ) (total : ℕ) (pages : List ℕ) (n : ℕ) : Type 0 where
  pub reads : sequence p ≡ read (raws_in p) []
  pub number : length (raws_in p) ≡ n
  pub places : PagesFrom p pages 0 0 (raws_in p)
  pub short : length p ≤ longest
  pub room : total ≤ length words
  pub page_room : n ≤ length pages
  pub names : AllName s p [] words total
  pub links : (digest : List ℕ) → Among digest (links_of_all (raws_in p)) → (k : ℕ) × (k < total) × (link_named s p (get_or words k 0) ≡ digest)

-- ---- judging
abbrev pub root_digest : List ℕ → List ℕ → List ℕ → ℕ → List ℕ
root_digest s p roots j = link_named s p (get_or roots j 0)

-- What the judging of roots begins with: no page is noted yet, and there is a page for each root.
pub record Rooted (s p labels pages roots : List ℕ) (count n : ℕ) : Type 0 where
  pub filed : Filed s p labels pages n (raws_in p)
  pub few : n ≤ most_pages
  pub unnoted : (c : ℕ) → c < n → note_at pages c ≡ 0
  pub room : count ≤ length roots
  pub named : (j : ℕ) → j < count → Names s p [] (get_or roots j 0)
  pub there : (j : ℕ) → j < count → LeadsOn p n (root_digest s p roots j)

-- What each root is judged with, and what is left to the next.
pub record Judging (s p labels pages counts keys tags last : List ℕ) (n : ℕ) : Type 0 where
  pub summings : Summings s p labels pages counts n (raws_in p)
  pub kept : KeptKeys (raws_in p) n keys tags
  pub places : 2 ≤ length tags
  pub room : length last ≡ longest_key

-- A digest is that of a root, and what it newly reaches has the mark.
pub record RootJudged (p : List ℕ) (n : ℕ) (digest : List ℕ) (mark : ℕ) (pages counts pages' counts' : List ℕ) : Type 0 where
  pub right : is_root (file_of p) digest ≡ true
  pub grown : Reaching (raws_in p) n mark digest pages counts pages' counts'
  pub noted : JudgedAt p n pages' digest

abbrev pub WordSays : List ℕ → List ℕ → List ℕ → ℕ → List ℕ → ℕ → List ℕ → List ℕ → Bool
    → List ℕ → List ℕ → List ℕ → List ℕ → List ℕ → Type 0
WordSays s p labels n digest mark pages counts true pages' counts' keys' tags' last' =
    RootJudged p n digest mark pages counts pages' counts' × Judging s p labels pages' counts' keys' tags' last' n
WordSays s p labels n digest mark pages counts false pages' counts' keys' tags' last' = is_root (file_of p) digest ≡ false

-- A page is reached from one of the first i roots other than one's own.
abbrev pub ReachedByOther : List ℕ → List ℕ → List ℕ → Option ℕ → ℕ → List ℕ → Type 0
ReachedByOther s p roots own i q = (j : ℕ) × (j < i) × (own ≡ Some j → ⊥) × ReachedFrom (file_of p) (root_digest s p roots j) q

-- The first i roots other than one's own were judged, with mark 1.
pub record OthersJudged (s p roots : List ℕ) (n : ℕ) (own : Option ℕ) (i : ℕ) (pages : List ℕ) : Type 0 where
  pub right : (j : ℕ) → j < i → (own ≡ Some j → ⊥) → is_root (file_of p) (root_digest s p roots j) ≡ true
  pub noted : (j : ℕ) → j < i → (own ≡ Some j → ⊥) → JudgedAt p n pages (root_digest s p roots j)
  pub reached : (c : ℕ) → c < n → 1 ≤ note_at pages c
      → (page_mark (get_or pages c 0) ≡ 1) × ReachedByOther s p roots own i (bytes_at (raws_in p) c)

-- One of the roots is none.
abbrev pub SomeWrong : List ℕ → List ℕ → List ℕ → ℕ → Type 0
SomeWrong s p roots count = (j : ℕ) × (j < count) × (is_root (file_of p) (root_digest s p roots j) ≡ false)

abbrev pub OthersSay : List ℕ → List ℕ → List ℕ → List ℕ → ℕ → Option ℕ → ℕ → Bool → List ℕ → List ℕ → List ℕ → List ℕ → List ℕ → Type 0
OthersSay s p labels roots count own n true pages' counts' keys' tags' last' =
    OthersJudged s p roots n own count pages' × Judging s p labels pages' counts' keys' tags' last' n
OthersSay s p labels roots count own n false pages' counts' keys' tags' last' = SomeWrong s p roots count

-- All roots were judged: what they reach is noted, and has mark 1 where another than one's own reaches it.
pub record RootsJudged (s p labels roots : List ℕ) (count : ℕ) (own : Option ℕ) (n : ℕ) (pages : List ℕ) : Type 0 where
  pub notes : Notes s p labels pages n (raws_in p)
  pub right : (j : ℕ) → j < count → is_root (file_of p) (root_digest s p roots j) ≡ true
  pub reached : (c : ℕ) → c < n → 1 ≤ note_at pages c
      → (j : ℕ) × (j < count) × ReachedFrom (file_of p) (root_digest s p roots j) (bytes_at (raws_in p) c)
  pub noted : (c : ℕ) → c < n → (j : ℕ) → j < count
      → ReachedFrom (file_of p) (root_digest s p roots j) (bytes_at (raws_in p) c) → 1 ≤ note_at pages c
  pub marked : (c : ℕ) → c < n → 1 ≤ note_at pages c → page_mark (get_or pages c 0) ≡ 1 → ReachedByOther s p roots own count (bytes_at (raws_in p) c)
  pub unmarked : (c : ℕ) → c < n → ReachedByOther s p roots own count (bytes_at (raws_in p) c) → page_mark (get_or pages c 0) ≡ 1

abbrev pub JudgedSays : List ℕ → List ℕ → List ℕ → List ℕ → ℕ → Option ℕ → ℕ → Bool → List ℕ → Type 0
JudgedSays s p labels roots count own n true pages' = RootsJudged s p labels roots count own n pages'
JudgedSays s p labels roots count own n false pages' = SomeWrong s p roots count

-- ---- number 18
-- Each of the first n pages is noted, or one is not.
abbrev pub AllNoted : List ℕ → ℕ → Bool → Type 0
AllNoted pages n true = (c : ℕ) → c < n → 1 ≤ note_at pages c
AllNoted pages n false = (c : ℕ) × (c < n) × (note_at pages c ≡ 0)

abbrev pub HoldSays : List ℕ → List ℕ → List ℕ → List ℕ → ℕ → ℕ → Bool → List ℕ → List ℕ → Type 0
HoldSays s p k index count n true labels pages = StatesHeld s p k index labels pages count n
HoldSays s p k index count n false labels pages = judge_states (record { states = s; pages = p }) ≡ refused_states WrongStates
