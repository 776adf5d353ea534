-- The two buffers of states, judged: what is at hand of those that are accepted.
use Rattle.answer.specs.declared.Refusal.{Refusal}
use Rattle.std.specs.Prelude.{ℕ, ◌≤◌, ◌<◌, ◌≡◌, false, ◌⊎◌, List, [], ◌∷◌, map, get_or, Result, Ok, Err}
use Rattle.bytestring.specs.Bytes.{equal}
use Rattle.value.specs.Value.{value_digest}
use Rattle.page.specs.Page.{RawPage, page_bytes}
use Rattle.tree.specs.Record.{Record, records}
use Rattle.states.specs.States.{refused_states, accepted_states, gathered_states, judge_states}
use Rattle.summaries.specs.Summary.{ReachedFrom}
use Rattle.index.specs.Accepted.{AcceptedIndex}
use Rattle.filing.specs.Filed.{bytes_at, pages_by_digest}
use Rattle.summing.specs.Summed.{page_mark, note_at}
use Rattle.gathering.specs.Gathered.{Notes}

-- A sequence has at most so many pages with digests that rise: 47 bytes each, and one empty page of 7.
abbrev pub most_pages : ℕ
most_pages = 89241

-- At most 89,240 links, 47 bytes for each, and 4,096 roots have a word.
abbrev pub most_words : ℕ
most_words = 93336

unfoldable pub AmongRecords : Record → List Record → Type 0
AmongRecords r [] = ⊥
AmongRecords r (q ∷ rs) = (r ≡ q) ⊎ AmongRecords r rs

-- A record of a list whose key is another than k, and from whose digest a page is reached.
unfoldable pub ReachedOther : List ℕ → List Record → List ℕ → List Record → Type 0
ReachedOther k pages q rs =
    (r : Record) × AmongRecords r rs × (equal k r.key ≡ false) × ReachedFrom pages (value_digest r.val) q

-- The states register with its index, the pages of the sequence with their labels and notes, and the map that both hold. A page has mark 1
-- where a state reaches it whose key is another than k, and nowhere else.
pub record StatesHeld (s p k index labels pages : List ℕ) (count n : ℕ) : Type 0 where
  pub indexed : AcceptedIndex s index count
  pub raws : List RawPage
  pub notes : Notes s p labels pages n raws
  pub judged : judge_states (record { states = s; pages = p }) ≡ accepted_states (gathered_states (records indexed.tree) (map page_bytes raws))
  pub all : (i : ℕ) → i < n → 1 ≤ note_at pages i
  pub marked : (i : ℕ) → i < n → page_mark (get_or pages i 0) ≡ 1 → ReachedOther k (pages_by_digest raws) (bytes_at raws i) (records indexed.tree)
  pub unmarked : (i : ℕ) → i < n → ReachedOther k (pages_by_digest raws) (bytes_at raws i) (records indexed.tree) → page_mark (get_or pages i 0) ≡ 1

abbrev pub StatesSay : List ℕ → List ℕ → List ℕ → Result (ℕ × ℕ) Refusal → List ℕ → List ℕ → List ℕ → Type 0
StatesSay s p k (Ok (count, n)) index labels pages = StatesHeld s p k index labels pages count n
StatesSay s p k (Err r) index labels pages = judge_states (record { states = s; pages = p }) ≡ refused_states r
