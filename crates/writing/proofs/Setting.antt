-- One word set in the index of an accepted register: the records are those woven with its own.
use Rattle.std.specs.Prelude.{Result, Ok, Err}
use Prim.Native.Nat.{ℕ, ◌+◌, ◌^◌, ◌≤◌, ◌<◌}
use mathlib.Core.Path.{◌≡◌, sym, ap, subst, ◌∙◌}
use mathlib.Core.Bool.{Bool}
use mathlib.Core.Option.{some}
use mathlib.Core.List.{List, [], ◌∷◌}
use native.Mathlib.Omega.{arith}
use lib.ListN.{length, get_or, set}
use lib.Dec.{ltb}
use borrow.Author.Tests.{ltb-true, ltb-false}
use borrow.Table.Steps.{cases}
use Rattle.word.specs.Word.{from_second}
use Rattle.limits.specs.Limits.{most}
use Rattle.bytestring.specs.Bytes.{Bytes}
use Rattle.value.specs.Value.{value_in}
use Rattle.key.specs.Key.{less}
use Rattle.tree.specs.Record.{Record, records}
use Rattle.tree.specs.Place.{places}
use Rattle.index.proofs.Standing.{value_within}
use Rattle.row.specs.Row.{nothing, source_of, record_of_word, Row, records_of}
use Rattle.row.specs.Fetch.{Fetched, FetchSays}
use Rattle.row.specs.Search.{PositionIs, SearchSays}
use Rattle.row.specs.declared.fetch.FetchedAt.{FetchedAt}
use Rattle.row.proofs.Rows.{source_first, source_second, word_record, word_small, first_record, records_length}
use Rattle.row.proofs.Memories.{no_note}
use Rattle.row.proofs.Counting.{front_few}
use Rattle.promises.specs.Outcome.{place_of}
use Rattle.row_words.specs.RowWords.{Inserted, Single}
use Rattle.choice.specs.Choice.{woven_of, value_at, word_of, RowOf}
use Rattle.choice.proofs.Weaving.{find_at}
use Rattle.writing.proofs.Placing.{inserted_woven, absent_length, replaced_woven}
use Rattle.writing.specs.Setting.{RoomForMore, ToSet}
use Rattle.reading.proofs.Verdicts.{accepted_long, Accepting, row_first, records_first, sorted}
use Rattle.promises.proofs.Lookups.{place_within, place_holds}
use Rattle.reading.proofs.Answering.{searched, position_is, position_within, place_is}

-- the word of a record alone belongs to its page, since without bytes there is no record
pub single_source : {k v page : List ℕ} {w : ℕ} → Single k v page w → (s : List ℕ) → source_of s page w ≡ page
single_source {page} {w} one s =
    cases (ltb w from_second)
    (λ e.
    let there = (one.stands []).held.there in
    absurd (omega (arith, value_within there, ap length (source_first [] page w (ltb-true w from_second e)))))
    (λ e. source_second s page w (ltb-false w from_second e))

-- so that it may be set, where its key was searched for
pub single_to_set : {s index : List ℕ} {n : ℕ} → Accepting s index n → RoomForMore s (length index) → {k v page : List ℕ} {w : ℕ} → Single k v page w
    → length page < 2 ^ 24 → {found : Result (ℕ × ℕ) ℕ} → SearchSays s index n k found → ToSet s page index n found w
single_to_set {s} {n} a more one short searched = record {
  accepted = a.given;
  room = λ few. omega (arith, more n few (accepted_long a.bytes a.given));
  short = short;
  source = single_source one s;
  stands = one.stands s;
  searched = rw (one.spells s) searched;
}

module _ {s u index : List ℕ} {n : ℕ} {found : Result (ℕ × ℕ) ℕ} {word : ℕ} (b : Bytes s) (p : ToSet s u index n found word) where
  abbrev a : Accepting s index n
  a = record { bytes = b; given = p.accepted }

  abbrev key : List ℕ
  key = (record_of_word s u word).key

  abbrev rs : List Record
  rs = records p.accepted.tree

  row : Row s u index n
  row = row_first a u p.short

  -- ---- where the key was found
  module _ (position place : ℕ) (e : found ≡ Ok (position, place)) where
    at : PositionIs key rs (Ok (position, place))
    at = position_is p.accepted key found p.searched position place e

    within : position < n
    within = position_within p.accepted key found p.searched position place e

    there : place_of key rs (places 0 p.accepted.tree) ≡ some place
    there = place_is p.accepted key found p.searched position place e

    old_source : source_of s u (get_or index position 0) ≡ s
    old_source =
        source_first s u (get_or index position 0)
        (omega (arith, word_small s index p.accepted.tree n b p.accepted.judged p.accepted.indexed p.accepted.size p.accepted.room position within))

    pub old_within : place + 32 ≤ length (source_of s u (get_or index position 0))
    old_within = rw old_source (place_within s b p.accepted.tree p.accepted.judged key place there)

    old_value : value_in (source_of s u (get_or index position 0)) place ≡ (record_of_word s u (get_or index position 0)).val
    old_value =
        let same = first_record s index p.accepted.tree n b p.accepted.judged p.accepted.indexed p.accepted.size p.accepted.room u position within in
        let value = place_holds s b p.accepted.tree p.accepted.judged key place there _ (find_at key nothing rs (sorted a) position at.0 at.1) in
        rw old_source (value ∙ ap (λ (r : Record). r.val) (sym same))

    module _ (buffer₀ buffer : List ℕ) (other : FetchedAt) (f : FetchSays u word buffer₀ 0 buffer other) where
      fetched : Fetched (source_of s u word) p.stands.held.slot p.stands.held.there buffer other
      unfolding FetchSays
      fetched =
          let w = p.stands.held in
          (rw (← p.source) at f) w.slot w.there w.page w.entry (no_note (source_of s u word) buffer₀)

      pub new_within : other.value + 32 ≤ length (source_of s u word)
      new_within = omega (arith, fetched.value, value_within p.stands.held.there)

      new_value : value_in (source_of s u word) other.value ≡ (record_of_word s u word).val
      new_value =
          rw fetched.value (p.stands.held.there.bytes ∙ ap (λ (r : Record). r.val) (sym (word_record p.stands.held)))

      pub found_set : (g : Bool) (w : ℕ) → w ≡ word_of g (value_at s u (get_or index position 0) place) (value_at s u word other.value) (get_or index position 0) word
          → (index' : List ℕ) → index' ≡ set index position w → RowOf s u index' n (woven_of g s u index n (word ∷ []) 1)
      found_set g w chosen =
          let all = records_first a u in
          replaced_woven row g p.stands position (rw all (sorted a)) within (rw all at.1) place other.value w old_value new_value chosen

  -- ---- where it was not
  module _ (position : ℕ) (e : found ≡ Err position) where
    counts : PositionIs key (records_of s u index n) (Err position)
    counts = rw (records_first a u) (subst (PositionIs key rs) e (searched p.accepted key found p.searched).1)

    pub absent_within : position ≤ n
    absent_within = omega (arith, counts.0, front_few (λ k. less k key) (records_of s u index n), records_length s u index n p.accepted.room)

    pub absent_many : (g : Bool) → most ≤ n → most < length (woven_of g s u index n (word ∷ []) 1)
    absent_many g h = omega (arith, absent_length row g p.stands position counts.0 counts.1)

    pub absent_set : (g : Bool) (index' : List ℕ) → n < most → length index' ≡ length index → Inserted index n position word index'
        → RowOf s u index' (n + 1) (woven_of g s u index n (word ∷ []) 1)
    absent_set g index' few same = inserted_woven row g p.stands position counts.0 counts.1 index' few (omega (arith, p.room few))

-- ---- room for one record more
-- a short register has at most 255
pub more_short : (s : List ℕ) (words : ℕ) → length s ≤ 13515 → 256 ≤ words → RoomForMore s words
more_short s words h i k few long = omega arith

pub more_long : (s : List ℕ) (words : ℕ) → 4096 ≤ words → RoomForMore s words
more_long s words i k few long = omega arith
