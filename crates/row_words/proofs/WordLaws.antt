-- Words of rows: those of the second register, one left out, one inserted, and that of a record alone.
use Prim.Native.Nat.{ℕ, suc, ◌+◌, ◌-◌, ◌≤◌, ◌<◌}
use mathlib.Core.Path.{◌≡◌, refl, sym, ap, subst, ◌∙◌}
use mathlib.Core.Bool.{true, false}
use mathlib.Core.Option.{none}
use mathlib.Core.List.{List, [], ◌∷◌, ◌++◌, append_assoc}
use native.Mathlib.Nat.{add-zero}
use native.Mathlib.Numerals.{add-one}
use native.Mathlib.Omega.{arith}
use lib.ListN.{length, take, drop, get_or, set, length-drop}
use Rattle.std.proofs.lemmas.List.{set-append_left}
use lib.Seq.{paste, take-paste, take-set-lt, take_all, take-suc-set, drop_at, drop-set-lt, drop-drop, get_or-drop, get_or-set_same, get_or-set_other, length-take-le}
use borrow.Author.Count.{below_more, below_none}
use Rattle.bytestring.proofs.Lending.{lent, back, onto}
use Rattle.bytestring.proofs.Tools.{part_taken}
use Rattle.bytestring.specs.Bytes.{front}
use Rattle.word.specs.Word.{from_second, second_word, RecordWord}
use Rattle.value.specs.Value.{is_value}
use Rattle.key.specs.Key.{lawful, shared}
use Rattle.key.specs.Layer.{layer_of}
use Rattle.key.proofs.Laws.{lawful_length, shared_nil, shared_rebuilt}
use Rattle.page.specs.Reading.{exactly}
use Rattle.page.specs.Number.{array}
use Rattle.page.specs.Page.{RawEntry, entry_bytes}
use Rattle.page_reader.specs.Place.{Reads, page_start}
use Rattle.page_writer.specs.Front.{number_length, entry_length, entry_after, page_start_bytes}
use Rattle.page.proofs.Numbers.{number_reads}
use Rattle.page.proofs.Pages.{GoodEntry}
use Rattle.page.proofs.Standing.{size_of_entry, value_there}
use Rattle.page_writer.proofs.Sizes.{length_first, length_page_start, most_number}
use Rattle.index.specs.Slot.{Slot}
use Rattle.index.specs.Standing.{here, SlotAt}
use Rattle.index.proofs.Standing.{reads_there, entry_there}
use Rattle.row.specs.Row.{Stands}
use Rattle.row.proofs.Rows.{leads_second, word_record}
use Rattle.row_words.specs.RowWords.{BelowSecond, ToSecond, LeftOut, Inserted, Single}

-- ---- a row that is the same from a position on
module _ (row row' : List ℕ) (i : ℕ) (same : drop i row' ≡ drop i row) where
  word_on : (j : ℕ) → get_or row' (i + j) 0 ≡ get_or row (i + j) 0
  word_on j = sym (get_or-drop i row' j 0) ∙ ap (λ (l : List ℕ). get_or l j 0) same ∙ get_or-drop i row j 0

  pub word_here : get_or row' i 0 ≡ get_or row i 0
  word_here = rw add-zero at (word_on 0)

  same_on : (w : ℕ) → drop (i + 1) (set row' i w) ≡ drop (i + 1) row
  same_on w = drop-set-lt (i + 1) row' i w (omega arith) ∙ sym (drop-drop 1 i row') ∙ ap (drop 1) same ∙ drop-drop 1 i row

-- ---- words of the second register
-- The first i words have become the second register's, and those from i on are as they were.
pub record ChangedSoFar (index index' : List ℕ) (i : ℕ) : Type 0 where
  pub done : ToSecond index i index'
  pub left : drop i index' ≡ drop i index

pub changed_none : (index : List ℕ) → ChangedSoFar index index 0
unfolding ToSecond
changed_none index = record { done = below_none (λ (j : ℕ). get_or index j 0 ≡ second_word (get_or index j 0)); left = refl }

module _ (index index' : List ℕ) (i : ℕ) (u : ChangedSoFar index index' i) where
  -- the next word has room for the sum
  pub next_below : (n : ℕ) → BelowSecond index n → i < n → get_or index' i 0 < from_second
  unfolding BelowSecond
  next_below n b h = rw (word_here index index' i u.left) (b i h)

  pub changed_more : i < length index' → (w : ℕ) → w ≡ second_word (get_or index' i 0) → ChangedSoFar index (set index' i w) (i + 1)
  unfolding ToSecond
  changed_more h w e = record {
    done = below_more (λ (j : ℕ). get_or (set index' i w) j 0 ≡ second_word (get_or index j 0)) i
        (λ j g. get_or-set_other index' i j w 0 (λ e. omega arith) ∙ u.done j g)
        (get_or-set_same index' i w 0 h ∙ e ∙ rw (word_here index index' i u.left));
    left = same_on index index' i u.left w;
  }

  pub changed_all : (n : ℕ) → i ≤ n → n ≤ i → ToSecond index n index'
  changed_all n h g = let e : n ≡ i = omega arith in rw e u.done

-- ---- a word left out
-- the words behind it were copied to its place
pub left_out : (row : List ℕ) (n at : ℕ) → at < n → n ≤ length row → (row' : List ℕ) → row' ≡ paste row at (drop (at + 1) row) (n - (at + 1)) → LeftOut row n at row'
unfolding LeftOut
left_out row n at h few row' e =
    let z : n - 1 ≡ at + (n - (at + 1)) = omega arith in
    rw (e, z, take-paste row at (drop (at + 1) row) (n - (at + 1)) (omega arith) (omega (arith, length-drop (at + 1) row)), part_taken n (at + 1) row)

-- ---- a word inserted
-- the words from its place on were copied to the place behind it
pub word_inserted : (row : List ℕ) (n at word : ℕ) → at ≤ n → n < length row → (row' : List ℕ) → row' ≡ paste row (at + 1) (drop at row) (n - at) → Inserted row n at word (set row' at word)
unfolding Inserted
word_inserted row n at word h few row' e =
    let z : n + 1 ≡ at + 1 + (n - at) = omega arith in
    let moved : take (n + 1) row' ≡ take (suc at) row ++ drop at (take n row) =
    rw (e, z, take-paste row (at + 1) (drop at row) (n - at) (omega arith) (omega (arith, length-drop at row)), part_taken n at row, add-one at) in
    take-set-lt (n + 1) row' at word (omega arith)
    ∙ rw (moved, set-append_left (take (suc at) row) (drop at (take n row)) at word (omega (arith, length-take-le (suc at) row (omega arith))), ← take-set-lt (suc at) row at word (omega arith), take-suc-set row at word (omega arith))
    (append_assoc (take at row) (word ∷ []) (drop at (take n row)))

-- ---- one record alone
abbrev entry_of : List ℕ → List ℕ → RawEntry
entry_of key val = entry_after [] key none val

-- the part that is lent
pub part_length : (l : List ℕ) (from : ℕ) → length (lent from l) ≡ length l - from
part_length l from = rw (take_all (length l - from) (drop from l) (omega (arith, length-drop from l))) (length-drop from l)

pub entry_short : (key : List ℕ) → length key ≤ 256 → entry_length [] key false ≤ 400
entry_short key h = omega (arith, most_number (length key - shared [] key), most_number (shared [] key))

module _ (key val page : List ℕ) (rule : lawful key ≡ true) (right : is_value val ≡ true) (at : ℕ) (begins : at ≡ 3 + number_length 1)
    (out ys : List ℕ) (start : out ≡ front (page_start_bytes 1) page) (entry : ys ≡ front (entry_bytes (entry_of key val)) (lent at out)) where
  abbrev bytes : List ℕ
  bytes = back at out ys

  rest : List ℕ
  rest = drop (length (page_start_bytes 1 ++ entry_bytes (entry_of key val))) page

  four : at ≡ 4
  four = omega (arith, length_first 1 (omega arith))

  start_size : length (page_start_bytes 1) ≡ at
  start_size = length_page_start 1 ∙ sym begins

  whole : drop 0 bytes ≡ page_start_bytes 1 ++ (entry_bytes (entry_of key val) ++ rest)
  unfolding rest
  whole =
      onto page (page_start_bytes 1) (entry_bytes (entry_of key val)) at out ys start start_size entry
      ∙ append_assoc (page_start_bytes 1) (entry_bytes (entry_of key val)) rest

  at_entry : drop at bytes ≡ entry_bytes (entry_of key val) ++ rest
  at_entry = ap (drop at) whole ∙ drop_at (page_start_bytes 1) (entry_bytes (entry_of key val) ++ rest) at start_size

  good : GoodEntry (entry_of key val)
  unfolding entry_after
  good = rw (shared_nil key) (record { shares = omega arith; remainder = omega (arith, lawful_length key rule); after = tt; val = right })

  reads_start : Reads page_start bytes 0 1 at
  unfolding exactly page_start_bytes
  reads_start =
      let more : List ℕ = entry_bytes (entry_of key val) ++ rest in
      let ends : 0 + length (page_start_bytes 1) ≡ at = omega (arith, start_size) in
      subst (Reads page_start bytes 0 1) ends
      (reads_there page_start 1 bytes 0 (page_start_bytes 1) more (number_reads array 1 more (omega arith)) (omega (arith, start_size, four)) whole)

  slot : Slot
  slot = record { depth = 0; page = 0; entry = at; value = at + length (entry_bytes (entry_of key val)) - 32; item = record { key = key; val = val } }

  slot_there : SlotAt bytes slot
  unfolding slot entry_after
  slot_there = record {
    count = 1;
    first = at;
    start = reads_start;
    before = [];
    steps = here;
    spells = entry_of key val;
    past = at + length (entry_bytes (entry_of key val));
    reads = entry_there bytes at (entry_of key val) rest good at_entry;
    key = shared_rebuilt [] key;
    val = refl;
    value = omega (arith, size_of_entry (entry_of key val) good.val);
    bytes = value_there (entry_of key val) good.val bytes at rest at_entry;
  }

  module _ (layer w : ℕ) (el : layer ≡ layer_of key) (made : RecordWord w 0 at layer) where
    single_stands : (s : List ℕ) → Stands s bytes (second_word w)
    unfolding slot
    single_stands s =
        let leads = leads_second s bytes w in
        record {
          held = record {
            slot = slot;
            there = rw leads.source slot_there;
            page = leads.page ∙ made.page;
            entry = leads.entry ∙ made.entry;
            lawful = rule;
          };
          layer = leads.layer ∙ made.third ∙ el;
        }

    pub single_is : Single key val bytes (second_word w)
    unfolding slot single_stands
    single_is = record { stands = single_stands; spells = λ s. word_record (single_stands s).held }
