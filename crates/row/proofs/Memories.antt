-- Keys held in a memory, and the notes on them.
use Prim.Native.Nat.{ℕ, ◌+◌, ◌-◌, ◌*◌, ◌^◌, ◌≤◌, ◌<◌}
use mathlib.Core.Path.{◌≡◌, sym, ap, subst, ◌∙◌}
use mathlib.Core.List.{List, ◌++◌, append_assoc}
use native.Mathlib.Omega.{arith}
use lib.ListN.{length, take, drop, get_or, set, replicate, length-append, length-drop, length-set, length-replicate, get_or-replicate, take-append-drop}
use lib.Seq.{take_at, take-take, take-append-le, drop_at, drop-append-le, drop-drop, length-take-le, get_or-set_same, get_or-set_other}
use lib.Dec.{ltb, eqb}
use borrow.Author.Tests.{ltb-true, ltb-false, eqb-true, eqb-false}
use borrow.Table.Steps.{cases}
use Rattle.value.specs.Value.{value_in}
use Rattle.word.specs.Word.{is_first, register_in, from_second, NoteWord}
use Rattle.key.proofs.Laws.{lawful_length}
use Rattle.page_reader.specs.Place.{Reads, page_start}
use Rattle.page_keys.proofs.Buffers.{holds_whole}
use Rattle.tree.specs.Record.{Record}
use Rattle.index.specs.Slot.{key_of}
use Rattle.index.proofs.Standing.{steps_end, slot_steps, value_within}
use Rattle.row.specs.Row.{source_of, AtPlaces}
use Rattle.row.specs.Memory.{NoteHolds, NoteFor, buffer_of, Remembers, Recalls}
use Rattle.row.specs.Fetch.{Fetched, FetchSays}
use Rattle.row.specs.declared.fetch.FetchedAt.{FetchedAt}
use Rattle.row.proofs.Rows.{source_first, source_second, source_short, word_record}

-- ---- notes
-- nothing is held
pub no_note : (s buffer : List ℕ) → NoteHolds s 0 buffer
unfolding NoteHolds
no_note s buffer some = absurd (omega arith)

pub other_note : (word note : ℕ) → NoteFor word note 0
unfolding NoteFor
other_note word note s u buffer h = no_note (source_of s u word) buffer

same_source : (s u : List ℕ) (v w : ℕ) → register_in v ≡ register_in w → source_of s u v ≡ source_of s u w
same_source s u v w e =
    cases (is_first w)
    (λ q. source_first s u v (omega (arith, ltb-true w from_second q)) ∙ sym (source_first s u w (ltb-true w from_second q)))
    (λ q. source_second s u v (omega (arith, ltb-false w from_second q)) ∙ sym (source_second s u w (ltb-false w from_second q)))

pub same_note : (word note : ℕ) → register_in note ≡ register_in word → NoteFor word note note
unfolding NoteFor
same_note word note e s u buffer h = subst (λ (v : List ℕ). NoteHolds v note buffer) (same_source s u note word e) h

-- ---- a part of a list, written anew
module _ (xs part : List ℕ) (a n : ℕ) (fits : a + n ≤ length xs) (size : length part ≡ n) where
  abbrev pub with_part : List ℕ
  with_part = take a xs ++ (part ++ drop (a + n) xs)

  front : length (take a xs) ≡ a
  front = length-take-le a xs (omega arith)

  pub part_there : take n (drop a with_part) ≡ part
  part_there = rw (drop_at (take a xs) (part ++ drop (a + n) xs) a front) (take_at part (drop (a + n) xs) n size)

  -- what stands before it is the same
  pub part_before : (i m : ℕ) → i + m ≤ a → take m (drop i with_part) ≡ take m (drop i xs)
  part_before i m h =
      let begins : (q : List ℕ) → take m (drop i (take a xs ++ q)) ≡ take m (drop i (take a xs)) =
      λ q. ap (take m) (drop-append-le i (take a xs) q (omega (arith, front))) ∙ take-append-le m (drop i (take a xs)) q (omega (arith, front, length-drop i (take a xs))) in
      begins (part ++ drop (a + n) xs) ∙ sym (begins (drop a xs)) ∙ ap (λ (l : List ℕ). take m (drop i l)) (take-append-drop a xs)

  -- and what stands behind it
  pub part_behind : (i m : ℕ) → a + n ≤ i → take m (drop i with_part) ≡ take m (drop i xs)
  part_behind i m h =
      let both : List ℕ = take a xs ++ part in
      let long : length both ≡ a + n = length-append (take a xs) part ∙ omega (arith, front, size) in
      let whole : with_part ≡ both ++ drop (a + n) xs = sym (append_assoc (take a xs) part (drop (a + n) xs)) in
      let back : i ≡ a + n + (i - (a + n)) = omega arith in
      let tail : drop (a + n + (i - (a + n))) (both ++ drop (a + n) xs) ≡ drop (a + n + (i - (a + n))) xs =
      sym (drop-drop (i - (a + n)) (a + n) (both ++ drop (a + n) xs))
      ∙ ap (drop (i - (a + n))) (drop_at both (drop (a + n) xs) (a + n) long)
      ∙ drop-drop (i - (a + n)) (a + n) xs in
      ap (take m) (ap (drop i) whole ∙ ap (λ (j : ℕ). drop j (both ++ drop (a + n) xs)) back ∙ tail ∙ ap (λ (j : ℕ). drop j xs) (sym back))

  pub part_length : length with_part ≡ length xs
  part_length =
      length-append (take a xs) (part ++ drop (a + n) xs) ∙ omega (arith, front, size, length-append part (drop (a + n) xs), length-drop (a + n) xs)

-- ---- a memory
-- Nothing is held yet.
pub fresh_memory : (s u keys notes : List ℕ) → length keys ≡ 256 * length notes → ((j : ℕ) → j < length notes → get_or notes j 0 ≡ 0) → Remembers s u keys notes
fresh_memory s u keys notes e f = record {
  size = e;
  holds = λ j h. rw (f j h) (no_note (source_of s u 0) (buffer_of keys j));
}

pub fresh_zeros : (s u keys : List ℕ) (n : ℕ) → length keys ≡ 256 * n → Remembers s u keys (replicate n 0)
fresh_zeros s u keys n e =
    fresh_memory s u keys (replicate n 0) (omega (arith, length-replicate {A = ℕ} n 0))
    (λ j h. get_or-replicate n j 0 0 (omega (arith, length-replicate {A = ℕ} n 0)))

-- One key is written anew, and its note with it.
module _ {s u keys notes : List ℕ} (mem : Remembers s u keys notes) (j : ℕ) (room : j < length notes) (part : List ℕ) (size : length part ≡ 256)
    (note : ℕ) (held : NoteHolds (source_of s u note) note part) where
  fits : 256 * j + 256 ≤ length keys
  fits = omega (arith, mem.size)

  abbrev keys' : List ℕ
  keys' = take (256 * j) keys ++ (part ++ drop (256 * j + 256) keys)

  abbrev notes' : List ℕ
  notes' = set notes j note

  abbrev Held : ℕ → Type 0
  Held i = NoteHolds (source_of s u (get_or notes' i 0)) (get_or notes' i 0) (buffer_of keys' i)

  new_held : (i : ℕ) → i ≡ j → Held i
  new_held i e =
      rw (e, get_or-set_same notes j note 0 room, part_there keys part (256 * j) 256 fits size) held

  old_buffer : (i : ℕ) → (i ≡ j → ⊥) → buffer_of keys' i ≡ buffer_of keys i
  old_buffer i e =
      cases (ltb i j)
      (λ q. part_before keys part (256 * j) 256 fits size (256 * i) 256 (omega (arith, ltb-true i j q)))
      (λ q. part_behind keys part (256 * j) 256 fits size (256 * i) 256 (omega (arith, ltb-false i j q)))

  old_held : (i : ℕ) → (i ≡ j → ⊥) → i < length notes → Held i
  old_held i e h = rw (get_or-set_other notes j i note 0 e, old_buffer i e) (mem.holds i h)

  pub remembers_more : Remembers s u keys' notes'
  remembers_more = record {
    size = part_length keys part (256 * j) 256 fits size ∙ omega (arith, mem.size, length-set notes j note);
    holds = λ i h.
        let within : i < length notes = omega (arith, length-set notes j note) in
        cases (eqb i j) (λ q. new_held i (eqb-true i j q)) (λ q. old_held i (eqb-false i j q) within);
  }

-- ---- a record that is recalled
-- The slot of the word is fetched into the part of the memory that is lent, k bytes, which are 256.
module _ {s u keys notes : List ℕ} {word slot : ℕ} (stands : AtPlaces s u word) (mem : Remembers s u keys notes) (room : slot < length notes)
    (k : ℕ) (whole : k ≡ 256) (note : ℕ) (for : NoteFor word (get_or notes slot 0) note) (part : List ℕ) (found : FetchedAt)
    (f : FetchSays (source_of s u word) word (take k (drop (256 * slot) keys)) note part found) where
  fetched : Fetched (source_of s u word) stands.slot stands.there part found
  unfolding FetchSays NoteFor
  fetched =
      f stands.slot stands.there stands.page stands.entry (rw whole (for s u (buffer_of keys slot) (mem.holds slot room)))

  pub next_small : length s < 2 ^ 24 → length u < 2 ^ 24 → found.next < 2 ^ 24
  next_small h g = omega (arith, fetched.next, stands.there.reads.within, source_short s u word (2 ^ 24) h g)

  pub size_small : found.size ≤ 256
  size_small = omega (arith, fetched.holds.size, lawful_length (key_of stands.slot) stands.lawful)

  module _ (size : length part ≡ 256) (new : ℕ) (of : NoteWord word found.next found.size new) where
    held_in : NoteHolds (source_of s u word) new part
    unfolding NoteHolds
    held_in some count first start =
        let w = stands.there in
        let here : Reads page_start (source_of s u word) stands.slot.page count first =
        subst (λ (i : ℕ). Reads page_start (source_of s u word) i count first) (of.page ∙ stands.page) start in
        record {
          key = key_of stands.slot;
          holds = rw of.held fetched.holds;
          steps = rw (of.after, fetched.next, ← w.key) (steps_end (slot_steps w here) w.reads);
        }

    held : NoteHolds (source_of s u new) new part
    held = subst (λ (v : List ℕ). NoteHolds v new part) (same_source s u word new (sym of.register)) held_in

    abbrev after : List ℕ
    after = take (256 * slot) keys ++ (part ++ drop k (drop (256 * slot) keys))

    after_is : after ≡ take (256 * slot) keys ++ (part ++ drop (256 * slot + 256) keys)
    after_is = rw (whole, drop-drop 256 (256 * slot) keys)

    remembers : Remembers s u after (set notes slot new)
    remembers = rw after_is (remembers_more mem slot room part size new held)

    part_held : buffer_of after slot ≡ part
    part_held = rw after_is (part_there keys part (256 * slot) 256 (omega (arith, mem.size)) size)

    pub recalled : Recalls s u word after (set notes slot new) (record { from = 256 * slot; size = found.size; value = found.value })
    recalled = record {
      remembers = remembers;
      room = omega (arith, remembers.size, length-set notes slot new, size_small);
      short = size_small;
      key =
          sym (take-take found.size 256 (drop (256 * slot) after) size_small) ∙ ap (take found.size) part_held
          ∙ holds_whole fetched.holds (omega (arith, size_small)) ∙ ap (λ (r : Record). r.key) (sym (word_record stands));
      within = omega (arith, fetched.value, value_within stands.there);
      val =
          ap (value_in (source_of s u word)) fetched.value ∙ stands.there.bytes
          ∙ ap (λ (r : Record). r.val) (sym (word_record stands));
    }
