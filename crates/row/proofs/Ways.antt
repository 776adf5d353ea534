-- The way to the entry at a word's places, from the start of its page or from a key held, and the key that the buffer holds on it.
use Rattle.std.specs.Prelude.{Result, Ok, Err, Option, Some, None}
use Prim.Native.Nat.{ℕ, ◌+◌, ◌-◌, ◌≤◌, ◌<◌}
use mathlib.Core.Path.{◌≡◌, sym, subst, ◌∙◌}
use mathlib.Core.List.{List}
use native.Mathlib.Omega.{arith}
use lib.ListN.{length, drop}
use Rattle.page_reader.specs.Place.{EntryHere, Located, LocatedIs, NumberIs, page_start, Reads, read_stop}
use Rattle.page.specs.Page.{entry as entry_reader}
use Rattle.page_reader.specs.declared.Stop.{Stop}
use Rattle.page_reader.specs.declared.EntryAt.{EntryAt}
use Rattle.page_keys.specs.Buffer.{HoldsKey, Extended}
use Rattle.page_keys.proofs.Buffers.{holds_none}
use Rattle.index.specs.Slot.{Slot}
use Rattle.word.specs.Word.{page_in, entry_in, size_in}
use Rattle.index.specs.Standing.{SlotAt}
use Rattle.index.proofs.Standing.{same_end, read_not_stopped, steps_ahead, steps_done, steps_next, steps_there, steps_split, slot_steps, slot_key, slot_value}
use Rattle.row.specs.Memory.{NoteHolds}
use Rattle.row.specs.Fetch.{FetchSays, OnTheWay, StartSays}
use Rattle.row.specs.declared.fetch.FetchedAt.{FetchedAt}

-- ---- where the way begins
module _ (s : List ℕ) (page : ℕ) (m : Result (ℕ × ℕ) Stop) (v : NumberIs page_start s page m) where
  -- at the first entry of the page
  pub from_first_lem : (n first : ℕ) → m ≡ Ok (n, first) → (entry note : ℕ) → StartSays s page entry note (Some (first, 0))
  unfolding OnTheWay
  from_first_lem n first q entry note buffer x w p e h =
      let start : Reads page_start s x.page n first = subst (λ (i : ℕ). Reads page_start s i n first) p (subst (NumberIs page_start s page) q v) in
      record { key = _; holds = holds_none buffer; steps = slot_steps w start }

  -- no page begins there
  pub from_nowhere : (stop : Stop) → m ≡ Err stop → (entry note : ℕ) → StartSays s page entry note None
  from_nowhere stop q entry note x w p =
      let at-page : page_start (drop x.page s) ≡ read_stop stop =
      subst (λ (i : ℕ). page_start (drop i s) ≡ read_stop stop) p (subst (NumberIs page_start s page) q v) in
      read_not_stopped w.start stop at-page

-- after the key that the note is about
pub from_note : (s : List ℕ) (page entry note : ℕ) → 0 < entry_in note → page_in note ≡ page → entry_in note ≤ entry
    → StartSays s page entry note (Some (entry_in note, size_in note))
unfolding OnTheWay NoteHolds
from_note s page entry note some same_page before buffer x w p e h =
    let start : Reads page_start s (page_in note) w.count w.first = subst (λ (i : ℕ). Reads page_start s i w.count w.first) (sym (same_page ∙ p)) w.start in
    let y = h some w.count w.first start in
    record { key = y.key; holds = y.holds; steps = steps_split y.steps w.steps (omega arith) }

-- ---- what a start tells
module _ (s : List ℕ) (page entry note : ℕ) (m : Option (ℕ × ℕ)) (v : StartSays s page entry note m) where
  pub way_begins : (first size : ℕ) → m ≡ Some (first, size) → (buffer : List ℕ) → OnTheWay s page entry note buffer first buffer size
  way_begins first size q = subst (StartSays s page entry note) q v

  pub no_way : m ≡ None → (word : ℕ) → page ≡ page_in word → (buffer buffer' : List ℕ) (r : FetchedAt) → FetchSays s word buffer note buffer' r
  unfolding FetchSays
  no_way q word same_page buffer buffer' r x w p e h = absurd (subst (StartSays s page entry note) q v x w (same_page ∙ p))

-- ---- an entry that is located
module _ (s : List ℕ) (at : ℕ) (m : Result EntryAt Stop) (v : LocatedIs s at m) (e : EntryAt) (q : m ≡ Ok e) where
  located : Located s at e
  located = subst (LocatedIs s at) q v

  pub located_inside : e.remainder + e.size ≤ length s
  located_inside = omega (arith, located.inside, located.within)

  pub located_shares : e.shares < 65536
  located_shares = located.shares

  pub located_size : e.size < 65536
  located_size = located.size

  pub nearer : length s - e.end < length s - at
  nearer = omega (arith, located.ahead, located.within)

-- ---- a turn of the loop
module _ (s : List ℕ) (word page entry note at : ℕ) (buffer₀ buffer : List ℕ) (size : ℕ) (same_page : page ≡ page_in word) (same_entry : entry ≡ entry_in word)
    (u : OnTheWay s page entry note buffer₀ at buffer size) (m : Result EntryAt Stop) (v : LocatedIs s at m) where
  -- before the slot's entry
  module _ (h : at < entry) where
    pub way_on : (e : EntryAt) → m ≡ Ok e → (buffer' : List ℕ) (size' : ℕ)
        → Extended buffer size s e.shares e.remainder e.size buffer' size' → OnTheWay s page entry note buffer₀ e.end buffer' size'
    unfolding OnTheWay Extended
    way_on e q buffer' size' z x w p k held =
        let y = u x w p k held in
        let before : at < x.entry = omega (arith, k) in
        steps_there y.steps before (λ a to r.
        record { key = _; holds = z y.key y.holds; steps = steps_next y.steps before ((located s at m v e q).here a to r).whole })

    pub way_stops : (stop : Stop) → m ≡ Err stop → (buffer' : List ℕ) (r : FetchedAt) → FetchSays s word buffer₀ note buffer' r
    unfolding OnTheWay FetchSays
    way_stops stop q buffer' r x w p k held =
        steps_there (u x w (same_page ∙ p) (same_entry ∙ k) held).steps (omega (arith, same_entry, k)) (λ a to reads.
        absurd (subst (LocatedIs s at) q v a to reads))

  -- at the slot's entry
  module _ (h : entry ≤ at) where
    arrived : (x : Slot) (w : SlotAt s x) → page_in word ≡ x.page → entry_in word ≡ x.entry → NoteHolds s note buffer₀ → at ≡ x.entry
    unfolding OnTheWay
    arrived x w p k held = omega (arith, same_entry, k, steps_ahead (u x w (same_page ∙ p) (same_entry ∙ k) held).steps)

    -- where it is read
    entry_read : (x : Slot) (w : SlotAt s x) → at ≡ x.entry → Reads entry_reader s at w.spells w.past
    entry_read x w there = subst (λ (i : ℕ). Reads entry_reader s i w.spells w.past) (sym there) w.reads

    pub way_ends : (e : EntryAt) → m ≡ Ok e → (buffer' : List ℕ) (size' : ℕ) → Extended buffer size s e.shares e.remainder e.size buffer' size'
        → FetchSays s word buffer₀ note buffer' (record { size = size'; value = e.value; next = e.end })
    unfolding OnTheWay Extended FetchSays
    way_ends e q buffer' size' z x w p k held =
        let y = u x w (same_page ∙ p) (same_entry ∙ k) held in
        let there : at ≡ x.entry = arrived x w p k held in
        let found : EntryHere s at e = (located s at m v e q).here w.spells w.past (entry_read x w there) in
        let here : EntryHere s x.entry e = subst (λ (i : ℕ). EntryHere s i e) there found in
        let before : y.key ≡ w.before = steps_done y.steps (omega (arith, there)) in
        record {
          holds = subst (HoldsKey buffer' size') (slot_key w here) (z w.before (subst (HoldsKey buffer size) before y.holds));
          value = slot_value w here;
          next = same_end here.whole w.reads;
        }

    pub way_breaks : (stop : Stop) → m ≡ Err stop → (buffer' : List ℕ) (r : FetchedAt) → FetchSays s word buffer₀ note buffer' r
    unfolding FetchSays
    way_breaks stop q buffer' r x w p k held =
        absurd (subst (LocatedIs s at) q v w.spells w.past (entry_read x w (arrived x w p k held)))
