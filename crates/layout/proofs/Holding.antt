-- The key before in a page, held in an array, and the entry of a record after it.
use Prim.Native.Nat.{ℕ, suc, ◌+◌, ◌-◌, ◌≤◌}
use mathlib.Core.Path.{◌≡◌, sym, ap, ◌∙◌}
use mathlib.Core.Bool.{Bool, true, false}
use Rattle.std.specs.Prelude.{None, Some, is_some, Option as OptionOf}
use mathlib.Core.List.{List}
use native.Mathlib.Omega.{arith}
use borrow.Author.Tests.{le-leb}
use lib.Dec.{leb}
use lib.ListN.{length, take, drop, length-take, length-append, length-drop}
use lib.Seq.{take_at, length-take-le}
use Rattle.bytestring.specs.Bytes.{front}
use Rattle.key.specs.Key.{shared}
use Rattle.page.specs.Page.{entry_bytes}
use Rattle.page_writer.specs.Front.{link_held, entry_length, entry_after}
use Rattle.page_writer.proofs.Sizes.{most_number}
use Rattle.index.proofs.Standing.{value_within}
use Rattle.row.specs.Row.{source_of, record_of_word, Stands}
use Rattle.row.proofs.Rows.{word_record}
use Rattle.row.specs.Memory.{Recalls}
use Rattle.row.specs.declared.recall.Recalled.{Recalled}
use Rattle.layout.specs.Entry.{Holding, KeyHeld, EntryTried}
use Rattle.layout.specs.Layout.{Ready}

pub val_length : {s u : List ℕ} {w : ℕ} → Stands s u w → length (record_of_word s u w).val ≡ 33
val_length {s} {u} {w} stands =
    let v = stands.held in
    let k : 32 ≤ length (drop v.slot.value (source_of s u w)) = omega (arith, value_within v.there, length-drop v.slot.value (source_of s u w)) in
    rw (word_record v, ← v.there.bytes) (ap suc (length-take-le 32 (drop v.slot.value (source_of s u w)) k))

pub held_length : {s u keys notes previous : List ℕ} {held : ℕ} → Holding s u keys notes previous held → held ≡ length (take held previous)
held_length {previous = previous} {held} h = sym (length-take-le held previous (omega (arith, h.room, h.fits)))

-- the memory keeps its size
pub same_memory : {s u row keys notes : List ℕ} {lo hi : ℕ} → Ready s u row keys notes lo hi → {keys' notes' previous : List ℕ} {held : ℕ} → Holding s u keys' notes' previous held
    → (length keys' ≡ length keys) × (length notes' ≡ length notes)
same_memory r h = (omega (arith, h.memory.size, h.slots, r.memory.size, r.slots), omega (arith, h.slots, r.slots))

-- a half of the memory has 64 slots
pub half_within : (notes : List ℕ) → length notes ≡ 128 → (base : ℕ) → base ≤ 64 → (base + 64 ≤ length notes) × (length notes ≤ 256)
half_within notes e base h = (omega arith, omega arith)

-- ---- an entry is short
entry_most : (before key : List ℕ) (linked : Bool) → length key ≤ 256 → entry_length before key linked ≤ 353
entry_most before key true h = omega (arith, most_number (shared before key), most_number (length key - shared before key))
entry_most before key false h = omega (arith, most_number (shared before key), most_number (length key - shared before key))

pub short_fits : (before keys : List ℕ) (from size : ℕ) (linked : Bool) (room : ℕ) → size ≤ 256 → 353 ≤ room
    → true ≡ leb (entry_length before (take size (drop from keys)) linked) room
short_fits before keys from size linked room h l =
    let key = take size (drop from keys) in
    sym (le-leb (entry_length before key linked) room (omega (arith, entry_most before key linked (omega (arith, length-take size (drop from keys))))))

-- ---- the record of a word was recalled
module _ {s u keys notes previous : List ℕ} {held : ℕ} {w : ℕ} {keys' notes' : List ℕ} {r : Recalled}
    (h : Holding s u keys notes previous held) (c : Recalls s u w keys' notes' r) (kept : length notes' ≡ length notes) where
  abbrev recalled : List ℕ
  recalled = take r.size (drop r.from keys')

  pub key_room : r.size ≤ length previous
  key_room = omega (arith, c.short, h.room)

  pub key_held : (previous' : List ℕ) → previous' ≡ front recalled previous → KeyHeld s u w keys' notes' previous' r.size
  key_held previous' e =
      let l : length recalled ≡ r.size = length-take-le r.size (drop r.from keys') (omega (arith, c.room, length-drop r.from keys')) in
      record {
        holding = record {
          memory = c.remembers;
          slots = kept ∙ h.slots;
          room = omega (arith, ap length e, length-append recalled (drop (length recalled) previous), length-drop (length recalled) previous, c.short, h.room);
          fits = c.short;
        };
        key = rw e (take_at recalled (drop (length recalled) previous) r.size l) ∙ c.key;
      }

  -- the entry is tried
  module _ (link : OptionOf (List ℕ)) (o : List ℕ) (fits : Bool) (ef : fits ≡ leb (entry_length (take held previous) recalled (is_some link)) (length o)) where
    same_test : fits ≡ leb (entry_length (take held previous) (record_of_word s u w).key (is_some link)) (length o)
    same_test = ef ∙ rw c.key

    pub entry_refused : {previous' : List ℕ} → fits ≡ false → EntryTried s u w (take held previous) link o o keys' notes' previous' None
    entry_refused e = record { room = sym e ∙ same_test; done = tt; memory = c.remembers }

    pub entry_written : (value out previous' : List ℕ) (len : ℕ) → fits ≡ true → value ≡ (record_of_word s u w).val
        → out ≡ front (entry_bytes (entry_after (take held previous) recalled (link_held link) value)) o → len ≡ entry_length (take held previous) recalled (is_some link)
        → previous' ≡ front recalled previous
        → EntryTried s u w (take held previous) link o out keys' notes' previous' (Some (record { len = len; held = r.size }))
    entry_written value out previous' len e ev eo en ep = record {
      room = sym e ∙ same_test;
      done = record { wrote = eo ∙ rw (c.key, ev); size = en ∙ rw c.key; next = key_held previous' ep };
      memory = c.remembers;
    }
