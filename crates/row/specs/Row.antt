-- A row of records that stand in two registers: a word for each.
use Rattle.std.specs.Prelude.{ℕ, zero, suc, ◌-◌, ◌^◌, ◌≤◌, ◌<◌, ◌≡◌, true, cond, List, [], map, length, take, drop, get_or, eqb}
use Rattle.limits.specs.Limits.{most}
use Rattle.word.specs.Word.{page_in, entry_in, layer_in, is_first}
use Rattle.key.specs.Key.{lawful}
use Rattle.key.specs.Layer.{layer_of}
use Rattle.page.specs.Reading.{Read, read, ends_early, departs}
use Rattle.page.specs.Page.{RawEntry, entry}
use Rattle.page_reader.specs.Place.{page_start}
use Rattle.tree.specs.OnePage.{key_after}
use Rattle.tree.specs.Record.{Record}
use Rattle.index.specs.Slot.{Slot, key_of}
use Rattle.index.specs.Standing.{SlotAt}

-- The register that a word belongs to.
unfoldable pub source_of : List ℕ → List ℕ → ℕ → List ℕ
source_of s u w = cond (is_first w) s u

-- What is read, taken on; nothing where the reading stops.
pub nothing : Record
nothing = record { key = []; val = [] }

unfoldable pub when_read : {A : Type 0} → Read A → (A → List ℕ → Record) → Record
when_read (read a rest) f = f a rest
when_read ends_early f = nothing
when_read departs f = nothing

-- Entry by entry from `at`, where the entry comes after the key `before`, to the entry at `to`: the record that it spells.
unfoldable pub record_from : ℕ → List ℕ → ℕ → List ℕ → ℕ → Record
record_from zero s at before to = nothing
record_from (suc more) s at before to =
    when_read (entry (drop at s)) (λ (e : RawEntry) (rest : List ℕ).
    cond (eqb at to) (record { key = key_after before e; val = e.val }) (record_from more s (length s - length rest) (key_after before e) to))

-- The record whose page and entry stand at the places in a word.
unfoldable pub record_at : List ℕ → ℕ → Record
record_at s w =
    when_read (page_start (drop (page_in w) s)) (λ (count : ℕ) (rest : List ℕ).
    record_from (length s) s (length s - length rest) [] (entry_in w))

unfoldable pub record_of_word : List ℕ → List ℕ → ℕ → Record
record_of_word s u w = record_at (source_of s u w) w

-- A record with a lawful key stands at the places in a word.
pub record AtPlaces (s u : List ℕ) (w : ℕ) : Type 0 where
  pub slot : Slot
  pub there : SlotAt (source_of s u w) slot
  pub page : page_in w ≡ slot.page
  pub entry : entry_in w ≡ slot.entry
  pub lawful : lawful (key_of slot) ≡ true

-- The same, and the word has the layer of its key.
pub record Stands (s u : List ℕ) (w : ℕ) : Type 0 where
  pub held : AtPlaces s u w
  pub layer : layer_in w ≡ layer_of (key_of held.slot)

-- The first n words of a row stand for records.
pub record Row (s u row : List ℕ) (n : ℕ) : Type 0 where
  pub few : n ≤ most
  pub room : n ≤ length row
  pub first : length s < 2 ^ 24
  pub second : length u < 2 ^ 24
  pub stands : (i : ℕ) → i < n → Stands s u (get_or row i 0)

unfoldable pub records_of : List ℕ → List ℕ → List ℕ → ℕ → List Record
records_of s u row n = map (record_of_word s u) (take n row)
