-- The words of rows: where each field stands in a number below 2^64.
use Rattle.std.specs.Prelude.{ℕ, ◌+◌, ◌/◌, ◌%◌, ◌^◌, ◌<◌, ◌≡◌, Bool, ltb}

-- ---- a record: one word
-- It has the places of the record's page and entry, below 2^24 each, and above them a third number, below 2^8: while the register is read the
-- depth of its page, and then the layer of its key.
abbrev pub page_in : ℕ → ℕ
page_in w = w % 2 ^ 24

abbrev pub entry_in : ℕ → ℕ
entry_in w = w / 2 ^ 24 % 2 ^ 24

abbrev pub layer_in : ℕ → ℕ
layer_in w = w / 2 ^ 48 % 2 ^ 8

-- A word of a row is a word of the first register's index, or 2^60 more than one of the second's.
abbrev pub from_second : ℕ
from_second = 2 ^ 60

-- Whether it belongs to the first; and the register as a number, 0 for the first.
abbrev pub is_first : ℕ → Bool
is_first w = ltb w from_second

abbrev pub register_in : ℕ → ℕ
register_in w = w / from_second

-- A word of an index as a word of the second register.
abbrev pub second_word : ℕ → ℕ
second_word w = w + from_second

-- A word of the first register with these fields.
pub record RecordWord (w pg at n : ℕ) : Type 0 where
  pub page : page_in w ≡ pg
  pub entry : entry_in w ≡ at
  pub third : layer_in w ≡ n
  pub first : w < from_second

-- ---- a chain: two words
-- The first has the fields of a record's word: the places of the chain's page with entries and of its first label, and how many pages are
-- above that page.
abbrev pub link_in : ℕ → ℕ
link_in w = entry_in w

abbrev pub above_in : ℕ → ℕ
above_in w = layer_in w

-- The second has the place where that page ends, and three counts, below 2^13 each.
abbrev pub end_in : ℕ → ℕ
end_in w = w % 2 ^ 24

abbrev pub from_in : ℕ → ℕ
from_in w = w / 2 ^ 24 % 2 ^ 13

abbrev pub records_in : ℕ → ℕ
records_in w = w / 2 ^ 37 % 2 ^ 13

abbrev pub below_in : ℕ → ℕ
below_in w = w / 2 ^ 50 % 2 ^ 13

-- A second word with these fields. The counts of a register with too many records need not fit.
pub record SpanWord (w to before under later : ℕ) : Type 0 where
  pub ends : end_in w ≡ to
  pub from : before < 2 ^ 13 → from_in w ≡ before
  pub records : under < 2 ^ 13 → records_in w ≡ under
  pub below : later < 2 ^ 13 → below_in w ≡ later

-- ---- a note on a key that is held: one word
-- It has the place of the key's page and, where a record's word has its entry's, the place of the entry after the key's own; above them the
-- key's length, below 2^12, and which register it belongs to. The place 0 of that entry says that nothing is held.
abbrev pub size_in : ℕ → ℕ
size_in note = note / 2 ^ 48 % 2 ^ 12

-- A note on a key of this length in the word's page, whose entry ends at `next`, of the word's register.
pub record NoteWord (word next size note : ℕ) : Type 0 where
  pub page : page_in note ≡ page_in word
  pub after : entry_in note ≡ next
  pub held : size_in note ≡ size
  pub register : register_in note ≡ register_in word

-- ---- a link in a table: one word
-- It has the place of the link's digest, below 2^32, and the number of the link before it with the same first bits, counted from 1.
abbrev pub place_in : ℕ → ℕ
place_in w = w % 2 ^ 32

abbrev pub older_in : ℕ → ℕ
older_in w = w / 2 ^ 32
