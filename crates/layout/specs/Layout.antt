-- What is asked for the records of a row, and what is said of the page that they make: where its entries stand, and its length.
use Rattle.std.specs.Prelude.{ℕ, zero, suc, ◌+◌, ◌-◌, ◌*◌, ◌≤◌, ◌<◌, max, ◌≡◌, Bool, true, false, List, [], length, get_or}
use Rattle.limits.specs.Limits.{most}
use Rattle.word.specs.Word.{layer_in}
use Rattle.page_writer.specs.Front.{number_length, gap_length}
use Rattle.tree.specs.Tree.{Entries}
use Rattle.tree.specs.Record.{Record}
use Rattle.row.specs.Row.{Row}
use Rattle.row.specs.Memory.{Remembers}
use Rattle.layout.specs.Build.{record_in, entries_at, entries_bytes, count_of}
use Rattle.layout.specs.declared.sizes.Size.{Size}

-- What is asked for the records lo..hi of a row: the words stand for records, and the memory holds the keys that its notes say.
pub record Ready (s u row keys notes : List ℕ) (lo hi : ℕ) : Type 0 where
  pub range : Row s u row hi
  pub order : lo ≤ hi
  pub memory : Remembers s u keys notes
  pub slots : length notes ≡ 128

-- The records from lo to before r are not of layer n, and r is, or is the end.
pub record Run (row : List ℕ) (n lo hi r : ℕ) : Type 0 where
  pub from : lo ≤ r
  pub to : r ≤ hi
  pub other : (j : ℕ) → lo ≤ j → j < r → layer_in (get_or row j 0) ≡ n → ⊥
  pub stop : r < hi → layer_in (get_or row r 0) ≡ n

-- Whether a gap of m records below a page of layer n has a page.
unfoldable pub has_page : ℕ → ℕ → Bool
has_page zero m = false
has_page (suc n) zero = false
has_page (suc n) (suc m) = true

-- The length of a page's entries.
pub record EntriesSized (es : Entries Record (List ℕ)) (len : ℕ) : Type 0 where
  pub is : len ≡ length (entries_bytes [] es)
  pub small : len ≤ 400 * most

-- What the start and the end of a page take.
abbrev pub ends : Size → Bool → ℕ
ends r linked = 3 + number_length r.count + (2 + gap_length linked)

-- A page's length, or of layer 0 the room, and where that is too little, what its start and its end take; the
-- number of its entries, and the position of the first.
pub record Sized (s u row : List ℕ) (lo hi n room : ℕ) (r : Size) : Type 0 where
  pub run : Run row n lo hi r.first
  pub counted : r.count ≡ count_of [] (entries_at n (record_in s u row) r.first hi)
  pub few : r.count ≤ most
  pub leaf : n ≡ 0 → r.own ≡ max room (ends r (has_page n (r.first - lo)))
  pub inner : (n ≡ 0 → ⊥) → r.own ≡ ends r (has_page n (r.first - lo)) + length (entries_bytes [] (entries_at n (record_in s u row) r.first hi))
