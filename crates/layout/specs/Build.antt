-- The entries of the page of a range of a row.
use Rattle.std.specs.Prelude.{ℕ, zero, suc, ◌-◌, List, [], ◌∷◌, length, get_or}
use Rattle.word.specs.Word.{layer_in}
use Rattle.page.specs.Reading.{concat}
use Rattle.page.specs.Page.{entry_bytes}
use Rattle.tree.specs.Tree.{Gap, empty, Entries, Placed, part, entries_of, gap_of, build}
use Rattle.tree.specs.Record.{Record, spelt_from}
use Rattle.tree.specs.Table.{raw_entries, digest_of}
use Rattle.row.specs.Row.{record_of_word}

-- The i-th record of a row, with its layer.
unfoldable pub record_in : List ℕ → List ℕ → List ℕ → ℕ → Placed Record
record_in s u row i = record { layer = layer_in (get_or row i 0); item = record_of_word s u (get_or row i 0) }

-- m of them, from the i-th on.
unfoldable pub span : (ℕ → Placed Record) → ℕ → ℕ → List (Placed Record)
span f i zero = []
span f i (suc m) = f i ∷ span f (suc i) m

-- What stands in a gap of a page of layer n.
unfoldable pub gap_for : ℕ → List (Placed Record) → Gap Record (List ℕ)
gap_for zero rs = empty
gap_for (suc n) rs = gap_of digest_of (build digest_of n) rs

-- The entries of the page of layer n that the records f lo, to before f hi, make.
unfoldable pub entries_at : ℕ → (ℕ → Placed Record) → ℕ → ℕ → Entries Record (List ℕ)
entries_at n f lo hi = entries_of (gap_for n) (part n (span f lo (hi - lo))).rest

-- Their bytes after a key, and their number.
abbrev pub entries_bytes : List ℕ → Entries Record (List ℕ) → List ℕ
entries_bytes before es = concat entry_bytes (raw_entries (spelt_from before es))

abbrev pub count_of : List ℕ → Entries Record (List ℕ) → ℕ
count_of before es = length (raw_entries (spelt_from before es))
