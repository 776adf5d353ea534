-- The first records of a row, each at the layer of its key.
use Prim.Native.Nat.{ℕ, zero, suc, ◌+◌, ◌≤◌, ◌<◌, ◌^◌}
use mathlib.Core.Path.{◌≡◌, refl, sym, ap, ◌∙◌}
use mathlib.Core.List.{List, map}
use native.Mathlib.Omega.{arith}
use lib.ListN.{length, take, drop, get_or}
use lib.Seq.{drop-cons}
use Rattle.word.specs.Word.{layer_in}
use Rattle.key.specs.Layer.{layer_of}
use Rattle.tree.specs.Tree.{top_layer}
use Rattle.tree.specs.Record.{Record, placed}
use Rattle.tree.proofs.Accept.{top_bounded}
use Rattle.row.specs.Row.{record_of_word, Stands, Row, records_of}
use Rattle.row.proofs.Rows.{word_record}
use Rattle.layout.specs.Build.{record_in, span}

-- a word's layer is that of its record's key
record_placed : (s u row : List ℕ) (i : ℕ) → Stands s u (get_or row i 0) → record_in s u row i ≡ placed (record_of_word s u (get_or row i 0))
unfolding record_in
record_placed s u row i v =
    let e : layer_in (get_or row i 0) ≡ layer_of (record_of_word s u (get_or row i 0)).key = v.layer ∙ ap (λ (r : Record). layer_of r.key) (sym (word_record v.held)) in
    rw e

span_placed : (s u row : List ℕ) (m i : ℕ) → i + m ≤ length row → ((j : ℕ) → i ≤ j → j < i + m → Stands s u (get_or row j 0))
    → span (record_in s u row) i m ≡ map placed (map (record_of_word s u) (take m (drop i row)))
unfolding span
span_placed s u row zero i h st = refl
span_placed s u row (suc m) i h st =
    rw (drop-cons row i 0 (omega arith), record_placed s u row i (st i (omega arith) (omega arith)), span_placed s u row m (suc i) (omega arith) (λ j a b. st j (omega arith) (omega arith)))

module _ {s u row : List ℕ} {n : ℕ} (r : Row s u row n) where
  pub row_placed : span (record_in s u row) 0 n ≡ map placed (records_of s u row n)
  unfolding records_of
  row_placed = span_placed s u row n 0 (omega (arith, r.room)) (λ j a b. r.stands j (omega arith))

  -- their highest layer
  pub row_top : (top : ℕ) → top ≡ top_layer (span (record_in s u row) 0 n) → top ≡ top_layer (map placed (records_of s u row n))
  row_top top e = e ∙ ap top_layer row_placed

  pub row_top_small : (top : ℕ) → top ≡ top_layer (span (record_in s u row) 0 n) → top < 2 ^ 32
  row_top_small top e = omega (arith, row_top top e, top_bounded (records_of s u row n))
