-- The table of a row's first records, and the output that it stands in.
use Rattle.std.specs.Prelude.{Ok, Err, Option, None, Some, is_some}
use Prim.Native.Nat.{ℕ, ◌-◌, ◌≤◌, min}
use mathlib.Core.Path.{◌≡◌, sym, ap, ◌∙◌}
use mathlib.Core.Bool.{true, false, ◌&&◌}
use mathlib.Core.List.{List, ◌++◌, append_assoc}
use native.Mathlib.Omega.{arith}
use borrow.Author.Tests.{le-leb, lt-leb, leb-true, leb-false}
use borrow.Table.Steps.{cases}
use lib.Dec.{leb}
use lib.ListN.{length, take, drop, replicate, length-append, length-drop, length-replicate, take-append-drop}
use lib.Seq.{length-take-le, take_at, take-append-le, length_front}
use Rattle.limits.specs.Limits.{longest}
use Rattle.bytestring.proofs.Lending.{lent, back, back_is}
use Rattle.bytestring.specs.Bytes.{zeros}
use Rattle.answer.specs.declared.Refusal.TheVariants.{NoRoom}
use Rattle.tree.specs.Tree.{Page, top_layer, tree_of}
use Rattle.tree.specs.Record.{Record, spelt}
use Rattle.tree.specs.Table.{bytes_of_page, table, tree_of_set}
use Rattle.row.specs.Row.{Row, records_of}
use Rattle.row.proofs.Memories.{fresh_zeros}
use Rattle.layout.specs.Build.{record_in, span}
use Rattle.layout.specs.Layout.{Ready}
use Rattle.layout.proofs.RowRecords.{row_placed}
use Rattle.writer.specs.Wrote.{page_at, Written}
use Rattle.writer.specs.Output.{fits_output, table_answer, table_output}
use Rattle.writer.specs.declared.pages.Wrote.{Wrote}
use Rattle.writer.proofs.Gaps.{table_done, table_fits, first_page, own_fits}

-- ---- the tree of a row's first records
module _ {s u row : List ℕ} {n : ℕ} (r : Row s u row n) where
  row_tree : (top : ℕ) → top ≡ top_layer (span (record_in s u row) 0 n) → page_at s u row 0 n top ≡ tree_of_set (records_of s u row n)
  unfolding tree_of_set tree_of
  row_tree top e = let z : n - 0 ≡ n = omega arith in rw (z, e, row_placed r)

  -- nothing is remembered at first
  pub row_ready : Ready s u row (replicate 32768 0) (replicate 128 0) 0 n
  row_ready = record {
    range = r;
    order = omega arith;
    memory = fresh_zeros s u (replicate 32768 0) 128 (length-replicate {A = ℕ} 32768 0);
    slots = length-replicate {A = ℕ} 128 0;
  }

-- ---- the output
pub cleared_behind : (o zs : List ℕ) (len : ℕ) → len ≤ length o → zs ≡ zeros (length (lent len o)) → back len o zs ≡ take len o ++ zeros (length o - len)
cleared_behind o zs len h e =
    let size : length (lent len o) ≡ length o - len = length-take-le (length o - len) (drop len o) (omega (arith, length-drop len o)) in
    back_is o (take len o) (drop len o) len (sym (take-append-drop len o)) (length-take-le len o h) zs ∙ rw (e, size)

least_leb : (a b c : ℕ) → leb a (min b c) ≡ leb a b && leb a c
least_leb a b c =
    cases (leb a b)
    (λ e. cases (leb a c)
    (λ f. rw (e, f) (le-leb a (min b c) (omega (arith, leb-true a b e, leb-true a c f))))
    (λ f. rw (e, f) (lt-leb a (min b c) (omega (arith, leb-false a c f)))))
    (λ e. rw e (lt-leb a (min b c) (omega (arith, leb-false a b e))))

-- the bytes of o that are used
pub used_length : (o : List ℕ) (k : ℕ) → k ≡ min (length o) longest → length (take k o) ≡ k
used_length o k e = length-take-le k o (omega arith)

-- the table of t was written into the first k bytes of o
pub record WrittenInto (t : Page Record (List ℕ)) (o : List ℕ) (k : ℕ) (ys : List ℕ) (r : Option Wrote) : Type 0 where
  pub used : k ≡ min (length o) longest
  pub kept : length ys ≡ length (take k o)
  pub written : Written t (take k o) ys r

pub row_written : {s u row : List ℕ} {n : ℕ} → Row s u row n → (top : ℕ) → top ≡ top_layer (span (record_in s u row) 0 n) → {o : List ℕ} {k : ℕ} {ys : List ℕ} {r : Option Wrote}
    → k ≡ min (length o) longest → length ys ≡ length (take k o) → Written (page_at s u row 0 n top) (take k o) ys r → WrittenInto (tree_of_set (records_of s u row n)) o k ys r
row_written row top e used kept w = record { used = used; kept = kept; written = rw (← row_tree row top e) w }

module _ {t : Page Record (List ℕ)} {o : List ℕ} {k : ℕ} {ys : List ℕ} {r : Option Wrote} (w : WrittenInto t o k ys r) where
  lent_length : length (take k o) ≡ k
  lent_length = used_length o k w.used

  pub fit_is : is_some r ≡ fits_output (table (spelt t)) (length o)
  unfolding fits_output
  fit_is = w.written.room ∙ rw (lent_length, w.used) (least_leb (length (table (spelt t))) (length o) longest)

  module _ {v : Wrote} (e : r ≡ Some v) where
    behind : List ℕ
    behind = drop (length (table (spelt t))) (take k o) ++ drop k o

    small : length (table (spelt t)) ≤ k
    small = omega (arith, table_fits w.written e, lent_length)

    behind_length : length behind ≡ length o - length (table (spelt t))
    unfolding behind
    behind_length =
        length-append (drop (length (table (spelt t))) (take k o)) (drop k o)
        ∙ omega (arith, length-drop (length (table (spelt t))) (take k o), length-drop k o, lent_length, small, w.used)

    whole_is : ys ++ drop k o ≡ table (spelt t) ++ behind
    unfolding behind
    whole_is = rw (table_done w.written e).wrote (append_assoc (table (spelt t)) (drop (length (table (spelt t))) (take k o)) (drop k o))

    pub len_small : v.len ≤ longest
    len_small = omega (arith, (table_done w.written e).size, small, w.used)

    pub len_fits : v.len ≤ length (ys ++ drop k o)
    len_fits = omega (arith, (table_done w.written e).size, ap length whole_is, length-append (table (spelt t)) behind)

    own_small : v.own ≤ length ys
    own_small = own_fits w.written w.kept e

    pub root_fits : v.own ≤ length (ys ++ drop k o)
    root_fits = omega (arith, own_small, length-append ys (drop k o))

    pub root_is : take v.own (ys ++ drop k o) ≡ bytes_of_page (spelt t)
    root_is = take-append-le v.own ys (drop k o) own_small ∙ first_page w.written e

    take_is : take v.len (ys ++ drop k o) ≡ table (spelt t)
    take_is = rw whole_is (take_at (table (spelt t)) behind v.len (sym (table_done w.written e).size))

    same : length (ys ++ drop k o) ≡ length o
    same = length_front o ys k w.kept

    pub fits : fits_output (table (spelt t)) (length o) ≡ true
    fits = sym fit_is ∙ ap is_some e

    pub answer_is : Ok v.len ≡ table_answer (table (spelt t)) (length o)
    unfolding table_answer
    answer_is = rw (fits, (table_done w.written e).size)

    pub output_is : take v.len (ys ++ drop k o) ++ zeros (length (ys ++ drop k o) - v.len) ≡ table_output (table (spelt t)) (length o)
    unfolding table_output
    output_is = rw (same, take_is, fits, (table_done w.written e).size)

  -- there was no room
  module _ (e : r ≡ None) where
    pub lacks : fits_output (table (spelt t)) (length o) ≡ false
    lacks = sym fit_is ∙ ap is_some e

    pub no_answer : Err NoRoom ≡ table_answer (table (spelt t)) (length o)
    unfolding table_answer
    no_answer = rw lacks

    pub no_output : zeros (length (ys ++ drop k o)) ≡ table_output (table (spelt t)) (length o)
    unfolding table_output
    no_output = let same : length (ys ++ drop k o) ≡ length o = length_front o ys k w.kept in rw (same, lacks)
