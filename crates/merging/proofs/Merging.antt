-- The merge: from what its parts say to the outcome.
use Prim.Native.Nat.{ℕ, ◌^◌, ◌≤◌, ◌<◌}
use mathlib.Core.Path.{◌≡◌, refl, ap, ◌∙◌}
use mathlib.Core.Bool.{true}
use mathlib.Core.List.{List}
use native.Mathlib.Omega.{arith}
use lib.ListN.{length}
use Rattle.answer.specs.declared.Refusal.{Refusal}
use Rattle.tree.specs.Record.{Record, records}
use Rattle.tree.specs.Table.{SpeltTree}
use Rattle.tree.specs.Judge.{due, refused, accepted, judge}
use Rattle.row.specs.Row.{Row}
use Rattle.row.proofs.Rows.{word_small}
use Rattle.promises.specs.Map.{merge}
use Rattle.head.specs.declared.Head.{Head}
use Rattle.promises.specs.Moved.{stopped, merge_plan, merge_outcome}
use Rattle.row_words.specs.RowWords.{BelowSecond, ToSecond}
use Rattle.choice.specs.Choice.{woven_of}
use Rattle.choice.proofs.Weaving.{weave_merge}
use Rattle.reading.proofs.Verdicts.{Accepting, t, sorted, records_first, row_second, records_second}
use Rattle.checking.specs.Lent.{TrueOf}
use Rattle.writing.specs.Writing.{moved_to}
use Rattle.writing.proofs.Moving.{plan_stopped, plan_written}

-- ---- the outcome
module _ (s : List ℕ) (h : Head) (u : List ℕ) (room : ℕ) (t : SpeltTree) (e : judge s ≡ accepted t) (own : TrueOf s h) where
  pub merge_second_refused : {r : Refusal} → judge u ≡ refused r → merge_outcome s h u room ≡ stopped r
  unfolding merge_outcome merge_plan due
  merge_second_refused f = plan_stopped h (merge_plan (judge u)) room s t e own (rw f)

  pub merge_written : (w : SpeltTree) → judge u ≡ accepted w → moved_to (merge (records t) (records w)) room ≡ merge_outcome s h u room
  unfolding merge_outcome merge_plan due
  merge_written w f = rw f (plan_written h (merge_plan (accepted w)) room s t e own refl)

-- ---- the words of the second register
module _ {u others : List ℕ} {m : ℕ} (b : Accepting u others m) where
  pub words_below : BelowSecond others m
  unfolding BelowSecond
  words_below i h = omega (arith, word_small u others (t b) m b.bytes b.given.judged b.given.indexed b.given.size b.given.room i h)

  module _ (others' : List ℕ) (same : length others' ≡ length others) (moved : ToSecond others m others') where
    within : m ≤ length others'
    within = omega (arith, b.given.room)

    pub moved_row : (s : List ℕ) → length s < 2 ^ 24 → Row s u others' m
    unfolding ToSecond
    moved_row s = row_second b s others' within moved

    pub merge_done : {s index : List ℕ} {n : ℕ} → Accepting s index n → (h : Head) → TrueOf s h → (out : ℕ)
        → moved_to (woven_of true s u index n others' m) out ≡ merge_outcome s h u out
    unfolding ToSecond woven_of
    merge_done {s} a h own out =
        ap (λ (rs : List Record). moved_to rs out)
        (rw (records_first a u, records_second b s others' within moved) (weave_merge (records (t b)) (records (t a)) (sorted b)))
        ∙ merge_written s h u out (t a) a.given.judged own (t b) b.given.judged
