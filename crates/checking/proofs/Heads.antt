-- The head of a register that is accepted, and the verdict on a register that is lent with a head.
use Rattle.std.specs.Prelude.{Result, Ok, Err}
use Prim.Native.Nat.{ℕ, ◌^◌, ◌<◌}
use mathlib.Core.Path.{◌≡◌, sym, ap, subst, ◌∙◌}
use mathlib.Core.Bool.{true, false}
use mathlib.Core.List.{List, map}
use lib.ListN.{length}
use Rattle.fips180.specs.Hash.{sha256}
use Rattle.answer.specs.declared.Refusal.{Refusal}
use Rattle.answer.specs.declared.Refusal.TheVariants.{UntrueHead}
use Rattle.tree.specs.Tree.{top_layer}
use Rattle.tree.specs.Record.{Record, records, placed}
use Rattle.tree.specs.Table.{SpeltTree, bytes_of_page}
use Rattle.tree.specs.Judge.{refused, accepted, judge}
use Rattle.tree.proofs.Laws.{one_tree}
use Rattle.index.specs.Accepted.{AcceptedIndex, ChainRow}
use Rattle.layout.specs.Build.{record_in, span}
use Rattle.layout.proofs.RowRecords.{row_top, row_top_small}
use Rattle.head.specs.declared.Head.{Head}
use Rattle.head.specs.Head.{head_of, same_head, zero_head}
use Rattle.head.proofs.Laws.{same_fields, same_head_lem, root_digest_lem}
use Rattle.promises.specs.Outcome.{check_verdict, check_outcome}
use Rattle.reading.proofs.Verdicts.{Accepting, short, row_first, records_first}
use Rattle.checking.specs.Lent.{lent_verdict, TrueOf, LentSays}

-- ---- the head by its fields
module _ {s index : List ℕ} {count : ℕ} (a : Accepting s index count) (top : ℕ) (e : top ≡ top_layer (span (record_in s s index) 0 count)) where
  pub top_small : top < 2 ^ 32
  top_small = row_top_small (row_first a s (short a)) top e

  pub head_is : (digest : List ℕ) → ((t : SpeltTree) → judge s ≡ accepted t → digest ≡ sha256 (bytes_of_page t)) → (t : SpeltTree)
      → judge s ≡ accepted t → record { count = count; layer = top; digest = digest } ≡ head_of (records t)
  unfolding head_of
  head_is digest d t j =
      let same : records a.given.tree ≡ records t = ap records (one_tree s a.given.judged j) in
      same_fields (a.given.size ∙ ap length same)
      (row_top (row_first a s (short a)) top e ∙ ap (λ (rs : List Record). top_layer (map placed rs)) (records_first a s ∙ same))
      (d t j ∙ sym (root_digest_lem s a.bytes t j))

-- ---- check
module _ (s : List ℕ) where
  pub checked : (h : Head) (t : SpeltTree) → judge s ≡ accepted t → h ≡ head_of (records t) → record { answer = Ok 0; head = h } ≡ check_outcome s
  unfolding check_outcome check_verdict
  checked h t j e = rw (j, e)

  pub check_refused : (r : Refusal) → judge s ≡ refused r → record { answer = Err r; head = zero_head } ≡ check_outcome s
  unfolding check_outcome check_verdict
  check_refused r j = rw j

-- ---- a register that is lent with a head
module _ (s : List ℕ) (h : Head) where
  pub lent_refused : (r : Refusal) → judge s ≡ refused r → lent_verdict (judge s) h ≡ refused r
  unfolding lent_verdict
  lent_refused r j = rw j

  module _ (t : SpeltTree) (j : judge s ≡ accepted t) (own : Head) (e : own ≡ head_of (records t)) where
    pub untrue : same_head h own ≡ false → lent_verdict (judge s) h ≡ refused UntrueHead
    unfolding lent_verdict
    untrue n = rw (j, ← e, n)

    pub is_true : same_head h own ≡ true → TrueOf s h
    is_true y u k = same_head_lem h own y ∙ e ∙ ap (λ (v : SpeltTree). head_of (records v)) (one_tree s j k)

-- ---- what the answered judgement says
module _ (s : List ℕ) (h : Head) (index row : List ℕ) (x : Result (ℕ × ℕ) Refusal) (says : LentSays s h x index row) where
  pub lent_rows : {count n : ℕ} → x ≡ Ok (count, n) → AcceptedIndex s index count × ChainRow s row n × TrueOf s h
  lent_rows e = subst (λ (y : Result (ℕ × ℕ) Refusal). LentSays s h y index row) e says

  pub lent_judged : {r : Refusal} → x ≡ Err r → lent_verdict (judge s) h ≡ refused r
  lent_judged e = subst (λ (y : Result (ℕ × ℕ) Refusal). LentSays s h y index row) e says
