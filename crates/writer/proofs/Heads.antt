-- What a call that is lent a head gives back: the head of the records that it wrote, or the lent one.
use Rattle.answer.specs.declared.Refusal.{Refusal}
use Rattle.std.specs.Prelude.{Result, Ok, Err, Option, None, Some}
use Prim.Native.Nat.{ℕ}
use mathlib.Core.Path.{◌≡◌, ◌∙◌}
use mathlib.Core.List.{List, ◌++◌, map}
use lib.ListN.{length, take, drop}
use Rattle.answer.specs.declared.Refusal.TheVariants.{NoRoom}
use Rattle.fips180.specs.Hash.{sha256}
use Rattle.tree.specs.Tree.{top_layer}
use Rattle.tree.specs.Record.{Record, placed}
use Rattle.tree.specs.Table.{digest_of, tree_of_set, table_of}
use Rattle.head.specs.declared.Head.{Head}
use Rattle.head.specs.declared.Headed.{Headed}
use Rattle.head.specs.Head.{head_of}
use Rattle.writer.specs.Output.{table_headed}
use Rattle.writer.specs.declared.pages.Wrote.{Wrote}
use Rattle.writer.proofs.Whole.{WrittenInto, root_is, fits, answer_is, lacks, no_answer}

same_headed : {a b : Result ℕ Refusal} {h g : Head} → a ≡ b → h ≡ g → ◌≡◌ {A = Headed} (record { answer = a; head = h }) (record { answer = b; head = g })
same_headed e f = rw (e, f)

module _ (rs : List Record) (lent : Head) {o : List ℕ} {k : ℕ} {ys : List ℕ} {r : Option Wrote} (w : WrittenInto (tree_of_set rs) o k ys r) where
  -- there was no room
  pub head_kept : r ≡ None → ◌≡◌ {A = Headed} (record { answer = Err NoRoom; head = lent }) (table_headed rs lent (length o))
  unfolding table_headed table_of
  head_kept e = same_headed (no_answer w e) (rw (lacks w e))

  -- the table was written
  pub head_moved : {v : Wrote} → r ≡ Some v → {answer : Result ℕ Refusal} {count layer : ℕ} {digest : List ℕ} → answer ≡ Ok v.len → count ≡ length rs
      → layer ≡ top_layer (map placed rs) → digest ≡ sha256 (take v.own (ys ++ drop k o))
      → ◌≡◌ {A = Headed} (record { answer = answer; head = record { count = count; layer = layer; digest = digest } }) (table_headed rs lent (length o))
  unfolding table_headed table_of head_of digest_of
  head_moved e a c l d = same_headed (a ∙ answer_is w e) (rw (fits w e, c, l, d, root_is w e))
