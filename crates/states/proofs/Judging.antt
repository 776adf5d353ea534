-- What is left to judge of a gathered register: numbers 5 to 9 of its tree. Its form and its digests are right as it was gathered, and it is no
-- longer than the sequence, as no page comes twice in it.
use Prim.Native.Nat.{ℕ, ◌≤◌}
use mathlib.Core.Path.{◌≡◌, refl, sym, ap, ◌∙◌}
use mathlib.Core.Bool.{true, false≢true}
use mathlib.Core.Option.{Option, none, some}
use mathlib.Core.List.{List, [], append-nil, map}
use native.Mathlib.Omega.{arith}
use lib.ListN.{length}
use lib.Dec.{leb}
use borrow.Author.Tests.{leb-true, le-leb}
use borrow.Table.Steps.{cases}
use Rattle.answer.specs.declared.Refusal.{Refusal}
use Rattle.answer.specs.declared.Refusal.TheVariants.{TooLong}
use Rattle.limits.specs.Limits.{longest, deepest, most}
use Rattle.page.specs.Reading.{read, concat}
use Rattle.tree.specs.Record.{records}
use Rattle.tree.specs.Table.{SpeltTree, table, read_tree}
use Rattle.tree.specs.Judge.{due, is_none, prefixes_right, all_lawful, rising, right_tree, tests, refused, accepted, settled, judge_read, judge}
use Rattle.tree.proofs.Laws.{AllTests, due_none, none_due, right_local, tree_reads}
use Rattle.promises.specs.Pages.{pages_of}
use Rattle.promises.proofs.MapLaws.{Sorted, rising_sorted}
use Rattle.promises.proofs.DifferenceLaws.{Within, linked}
use Rattle.states.specs.Pages.{by_digest}
use Rattle.states.specs.States.{is_accepted}
use Rattle.states.proofs.Sequences.{table_pages}
use Rattle.states.proofs.Filing.{all_each}
use Rattle.states.proofs.Gathered.{AmongPages, Gathered}
use Rattle.states.proofs.Once.{once_tree, once_length}
use Rattle.states.proofs.Holding.{rising_unshared}

-- numbers 5 to 9
pub record RecordsRight (t : SpeltTree) : Type 0 where
  pub count : length (records t) ≤ most
  pub prefixes : prefixes_right t ≡ true
  pub keys : all_lawful (records t) ≡ true
  pub order : rising (records t) ≡ true
  pub shape : right_tree t ≡ true

settled_tests : (o : Option Refusal) (t : SpeltTree) → due (tests t []) ≡ o → is_accepted (settled o t) ≡ true → AllTests (tests t [])
unfolding is_accepted settled
settled_tests none t e h = due_none (tests t []) e
settled_tests (some r) t e h = absurd (false≢true h)

none_accepted : is_accepted (refused TooLong) ≡ true → ⊥
unfolding is_accepted
none_accepted h = false≢true h

module _ (ps : List (List ℕ)) (sorted : Sorted (map by_digest ps)) (digest s : List ℕ) (g : Gathered ps deepest digest s) where
  pub gathered_length : rising (records g.tree) ≡ true → right_tree g.tree ≡ true → length s ≤ length (concat (λ b. b) ps)
  gathered_length order shape =
      let w : Within (pages_of g.tree) ps = λ p i. all_each (AmongPages ps) (pages_of g.tree) p g.within i in
      let l = linked ps g.tree deepest g.good g.digests w in
      let o = once_tree ps (rising_unshared ps sorted) g.tree l (right_local g.tree shape).filled (rising_sorted (records g.tree) order) in
      omega (arith, once_length (pages_of g.tree) ps o w, ap length (g.bytes ∙ table_pages g.tree))

  gathered_reads : read_tree deepest s ≡ read g.tree []
  gathered_reads = ap (read_tree deepest) (g.bytes ∙ sym (append-nil (table g.tree))) ∙ tree_reads deepest g.tree [] g.good

  pub gathered_accepted : length (concat (λ b. b) ps) ≤ longest → RecordsRight g.tree → judge s ≡ accepted g.tree
  unfolding judge judge_read settled tests is_none
  gathered_accepted long r =
      let size : length s ≤ longest = omega (arith, gathered_length r.order r.shape) in
      rw (
        le-leb (length s) longest size,
        gathered_reads,
        none_due (tests g.tree [])
            (refl, (le-leb (length (records g.tree)) most r.count, (r.prefixes, (r.keys, (r.order, (r.shape, (g.digests, tt))))))),
      )

  -- and it is accepted in no other case
  right_tests : AllTests (tests g.tree []) → RecordsRight g.tree
  unfolding tests
  right_tests h = record {
    count = leb-true (length (records g.tree)) most h.1.0;
    prefixes = h.1.1.0;
    keys = h.1.1.1.0;
    order = h.1.1.1.1.0;
    shape = h.1.1.1.1.1.0;
  }

  pub accepted_right : is_accepted (judge s) ≡ true → RecordsRight g.tree
  unfolding judge judge_read
  accepted_right h =
      cases (leb (length s) longest)
      (λ e. right_tests (settled_tests (due (tests g.tree [])) g.tree refl (rw (e, gathered_reads) at h)))
      (λ e. absurd (none_accepted (rw e at h)))
