-- What the calls that are lent a head give back and write: their tests in order, and the table and head of their result.
use Rattle.std.specs.Prelude.{Err}
use Prim.Native.Nat.{ℕ, ◌≤◌, ◌<◌}
use mathlib.Core.Path.{◌≡◌, refl, sym, ap, ◌∙◌}
use mathlib.Core.Bool.{Bool, true, ◌&&◌}
use mathlib.Core.Option.{none, some}
use mathlib.Core.List.{List, [], ◌∷◌, ◌++◌}
use native.Mathlib.Omega.{arith}
use lib.ListN.{length, take}
use lib.Dec.{leb}
use borrow.Author.Tests.{lt-leb}
use borrow.Table.Steps.{cases}
use Rattle.limits.specs.Limits.{longest, most}
use Rattle.bytestring.specs.Bytes.{Bytes, zeros}
use Rattle.bytestring.proofs.Tools.{cond-inv}
use Rattle.fips180.specs.Hash.{sha256}
use Rattle.answer.specs.declared.Refusal.{Refusal}
use Rattle.answer.specs.declared.Refusal.TheVariants.{TooManyRecords, KeyAbsent, UntrueHead}
use Rattle.key.specs.Key.{lawful, slash_answer}
use Rattle.key.proofs.SlashLaws.{slash_refused}
use Rattle.tree.specs.Record.{Record, records}
use Rattle.tree.specs.Table.{SpeltTree, table_of}
use Rattle.tree.specs.Judge.{due, Verdict, refused, accepted, judge}
use Rattle.head.specs.declared.Head.{Head}
use Rattle.head.specs.declared.Headed.{Headed}
use Rattle.head.specs.Head.{head_of, same_head}
use Rattle.head.proofs.Laws.{root_digest_lem}
use Rattle.digests.specs.Digests.{RootEnd}
use Rattle.writer.specs.Output.{fits_output, table_answer, table_output, table_headed}
use Rattle.promises.specs.Map.{find, is_there, remove}
use Rattle.promises.specs.Outcome.{sizes}
use Rattle.promises.specs.Moved.{Moved, stopped, settle_moved, Plan, put_plan, join_plan, remove_plan, carry_out, on_first, put_outcome, join_outcome, remove_outcome, moved_answer, moved_output, moved_head, headed}
use Rattle.promises.proofs.TrueHeads.{true_passes}
use Rattle.choice.specs.Choice.{choice_of, weave}
use Rattle.choice.proofs.Weaving.{weave_put, weave_join}
use Rattle.checking.specs.Lent.{lent_verdict, TrueOf}
use Rattle.writing.specs.Tests.{record_tests}
use Rattle.writing.specs.Writing.{moved_to, set_outcome}
use Rattle.writing.proofs.Writing.{due_first, due_after, few_sizes}

-- ---- what is given back, and the output
abbrev pub Gives : Moved → Head → ℕ → Headed → List ℕ → Type 0
Gives o lent room given out = (given ≡ headed o lent) × (out ≡ moved_output o room)

module _ (lent : Head) (room : ℕ) (given : Headed) (out : List ℕ) where
  pub gives_refusal : {o : Moved} {r : Refusal} → o ≡ stopped r → (given ≡ record { answer = Err r; head = lent }) × (out ≡ zeros room)
      → Gives o lent room given out
  unfolding moved_answer moved_output moved_head
  gives_refusal e says = (says.0 ∙ rw e, says.1 ∙ rw e)

  pub gives_same : {o p : Moved} → o ≡ p → Gives o lent room given out → Gives p lent room given out
  gives_same e gives = rw (← e) gives

-- ---- the table of a result
module _ (rs : List Record) (room : ℕ) where
  pub moved_many : most < length rs → moved_to rs room ≡ stopped TooManyRecords
  unfolding moved_to sizes due settle_moved
  moved_many h = rw (lt-leb (length rs) most h)

  pub moved_gives : length rs ≤ most → (lent : Head) → Gives (moved_to rs room) lent room (table_headed rs lent room) (table_output (table_of rs) room)
  unfolding moved_to due settle_moved table_headed table_answer table_output fits_output moved_answer moved_output moved_head
  moved_gives few lent =
      let t : List ℕ = table_of rs in
      rw (few_sizes rs room few) (cases (leb (length t) room && leb (length t) longest) (λ e. rw e (refl, refl)) (λ e. rw e (refl, refl)))

-- ---- the lent root
pub lent_digest : (s : List ℕ) (h : Head) (t : SpeltTree) → Bytes s → judge s ≡ accepted t → TrueOf s h → (end : ℕ) → RootEnd s end
    → h.digest ≡ sha256 (take end s)
lent_digest s h t b j own end root =
    ap (λ (g : Head). g.digest) (own t j) ∙ root_digest_lem s b t j ∙ ap sha256 (sym (root.bytes t j))

-- ---- the calls that carry out a plan
module _ (h : Head) (plan : List Record → Plan) (room : ℕ) where
  lent_stopped : (v : Verdict) (r : Refusal) → lent_verdict v h ≡ refused r → on_first v h plan room ≡ stopped r
  unfolding lent_verdict on_first carry_out due settle_moved
  lent_stopped (refused q) r e = cc
  lent_stopped (accepted t) r e =
      cond-inv (same_head h (head_of (records t))) (λ _ f. let z : ◌≡◌ {A = ℕ} 0 1 = cc in absurd (omega arith))
      (λ n f. rw n (let q : UntrueHead ≡ r = cc in ap stopped q)) e

  module _ (s : List ℕ) where
    pub plan_refused : {r : Refusal} → lent_verdict (judge s) h ≡ refused r → on_first (judge s) h plan room ≡ stopped r
    plan_refused e = lent_stopped (judge s) _ e

    module _ (t : SpeltTree) (e : judge s ≡ accepted t) (own : TrueOf s h) where
      settled : on_first (judge s) h plan room ≡ settle_moved (due ((plan (records t)).asks ++ sizes (plan (records t)).result room)) (plan (records t)).result
      unfolding on_first
      settled = rw (e, own t e) (true_passes plan (records t) room)

      pub plan_stopped : {r : Refusal} → due (plan (records t)).asks ≡ some r → on_first (judge s) h plan room ≡ stopped r
      unfolding settle_moved
      plan_stopped q = settled ∙ rw (due_first (sizes (plan (records t)).result room) (plan (records t)).asks q)

      pub plan_written : due (plan (records t)).asks ≡ none → moved_to (plan (records t)).result room ≡ on_first (judge s) h plan room
      unfolding moved_to
      plan_written q = sym (settled ∙ rw (due_after (sizes (plan (records t)).result room) (plan (records t)).asks q))

-- ---- put and join
module _ (g : Bool) (s : List ℕ) (h : Head) (k v : List ℕ) (room : ℕ) where
  pub set_refused : {r : Refusal} → lent_verdict (judge s) h ≡ refused r → set_outcome g s h k v room ≡ stopped r
  unfolding set_outcome put_outcome join_outcome
  set_refused e = cases g (λ q. rw q (plan_refused h (join_plan k v) room s e)) (λ q. rw q (plan_refused h (put_plan k v) room s e))

  module _ (t : SpeltTree) (e : judge s ≡ accepted t) (own : TrueOf s h) where
    pub set_stopped : {r : Refusal} → due (record_tests k v) ≡ some r → set_outcome g s h k v room ≡ stopped r
    unfolding set_outcome put_outcome join_outcome put_plan join_plan
    set_stopped q =
        cases g (λ x. rw x (plan_stopped h (join_plan k v) room s t e own q)) (λ x. rw x (plan_stopped h (put_plan k v) room s t e own q))

    pub set_written : due (record_tests k v) ≡ none
        → moved_to (weave (choice_of g) (records t) (record { key = k; val = v } ∷ [])) room ≡ set_outcome g s h k v room
    unfolding set_outcome put_outcome join_outcome put_plan join_plan
    set_written q =
        cases g (λ x. rw (x, weave_join) (plan_written h (join_plan k v) room s t e own q))
        (λ x. rw (x, weave_put) (plan_written h (put_plan k v) room s t e own q))

-- ---- remove
module _ (s : List ℕ) (h : Head) (k : List ℕ) (room : ℕ) (t : SpeltTree) (e : judge s ≡ accepted t) (own : TrueOf s h) where
  pub remove_unlawful : {r : Refusal} → slash_answer k ≡ Err r → remove_outcome s h k room ≡ stopped r
  unfolding remove_outcome remove_plan due
  remove_unlawful q = let w = slash_refused k _ q in plan_stopped h (remove_plan k) room s t e own (rw (w.0, w.1))

  module _ (l : lawful k ≡ true) where
    pub remove_absent : find k (records t) ≡ none → remove_outcome s h k room ≡ stopped KeyAbsent
    unfolding remove_outcome remove_plan due is_there
    remove_absent n = plan_stopped h (remove_plan k) room s t e own (rw (l, n))

    pub remove_written : (v : List ℕ) → find k (records t) ≡ some v → moved_to (remove k (records t)) room ≡ remove_outcome s h k room
    unfolding remove_outcome remove_plan due is_there
    remove_written v n = plan_written h (remove_plan k) room s t e own (rw (l, n))
