-- A call with a true head is not refused with 17.
use Prim.Native.Nat.{ℕ}
use mathlib.Core.Path.{◌≡◌, refl, sym, ap, subst, ◌∙◌}
use mathlib.Core.Option.{Option, none, some, some-injective}
use mathlib.Core.List.{List, [], ◌∷◌, ◌++◌}
use native.Mathlib.Omega.{arith}
use lib.ListN.{length}
use lib.Dec.{leb}
use borrow.Table.Steps.{cases}
use Rattle.limits.specs.Limits.{longest, deepest}
use Rattle.bytestring.proofs.Tools.{All, all_append, cond-inv}
use Rattle.answer.specs.Answer.{number_of, refused_with, said}
use Rattle.answer.specs.declared.Refusal.{Refusal}
use Rattle.answer.specs.declared.Refusal.TheVariants.{TooLong, EndsEarly, Departs}
use Rattle.page.specs.Reading.{Read, read, ends_early, departs}
use Rattle.tree.specs.Record.{Record}
use Rattle.tree.specs.Table.{SpeltTree, read_tree}
use Rattle.tree.specs.Judge.{Test, due, tests, Verdict, refused, accepted, settled, judge_read, judge}
use Rattle.head.specs.Head.{head_of}
use Rattle.head.proofs.Laws.{head_same}
use Rattle.promises.specs.Outcome.{sizes}
use Rattle.promises.specs.Moved.{Moved, settle_moved, Plan, put_plan, join_plan, remove_plan, merge_plan, carry_out, moved_answer}
use Rattle.promises.specs.Plain.{Request, put_of, remove_of, join_of, merge_of, plan_of, room_of}

-- ---- numbers other than 17
abbrev Other : Refusal → Type 0
Other r = number_of r ≡ 17 → ⊥

abbrev AllOther : List Test → Type 0
AllOther ts = All (λ (t : Test). Other t.0) ts

due_other : (ts : List Test) → AllOther ts → (r : Refusal) → due ts ≡ some r → Other r
unfolding due
due_other [] a r e = let z : ◌≡◌ {A = ℕ} 0 1 = cc in absurd (omega arith)
due_other (t ∷ ts) a r e =
    cases t.1 (λ h. due_other ts a.1 r (rw h at e)) (λ h. subst Other (some-injective t.0 r (rw h at e)) a.0)

-- a register is refused with another
settled_some : (o : Option Refusal) (t : SpeltTree) (r : Refusal) → settled o t ≡ refused r → o ≡ some r
unfolding settled
settled_some none t r e = let z : ◌≡◌ {A = ℕ} 0 1 = cc in absurd (omega arith)
settled_some (some q) t r e = cc

read_other : (x : Read SpeltTree) (r : Refusal) → judge_read x ≡ refused r → Other r
unfolding judge_read tests
read_other ends_early r e = let q : EndsEarly ≡ r = cc in subst Other q (λ h. omega arith)
read_other departs r e = let q : Departs ≡ r = cc in subst Other q (λ h. omega arith)
read_other (read t rest) r e =
    due_other (tests t rest)
    ((λ h. omega arith), ((λ h. omega arith), ((λ h. omega arith), ((λ h. omega arith), ((λ h. omega arith), ((λ h. omega arith), ((λ h. omega arith), tt)))))))
    r (settled_some (due (tests t rest)) t r e)

judged_other : (s : List ℕ) (r : Refusal) → judge s ≡ refused r → Other r
unfolding judge
judged_other s r e =
    cond-inv (leb (length s) longest) (λ _ h. read_other (read_tree deepest s) r h) (λ _ h. let q : TooLong ≡ r = cc in subst Other q (λ z. omega arith)) e

merge_other : (v : Verdict) (m : List Record) → ((r : Refusal) → v ≡ refused r → Other r) → AllOther (merge_plan v m).asks
unfolding merge_plan
merge_other (refused r) m o = (o r refl, tt)
merge_other (accepted t) m o = tt

asks_other : (q : Request) (m : List Record) → AllOther (plan_of q m).asks
unfolding plan_of put_plan join_plan remove_plan
asks_other (put_of k v room) m = ((λ h. omega arith), ((λ h. omega arith), tt))
asks_other (remove_of k room) m = ((λ h. omega arith), ((λ h. omega arith), tt))
asks_other (join_of k v room) m = ((λ h. omega arith), ((λ h. omega arith), tt))
asks_other (merge_of u room) m = merge_other (judge u.list) m (judged_other u.list)

sizes_other : (rs : List Record) (room : ℕ) → AllOther (sizes rs room)
unfolding sizes
sizes_other rs room = ((λ h. omega arith), ((λ h. omega arith), tt))

-- all tests of a call after the head's
abbrev tests_of : Request → List Record → List Test
tests_of q m = (plan_of q m).asks ++ sizes (plan_of q m).result (room_of q)

settled_other : (o : Option Refusal) (rs : List Record) → ((r : Refusal) → o ≡ some r → Other r)
    → said (moved_answer (settle_moved o rs)) ≡ refused_with 17 → ⊥
unfolding settle_moved moved_answer
settled_other none rs other e = let z : ◌≡◌ {A = ℕ} 0 1 = cc in omega arith
settled_other (some r) rs other e = other r refl cc

-- ---- a true head passes, and 17 is not due
pub true_passes : (plan : List Record → Plan) (m : List Record) (room : ℕ)
    → carry_out (head_of m) plan m room ≡ settle_moved (due ((plan m).asks ++ sizes (plan m).result room)) (plan m).result
unfolding carry_out due
true_passes plan m room = rw (head_same (head_of m))

pub never_untrue : (q : Request) (m : List Record) → said (moved_answer (carry_out (head_of m) (plan_of q) m (room_of q))) ≡ refused_with 17 → ⊥
never_untrue q m e =
    let rs : List Record = (plan_of q m).result in
    settled_other (due (tests_of q m)) rs
    (due_other (tests_of q m) (all_append (λ (t : Test). Other t.0) (plan_of q m).asks (sizes rs (room_of q)) (asks_other q m) (sizes_other rs (room_of q))))
    (ap (λ (o : Moved). said (moved_answer o)) (sym (true_passes (plan_of q) m (room_of q))) ∙ e)
