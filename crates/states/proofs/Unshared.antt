-- Where no two unequal pages ever saved share a digest, no save is refused with 18.
use Prim.Native.Nat.{ℕ, ◌≤◌}
use mathlib.Core.Path.{◌≡◌, refl, subst}
use mathlib.Core.Option.{Option, none, some, none-ne-some, some-injective}
use mathlib.Core.List.{List, [], ◌∷◌, ◌++◌}
use native.Mathlib.Omega.{arith}
use lib.ListN.{length}
use lib.Dec.{leb}
use Rattle.answer.specs.Answer.{number_of}
use Rattle.answer.specs.declared.Refusal.{Refusal}
use Rattle.answer.specs.declared.Refusal.TheVariants.{WrongStates}
use Rattle.bytestring.proofs.Tools.{cond-inv, All, all_weaken}
use Rattle.limits.specs.Limits.{longest, deepest}
use Rattle.key.specs.Key.{lawful}
use Rattle.page.specs.Reading.{Read, read, ends_early, departs}
use Rattle.tree.specs.Record.{Record}
use Rattle.tree.specs.Table.{SpeltTree, read_tree}
use Rattle.tree.specs.Judge.{Test, due, tests, Verdict, refused, accepted, settled, judge_read, judge}
use Rattle.promises.specs.Map.{put}
use Rattle.promises.specs.Promises.{DigestsApart}
use Rattle.promises.proofs.MapLaws.{all_insert, all_remove}
use Rattle.promises.proofs.DifferenceLaws.{Within, among_left, among_right}
use Rattle.states.specs.Pages.{pages_in}
use Rattle.states.specs.States.{state_key, state_pages, Saved, unsaved, saved, buffer_sizes, settle_saved, carry_out_plan, save_plan, forget_plan, on_states, save_outcome, StateCall, save_call, forget_call, plan_of_call, saved_on_map, next_map, map_after}
use Rattle.states.specs.Promises.{saved_by, pages_saved, UnsharedIsNotRefused}
use Rattle.states.proofs.Filing.{unshared_apart}
use Rattle.states.proofs.Steps.{PagesWithin, pages_within, own_pages}
use Rattle.states.proofs.Accepting.{reads_its_states}
use Rattle.states.proofs.Calls.{answers_as_the_states}

-- ---- the pages of the map are among those that were saved
within_save : (v : Verdict) (s name : List ℕ) (ps : List (List ℕ)) (m : List Record) → Within (pages_in s) ps
    → All (PagesWithin ps) m → All (PagesWithin ps) (save_plan v s name m).result
unfolding save_plan put
within_save (refused r) s name ps m w a = a
within_save (accepted t) s name ps m w a =
    all_insert (λ old new. new) (record { key = state_key name; val = s }) (PagesWithin ps) w (λ x q. w) m a

within_next : (c : StateCall) (ps : List (List ℕ)) (m : List Record) → (o : Saved) → Within (saved_by o c) ps
    → All (PagesWithin ps) m → All (PagesWithin ps) (next_map o m (plan_of_call c m).result)
unfolding next_map plan_of_call forget_plan
within_next c ps m (unsaved r) w a = a
within_next (save_call s name states pages) ps m (saved b) w a = within_save (judge s.list) s.list name.list ps m w a
within_next (forget_call name states pages) ps m (saved b) w a = all_remove (state_key name.list) (PagesWithin ps) m a

within_after : (cs : List StateCall) (ps : List (List ℕ)) (m : List Record) → Within (pages_saved cs m) ps
    → All (PagesWithin ps) m → All (PagesWithin ps) (map_after cs m)
unfolding map_after
within_after [] ps m w a = a
within_after (c ∷ cs) ps m w a =
    let o = saved_on_map c m in
    let n = next_map o m (plan_of_call c m).result in
    within_after cs ps n (λ p i. w p (among_right (saved_by o c) (pages_saved cs n) p i))
    (within_next c ps m o (λ p i. w p (among_left (saved_by o c) (pages_saved cs n) p i)) a)

-- ---- the numbers that a register, a name and the outputs draw
abbrev AtMost13 : Refusal → Type 0
AtMost13 r = number_of r ≤ 13

due_number : (ts : List Test) (r : Refusal) → All (λ (t : Test). AtMost13 t.0) ts → due ts ≡ some r → AtMost13 r
unfolding due
due_number [] r a h = absurd (none-ne-some _ h)
due_number (t ∷ ts) r a h =
    cond-inv t.1 (λ e q. due_number ts r a.1 q) (λ e q. subst AtMost13 (some-injective t.0 r q) a.0) h

same_number : (q r : Refusal) → refused q ≡ refused r → AtMost13 q → AtMost13 r
same_number q r e h = let z : q ≡ r = cc in subst AtMost13 z h

settled_number : (o : Option Refusal) (t : SpeltTree) (r : Refusal) → ((q : Refusal) → o ≡ some q → AtMost13 q) → settled o t ≡ refused r → AtMost13 r
unfolding settled
settled_number none t r f h = let z : ◌≡◌ {A = ℕ} 0 1 = cc in absurd (omega arith)
settled_number (some q) t r f h = same_number q r h (f q refl)

read_number : (x : Read SpeltTree) (r : Refusal) → judge_read x ≡ refused r → AtMost13 r
unfolding judge_read tests
read_number ends_early r h = same_number _ r h (omega arith)
read_number departs r h = same_number _ r h (omega arith)
read_number (read t rest) r h =
    settled_number (due (tests t rest)) t r (λ q e. due_number (tests t rest) q
    (omega arith, (omega arith, (omega arith, (omega arith, (omega arith, (omega arith, (omega arith, tt))))))) e) h

judge_number : (s : List ℕ) (r : Refusal) → judge s ≡ refused r → AtMost13 r
unfolding judge
judge_number s r h =
    cond-inv (leb (length s) longest) (λ e q. read_number (read_tree deepest s) r q) (λ e q. same_number _ r q (omega arith)) h

-- ---- the save
not_18 : (o : Option Refusal) (m : List Record) → ((r : Refusal) → o ≡ some r → AtMost13 r) → settle_saved o m ≡ unsaved WrongStates → ⊥
unfolding settle_saved
not_18 none m f h = let z : ◌≡◌ {A = ℕ} 0 1 = cc in omega arith
not_18 (some r) m f h =
    let z : r ≡ WrongStates = cc in
    let n : AtMost13 WrongStates = subst AtMost13 z (f r refl) in
    omega arith

save_not_18 : (v : Verdict) (s name : List ℕ) (m : List Record) (states pages : ℕ) → ((r : Refusal) → v ≡ refused r → AtMost13 r)
    → DigestsApart (state_pages (save_plan v s name m).result) → carry_out_plan (save_plan v s name m) states pages ≡ unsaved WrongStates → ⊥
unfolding carry_out_plan save_plan due buffer_sizes
save_not_18 (refused r) s name m states pages f n h = not_18 (some r) m (λ q e. subst AtMost13 (some-injective r q e) (f r refl)) h
save_not_18 (accepted t) s name m states pages f n h =
    let new = put (record { key = state_key name; val = s }) m in
    not_18 _ new (λ r e. due_number ((_, lawful (state_key name)) ∷ buffer_sizes new states pages) r (omega arith, (omega arith, (omega arith, tt))) e)
    (rw (unshared_apart (state_pages new) n) at h)

pub unshared_is_not_refused : UnsharedIsNotRefused
unfolding save_outcome on_states
unshared_is_not_refused b m o before s name states pages unshared h =
    let a = answers_as_the_states b m o before in
    let m₁ = map_after before m in
    let plan = save_plan (judge s.list) s.list name.list m₁ in
    let k : carry_out_plan plan states pages ≡ unsaved WrongStates = rw (a.1, reads_its_states m₁ a.2) at h in
    let own = pages_in s.list in
    let others = pages_saved before m ++ own in
    let all = state_pages m ++ others in
    let first : All (PagesWithin all) m =
    all_weaken (PagesWithin (state_pages m)) (PagesWithin all) (λ r w p i. among_left (state_pages m) others p (w p i)) m (own_pages m) in
    let after : All (PagesWithin all) m₁ =
    within_after before all m (λ p i. among_right (state_pages m) others p (among_left (pages_saved before m) own p i)) first in
    let new : Within own all = λ p i. among_right (state_pages m) others p (among_right (pages_saved before m) own p i) in
    let w = pages_within plan.result all (within_save (judge s.list) s.list name.list all m₁ new after) in
    save_not_18 (judge s.list) s.list name.list m₁ states pages (judge_number s.list) (λ p q i j. unshared p q (w p i) (w q j)) k
