-- From the tests of save, forget and restore to their replies: each test is one check in the order.
use Prim.Native.Nat.{ℕ, ◌≤◌, ◌<◌}
use mathlib.Core.Path.{◌≡◌, refl, sym, ap, subst, ◌∙◌}
use mathlib.Core.Bool.{Bool, true, false, ◌&&◌, false≢true}
use mathlib.Core.Logic.{◌⊎◌, inl, inr}
use mathlib.Core.Option.{Option, none, some}
use mathlib.Core.List.{List, [], ◌∷◌, map}
use native.Mathlib.Omega.{arith}
use lib.ListN.{length}
use lib.Dec.{leb, eqb}
use borrow.Author.Tests.{eqb-true, eqb-false, leb-true, lt-leb, le-leb}
use borrow.Table.Steps.{cases}
use Rattle.answer.specs.Answer.{number_of, done_with}
use Rattle.answer.specs.declared.Refusal.{Refusal}
use Rattle.answer.specs.declared.Refusal.TheVariants.{TooLong, EndsEarly, Departs, TooManyRecords, UnlawfulKey, KeyAbsent, NoRoom, WrongStates}
use Rattle.bytestring.specs.Bytes.{Bytes, equal}
use Rattle.bytestring.proofs.Tools.{and_inv, and_both, All}
use Rattle.bytestring.proofs.Equal.{equal_true, equal-cases}
use Rattle.limits.specs.Limits.{longest, most, deepest}
use Rattle.fips180.specs.Hash.{sha256}
use Rattle.value.specs.Value.{dag_cbor, value_codec, value_digest}
use Rattle.key.specs.Key.{collection, lawful, less}
use Rattle.page.specs.Reading.{Read, read, ends_early, departs}
use Rattle.page.specs.Page.{RawPage, page_bytes}
use Rattle.tree.specs.Record.{Record, records}
use Rattle.tree.specs.Table.{SpeltTree}
use Rattle.tree.specs.Judge.{Test, due, rising, refused, accepted, judge}
use Rattle.tree.proofs.Laws.{LawfulKey, none_due, accepted_table}
use Rattle.promises.specs.Map.{find, is_there, put, remove}
use Rattle.promises.specs.Outcome.{answer_of, output_of}
use Rattle.promises.specs.Reply.{Reply, writing_reply}
use Rattle.promises.specs.Order.{Refuses, Check, filled}
use Rattle.promises.specs.Promises.{Among}
use Rattle.promises.proofs.MapLaws.{Sorted, sorted_rising, rising_sorted, sorted_put, sorted_remove, length_remove}
use Rattle.promises.proofs.Steps.{put_finds, remove_finds}
use Rattle.promises.proofs.Orders.{check, lawful_passes, within}
use Rattle.states.specs.Pages.{sequence, pages_in, by_digest, all_apart, among, all_among, gather}
use Rattle.states.specs.States.{state_collection, state_key, state_register, state_pages, page_sequence, all_states, bytes_or, gathered, gathered_states, is_accepted, all_accepted, state_tests, StatesVerdict, refused_states, settle_states, judge_sequence, judge_with_pages, judge_states, unsaved, StatePlan, has_room, buffer_sizes, settle_saved, carry_out_plan, save_plan, forget_plan, on_states, save_outcome, forget_outcome, saved_answer, states_output, pages_output, restore_tests, settle_restore, restore_from, restore_outcome}
use Rattle.states.specs.Order.{saved_reply, save_reply, forget_reply, restore_reply, SequenceOrder, SomeRecord, OtherRecord, NotRising, RegisterFrom, NoRegister, StatesFrom, SomeUnreached, StatesOrder, BuffersOrder, LongerThan, BothMeasured, SomeShared}
use Rattle.states.specs.Promises.{LentStates, buffers, Holds, SaveReplies, ForgetReplies, RestoreReplies}
use Rattle.states.proofs.Values.{digest_of_value}
use Rattle.states.proofs.Sequences.{PageBytes, sequence_back}
use Rattle.states.proofs.Filing.{all_each, each_all, among_there, there_among, all_among_there, there_all_among, apart_unshared, unshared_apart}
use Rattle.states.proofs.Accepting.{tree_of, accepted_tree, gather_register}
use Rattle.states.proofs.Gathered.{AmongPages, file}
use Rattle.states.proofs.Holding.{file_stands, one_back, good_pages, small_pages, reads_no_other_states}

-- ---- what a test says
-- a test that rules a break out fails where there is one
fails : (b : Bool) {broken : Type 0} → (b ≡ true → broken → ⊥) → broken → b ≡ false
fails b f h = cases b (λ e. absurd (f e h)) (λ e. e)

-- each record is of the collection `state` and of codec 71
abbrev ours : Record → Bool
ours r = equal (collection r.key) state_collection && eqb (value_codec r.val) dag_cbor

ours_none : (rs : List Record) → all_states rs ≡ true → SomeRecord OtherRecord rs → ⊥
unfolding all_states
ours_none [] h i = i
ours_none (r ∷ rs) h (inl (inl n)) =
    n (equal_true (collection r.key) state_collection (and_inv (equal (collection r.key) state_collection) (and_inv (ours r) h).0).0)
ours_none (r ∷ rs) h (inl (inr n)) =
    n (eqb-true (value_codec r.val) dag_cbor (and_inv (equal (collection r.key) state_collection) (and_inv (ours r) h).0).1)
ours_none (r ∷ rs) h (inr i) = ours_none rs (and_inv (ours r) h).1 i

ours_pass : (rs : List Record) → (SomeRecord OtherRecord rs → ⊥) → all_states rs ≡ true
unfolding all_states
ours_pass [] f = refl
ours_pass (r ∷ rs) f =
    and_both
    (and_both
    (equal-cases (collection r.key) state_collection (λ e _. e) (λ _ n. absurd (f (inl (inl n)))))
    (cases (eqb (value_codec r.val) dag_cbor) (λ e. e) (λ e. absurd (f (inl (inr (eqb-false (value_codec r.val) dag_cbor e)))))))
    (ours_pass rs (λ i. f (inr i)))

-- digests rise
rise_none : (ps : List (List ℕ)) → rising (map by_digest ps) ≡ true → NotRising ps → ⊥
unfolding rising
rise_none [] h i = i
rise_none (p ∷ []) h i = i
rise_none (p ∷ q ∷ ps) h (inl e) = false≢true (sym e ∙ (and_inv (less (sha256 p) (sha256 q)) h).0)
rise_none (p ∷ q ∷ ps) h (inr i) = rise_none (q ∷ ps) (and_inv (less (sha256 p) (sha256 q)) h).1 i

rise_pass : (ps : List (List ℕ)) → (NotRising ps → ⊥) → rising (map by_digest ps) ≡ true
unfolding rising
rise_pass [] f = refl
rise_pass (p ∷ []) f = refl
rise_pass (p ∷ q ∷ ps) f = and_both (lawful_passes (less (sha256 p) (sha256 q)) (λ e. f (inl e))) (rise_pass (q ∷ ps) (λ i. f (inr i)))

-- each page is reached
reach_none : (ps : List (List ℕ)) (m : List Record) → all_among ps (state_pages m) ≡ true → SomeUnreached ps m → ⊥
reach_none ps m h (p, i, n) = n (all_each (λ q. Among q (state_pages m)) ps p (all_among_there ps (state_pages m) h) i)

reach_pass : (ps : List (List ℕ)) (m : List Record) → (SomeUnreached ps m → ⊥) → all_among ps (state_pages m) ≡ true
reach_pass ps m f =
    there_all_among ps (state_pages m)
    (each_all (λ p. Among p (state_pages m)) ps (λ p i.
    cases (among p (state_pages m)) (among_there p (state_pages m))
    (λ e. absurd (f (p, i, λ j. false≢true (sym e ∙ there_among p (state_pages m) j))))))

-- no two unequal pages share a digest
shared_none : (ps : List (List ℕ)) → all_apart ps ≡ true → SomeShared ps → ⊥
shared_none ps h (p, q, i, j, e, n) = n (apart_unshared ps h p q i j e)

shared_pass : (ps : List (List ℕ)) → (SomeShared ps → ⊥) → all_apart ps ≡ true
shared_pass ps f =
    unshared_apart ps (λ p q i j e. equal-cases p q (λ _ s. s) (λ _ n. absurd (f (p, q, i, j, e, n))))

-- a name is known
there_none : (v : Option (List ℕ)) → is_there v ≡ true → v ≡ none → ⊥
unfolding is_there
there_none v h e = false≢true (rw e at h)

there_pass : (v : Option (List ℕ)) → (v ≡ none → ⊥) → is_there v ≡ true
unfolding is_there
there_pass none f = absurd (f refl)
there_pass (some s) f = refl

-- ---- the register of each state
registers_none : (ps : List (List ℕ)) (rs m : List Record) → StatesFrom ps rs m → SomeRecord (NoRegister ps) rs → ⊥
registers_none ps [] [] w i = i
registers_none ps [] (x ∷ m) w i = i
registers_none ps (r ∷ rs) [] w i = w
registers_none ps (r ∷ rs) (x ∷ m) w (inl n) = n x.val w.1
registers_none ps (r ∷ rs) (x ∷ m) w (inr i) = registers_none ps rs m w.2 i

module _ (ps : List (List ℕ)) (good : All PageBytes ps) (small : All Bytes ps) where
  -- what is gathered and accepted is the register
  one_register : (r : Record) → lawful r.key ≡ true → collection r.key ≡ state_collection → eqb (value_codec r.val) dag_cbor ≡ true
      → is_accepted (judge (gathered (file ps) r).val) ≡ true → RegisterFrom ps (value_digest r.val) (gathered (file ps) r).val
  one_register r l c v h =
      let b = one_back ps good small r l c v (gather deepest (file ps) (value_digest r.val)) refl h in
      let s = (gathered (file ps) r).val in
      let t = tree_of (judge s) h in
      record {
        bytes = b.is_state.bytes;
        root = sym (digest_of_value s) ∙ ap (λ (x : Record). value_digest x.val) b.points;
        pages = λ p i. all_each (AmongPages ps) (pages_in s) p b.within i;
        set = records t.0;
        register = record { tree = t.0; judged = t.1; spells = refl };
      }

  all_registers : (rs : List Record) → All LawfulKey rs → all_states rs ≡ true → all_accepted (map (gathered (file ps)) rs) ≡ true
      → StatesFrom ps rs (map (gathered (file ps)) rs)
  unfolding all_states all_accepted
  all_registers [] l a h = tt
  all_registers (r ∷ rs) l a h =
      let k = and_inv (ours r) a in
      let c = and_inv (equal (collection r.key) state_collection) k.0 in
      let j = and_inv (is_accepted (judge (gathered (file ps) r).val)) h in (
        refl,
        one_register r l.0 (equal_true (collection r.key) state_collection c.0) c.1 j.0,
        all_registers rs l.1 k.1 j.1,
      )

  -- and where there is a register it is what is gathered
  module _ (sorted : Sorted (file ps)) where
    register_gathers : (digest s : List ℕ) → RegisterFrom ps digest s → is_accepted (judge (bytes_or (gather deepest (file ps) digest))) ≡ true
    unfolding is_accepted bytes_or
    register_gathers digest s w =
        let h : is_accepted (judge s) ≡ true = rw w.register.judged in
        let under = each_all (λ p. find (sha256 p) (file ps) ≡ some p) (pages_in s) (λ p i. file_stands ps sorted p (w.pages p i)) in
        let g : gather deepest (file ps) digest ≡ some s = rw (← w.root) (gather_register (file ps) s (accepted_tree s w.bytes h) under) in
        rw g h

    registers_pass : (rs : List Record) → (SomeRecord (NoRegister ps) rs → ⊥) → all_accepted (map (gathered (file ps)) rs) ≡ true
    unfolding all_accepted
    registers_pass [] f = refl
    registers_pass (r ∷ rs) f =
        and_both
        (cases (is_accepted (judge (gathered (file ps) r).val)) (λ e. e)
        (λ e. absurd (f (inl (λ s w. false≢true (sym e ∙ register_gathers (value_digest r.val) s w))))))
        (registers_pass rs (λ i. f (inr i)))

-- ---- the buffers lent, of a call whose reply is fixed by the verdict on them
module _ (b : LentStates) (whole : Reply) (reply : StatesVerdict → Reply)
    (refuses : (r : Refusal) → Refuses (reply (refused_states r)) (number_of r)) (e : whole ≡ reply (judge_states (buffers b))) where
  refused_with_lem : (r : Refusal) → judge_states (buffers b) ≡ refused_states r → Refuses whole (number_of r)
  refused_with_lem r j = subst (λ (q : Reply). Refuses q (number_of r)) (sym (e ∙ ap reply j)) (refuses r)

  module _ (goesOn : List Record → Type 0) (later : (m : List Record) → Holds b m → goesOn m) where
    module _ (t : SpeltTree) (j : judge b.states.list ≡ accepted t) where
      abbrev rs : List Record
      rs = records t

      -- number 18
      module _ (ps : List (List ℕ)) (good : All PageBytes ps) (small : All Bytes ps)
          (s : judge_states (buffers b) ≡ settle_states (due (state_tests rs ps)) (gathered_states rs ps)) where
        abbrev m : List Record
        m = gathered_states rs ps

        abbrev states_reply : Option Refusal → Reply
        states_reply o = reply (settle_states o m)

        states_refuse : (r : Refusal) → Refuses (states_reply (some r)) (number_of r)
        unfolding settle_states
        states_refuse r = refuses r

        states_order : StatesOrder rs ps whole goesOn
        unfolding state_tests gathered_states settle_states
        states_order =
            let reached : Test = (WrongStates, all_among ps (state_pages m)) in
            let gathers : Test = (WrongStates, all_accepted m) in
            let rises : Test = (WrongStates, rising (map by_digest ps)) in
            let keys = (accepted_table b.states.list b.states.small t j).fit.keys in
            check whole states_reply states_refuse WrongStates (all_states rs) (rises ∷ gathers ∷ reached ∷ [])
            (fails (all_states rs) (ours_none rs)) (ours_pass rs) (e ∙ ap reply s) (λ h₀ e₁.
            let a = ours_pass rs h₀ in
            check whole states_reply states_refuse WrongStates (rising (map by_digest ps)) (gathers ∷ reached ∷ [])
            (fails (rising (map by_digest ps)) (rise_none ps)) (rise_pass ps) e₁ (λ h₁ e₂.
            let o = rise_pass ps h₁ in
            let pass = registers_pass ps good small (rising_sorted (map by_digest ps) o) rs in
            check whole states_reply states_refuse WrongStates (all_accepted m) (reached ∷ [])
            (fails (all_accepted m) (λ g. registers_none ps rs m (all_registers ps good small rs keys a g))) pass e₂ (λ h₂ e₃.
            let g = pass h₂ in (
              m,
              all_registers ps good small rs keys a g,
              check whole states_reply states_refuse WrongStates (all_among ps (state_pages m)) []
                  (fails (all_among ps (state_pages m)) (reach_none ps m)) (reach_pass ps m) e₃ (λ h₃ _.
                  later m (s ∙ rw (none_due (state_tests rs ps) (a, (o, (g, (reach_pass ps m h₃, tt))))))),
            ))))

      -- the pages by 3 and 2
      sequence_order : (x : Read (List RawPage)) → sequence b.pages.list ≡ x → judge_states (buffers b) ≡ judge_sequence rs x
          → SequenceOrder x whole (λ ps. StatesOrder rs ps whole goesOn)
      unfolding judge_sequence
      sequence_order ends_early q s = refused_with_lem EndsEarly s
      sequence_order departs q s = refused_with_lem Departs s
      sequence_order (read raw rest) q s =
          let k = sequence_back b.pages.list rest raw b.pages.small q in
          states_order (map page_bytes raw) (good_pages raw k.good) (small_pages raw (rw k.spells at b.pages.small)) s

    buffers_order : BuffersOrder (buffers b) whole goesOn
    unfolding judge_states judge_with_pages
    buffers_order = record {
      refuses = λ r j. refused_with_lem r (rw j);
      accepts = λ t j.
          let size : ℕ = length b.pages.list in
          record {
            refuses = λ h. refused_with_lem TooLong (rw (j, lt-leb size longest h));
            passes = λ h. sequence_order t j (sequence b.pages.list) refl (rw (j, le-leb size longest (within size longest h)));
          };
    }

-- ---- save and forget
-- an output has room
room_none : (s : List ℕ) (room : ℕ) → has_room s room ≡ true → LongerThan room s → ⊥
room_none s room h (inl l) = omega (arith, leb-true (length s) room (and_inv (leb (length s) room) h).0)
room_none s room h (inr l) = omega (arith, leb-true (length s) longest (and_inv (leb (length s) room) h).1)

room_pass : (s : List ℕ) (room : ℕ) → (LongerThan room s → ⊥) → has_room s room ≡ true
room_pass s room f =
    and_both (le-leb (length s) room (within (length s) room (λ l. f (inl l))))
    (le-leb (length s) longest (within (length s) longest (λ l. f (inr l))))

module _ (states pages : ℕ) where
  saved_refuses : (r : Refusal) → Refuses (saved_reply (unsaved r) states pages) (number_of r)
  unfolding saved_answer states_output pages_output
  saved_refuses r = record { answer = refl; outputs = (refl, (refl, tt)); head = tt }

  -- the reply of a plan, by the verdict on the buffers and then by the first number that is due
  module _ (plan : List Record → StatePlan) where
    abbrev on_verdict : StatesVerdict → Reply
    on_verdict v = saved_reply (on_states v plan states pages) states pages

    verdict_refuses : (r : Refusal) → Refuses (on_verdict (refused_states r)) (number_of r)
    unfolding on_states
    verdict_refuses r = saved_refuses r

  module _ (new : List Record) where
    abbrev new_reply : Option Refusal → Reply
    new_reply o = saved_reply (settle_saved o new) states pages

    new_refuses : (r : Refusal) → Refuses (new_reply (some r)) (number_of r)
    unfolding settle_saved
    new_refuses r = saved_refuses r

    both_none : (has_room (state_register new) states && has_room (page_sequence new) pages) ≡ true
        → LongerThan states (state_register new) ⊎ LongerThan pages (page_sequence new) → ⊥
    both_none h (inl l) = room_none (state_register new) states (and_inv (has_room (state_register new) states) h).0 l
    both_none h (inr l) = room_none (page_sequence new) pages (and_inv (has_room (state_register new) states) h).1 l

    -- the outputs
    both_measured : (whole : Reply)
        → whole ≡ new_reply (due ((NoRoom, has_room (state_register new) states && has_room (page_sequence new) pages) ∷ []))
        → BothMeasured whole states pages new
    unfolding due settle_saved saved_answer states_output pages_output
    both_measured whole e =
        check whole new_reply new_refuses NoRoom (has_room (state_register new) states && has_room (page_sequence new) pages) []
        (fails _ both_none)
        (λ f. and_both (room_pass (state_register new) states (λ l. f (inl l))) (room_pass (page_sequence new) pages (λ l. f (inr l)))) e
        (λ _ done. record { answer = ap (λ (q : Reply). q.answer) done; outputs = ap (λ (q : Reply). q.outputs) done })

register_refused : (b : LentStates) (s name : List ℕ) (states pages : ℕ) (m : List Record) → Holds b m
    → (r : Refusal) → judge s ≡ refused r → Refuses (save_reply (buffers b) s name states pages) (number_of r)
unfolding save_outcome on_states carry_out_plan save_plan due settle_saved
register_refused b s name states pages m o r j = rw (o, j) (saved_refuses states pages r)

pub save_replies : SaveReplies
unfolding save_outcome on_states carry_out_plan save_plan buffer_sizes
save_replies b register name states pages =
    let s = register.list in
    let k = state_key name.list in
    let plan = save_plan (judge s) s name.list in
    let whole = save_reply (buffers b) s name.list states pages in
    buffers_order b whole (on_verdict states pages plan) (verdict_refuses states pages plan) refl _ (λ m o.
    let new : List Record = put (record { key = k; val = s }) m in
    let sorted = rising_sorted m (reads_no_other_states b m o).0.order in
    let room : Test = (NoRoom, has_room (state_register new) states && has_room (page_sequence new) pages) in
    let count : Test = (TooManyRecords, leb (length new) most) in
    let by = new_reply states pages new in
    let refuses = new_refuses states pages new in
    record {
      refuses = register_refused b s name.list states pages m o;
      accepts = λ t j.
          check whole by refuses UnlawfulKey (lawful k) ((WrongStates, all_apart (state_pages new)) ∷ count ∷ room ∷ [])
          (λ h. h) (lawful_passes (lawful k)) (rw (o, j))
          (λ _ e₁. record {
            result = new;
            in_order = sorted_rising new (sorted_put (record { key = k; val = s }) m sorted);
            found = λ key. put_finds k m key s;
            later = check whole by refuses WrongStates (all_apart (state_pages new)) (count ∷ room ∷ [])
                (fails (all_apart (state_pages new)) (shared_none (state_pages new))) (shared_pass (state_pages new)) e₁
                (λ _ e₂. check whole by refuses TooManyRecords (leb (length new) most) (room ∷ [])
                (lt-leb (length new) most) (λ h. le-leb (length new) most (within (length new) most h)) e₂
                (λ _ e₃. both_measured states pages new whole e₃));
          });
    })

-- a forget does not make more states: 5 is not due
count_passes : (k : List ℕ) (m : List Record) (ts : List Test) → length m ≤ most → is_there (find k m) ≡ true
    → due ((TooManyRecords, leb (length (remove k m)) most) ∷ ts) ≡ due ts
unfolding due
count_passes k m ts few h = rw (le-leb (length (remove k m)) most (omega (arith, length_remove k m h)))

pub forget_replies : ForgetReplies
unfolding forget_outcome on_states carry_out_plan forget_plan buffer_sizes
forget_replies b name states pages =
    let k = state_key name.list in
    let plan = forget_plan name.list in
    let whole = forget_reply (buffers b) name.list states pages in
    buffers_order b whole (on_verdict states pages plan) (verdict_refuses states pages plan) refl _ (λ m o.
    let new : List Record = remove k m in
    let fit = (reads_no_other_states b m o).0 in
    let sorted = rising_sorted m fit.order in
    let room : Test = (NoRoom, has_room (state_register new) states && has_room (page_sequence new) pages) in
    let count : Test = (TooManyRecords, leb (length new) most) in
    let by = new_reply states pages new in
    let refuses = new_refuses states pages new in
    check whole by refuses UnlawfulKey (lawful k) ((KeyAbsent, is_there (find k m)) ∷ count ∷ room ∷ [])
    (λ h. h) (lawful_passes (lawful k)) (rw o)
    (λ _ e₁. check whole by refuses KeyAbsent (is_there (find k m)) (count ∷ room ∷ [])
    (fails (is_there (find k m)) (there_none (find k m))) (there_pass (find k m)) e₁
    (λ f e₂. record {
      result = new;
      in_order = sorted_rising new (sorted_remove k m sorted);
      found = λ key. remove_finds k m key sorted;
      later = both_measured states pages new whole (e₂ ∙ ap by (count_passes k m (room ∷ []) fit.count (there_pass (find k m) f)));
    })))

-- ---- restore
module _ (name : List ℕ) (room : ℕ) where
  abbrev restored_on : StatesVerdict → Reply
  restored_on v = writing_reply (restore_from v name room) room

  restored_refuses : (r : Refusal) → Refuses (restored_on (refused_states r)) (number_of r)
  unfolding restore_from answer_of output_of
  restored_refuses r = record { answer = refl; outputs = (refl, tt); head = tt }

  module _ (s : List ℕ) where
    abbrev restored_by : Option Refusal → Reply
    restored_by o = writing_reply (settle_restore o s) room

    given_refuses : (r : Refusal) → Refuses (restored_by (some r)) (number_of r)
    unfolding settle_restore answer_of output_of
    given_refuses r = record { answer = refl; outputs = (refl, tt); head = tt }

    given : (whole : Reply) → whole ≡ restored_by (due ((NoRoom, leb (length s) room) ∷ []))
        → Check whole 13 (room < length s) ((whole.answer ≡ done_with (length s ∷ [])) × (whole.outputs ≡ filled room s ∷ []))
    unfolding due settle_restore answer_of output_of
    given whole e =
        check whole restored_by given_refuses NoRoom (leb (length s) room) []
        (lt-leb (length s) room) (λ h. le-leb (length s) room (within (length s) room h)) e
        (λ _ done. (ap (λ (q : Reply). q.answer) done, ap (λ (q : Reply). q.outputs) done))

pub restore_replies : RestoreReplies
unfolding restore_outcome restore_from restore_tests bytes_or
restore_replies b name room =
    let n = name.list in
    let k = state_key n in
    let whole = restore_reply (buffers b) n room in
    buffers_order b whole (restored_on n room) (restored_refuses n room) refl _ (λ m o.
    let found : List ℕ = bytes_or (find k m) in
    let fits : Test = (NoRoom, leb (length found) room) in
    check whole (restored_by n room found) (given_refuses n room found) UnlawfulKey (lawful k) ((KeyAbsent, is_there (find k m)) ∷ fits ∷ [])
    (λ h. h) (lawful_passes (lawful k)) (rw o)
    (λ _ e₁. check whole (restored_by n room found) (given_refuses n room found) KeyAbsent (is_there (find k m)) (fits ∷ [])
    (fails (is_there (find k m)) (there_none (find k m))) (there_pass (find k m)) e₁
    (λ _ e₂ s e. given n room s whole (e₂ ∙ rw e))))
