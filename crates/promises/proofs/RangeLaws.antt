-- Parts between two keys: what the definitions give of a sorted set, and the replies of the calls.
use Prim.Native.Nat.{ℕ}
use mathlib.Core.Path.{◌≡◌, refl, sym, ap, ◌∙◌}
use mathlib.Core.Bool.{Bool, true, false, cond, not, ◌&&◌, ◌||◌, false≢true}
use mathlib.Core.Option.{Option, none, some, none-ne-some}
use mathlib.Core.List.{List, [], ◌∷◌}
use native.Mathlib.Omega.{arith}
use borrow.Table.Steps.{cases}
use Rattle.bytestring.specs.Bytes.{ByteString}
use Rattle.answer.specs.Answer.{number_of}
use Rattle.answer.specs.declared.Refusal.{Refusal}
use Rattle.answer.specs.declared.Refusal.TheVariants.{UnlawfulKey, KeyAbsent, FirstAfterLast}
use Rattle.key.specs.Key.{lawful, less}
use Rattle.key.proofs.Laws.{less-connected, less_transitive, is_false}
use Rattle.tree.specs.Record.{Record, records}
use Rattle.tree.specs.Table.{SpeltTree}
use Rattle.tree.specs.Judge.{refused, accepted, judge}
use Rattle.tree.proofs.Laws.{fitting}
use Rattle.promises.specs.Map.{find}
use Rattle.promises.specs.Outcome.{Listed, room_test, answer_of, output_of}
use Rattle.promises.specs.Range.{is_before, is_between, at_or_after, or_else, last_before, records_between, one_record, beside_key, at_or_after_outcome, before_outcome, run_tests, run_verdict, run_outcome}
use Rattle.promises.specs.Reply.{record_reply, run_reply}
use Rattle.promises.specs.Order.{Refuses, Judged, Check, FirstFrom, LastBelow, GivesRecord}
use Rattle.promises.specs.Promises.{AtOrAfterReplies, BeforeReplies, RunReplies}
use Rattle.promises.proofs.MapLaws.{Before, Above, above_before, Sorted, sorted_rising, find_nil, find_before, find_here, find_later, find_above}
use Rattle.promises.proofs.Parts.{proper_part, whose_part, whose_few, find_whose}
use Rattle.promises.proofs.Orders.{accepted_fits, accepted_proper, lawful_passes, check, measured, settled_reply, settled_refuses, settled_writes, record_refuses, gives_record}

-- ---- the order of keys
-- a key below a bound is below every key that is not
below_bound : (a bound b : List ℕ) → less a bound ≡ true → less b bound ≡ false → Before a b
below_bound a bound b h k =
    less-connected bound b (less_transitive a bound b h) (λ e. rw e at h) (λ l. absurd (false≢true (sym k ∙ l)))

-- what is found among keys above x is above x
found_above : (x : List ℕ) (m : List Record) (key v : List ℕ) → Above x m → find key m ≡ some v → Before x key
found_above x m key v a e =
    less-connected x key (λ h. h)
    (λ h. absurd (none-ne-some v (sym (find_above key m (rw h at a)) ∙ e)))
    (λ h. absurd (none-ne-some v (sym (find_above key m (above_before key x m h a)) ∙ e)))

module _ (k : List ℕ) where
  -- ---- the first record at or after a key
  first_none : (rs : List Record) → Sorted rs → at_or_after k rs ≡ none → (key : List ℕ) → less key k ≡ false → find key rs ≡ none
  unfolding at_or_after
  first_none [] s = λ e key h. find_nil key
  first_none (x ∷ m) s =
      cases (is_before k x)
      (λ l. rw l (λ e key h. find_later key x m (below_bound x.key k key l h) ∙ first_none m s.1 e key h))
      (λ l. rw l (λ e key h. absurd (none-ne-some x (sym e))))

  first_from : (rs : List Record) → Sorted rs → (r : Record) → at_or_after k rs ≡ some r → FirstFrom k rs r
  unfolding at_or_after
  first_from [] s r = λ e. absurd (none-ne-some r e)
  first_from (x ∷ m) s r =
      cases (is_before k x)
      (λ l. rw l (λ e.
      let f = first_from m s.1 r e in
      record {
        held = find_later r.key x m (below_bound x.key k r.key l f.from) ∙ f.held;
        from = f.from;
        nearest = λ key h g. find_later key x m (below_bound x.key k key l h) ∙ f.nearest key h g;
      }))
      (λ l. rw l (λ e.
      let same : x ≡ r = cc in
      rw (← same) (record {
        held = find_here x.key x m refl;
        from = l;
        nearest = λ key h g. find_before key x m g;
      })))

  -- ---- the last record before it
  else_some : (o : Option Record) (x : Record) → or_else o x ≡ none → ⊥
  unfolding or_else
  else_some none x e = let z : ◌≡◌ {A = ℕ} 0 1 = cc in omega arith
  else_some (some r) x e = let z : ◌≡◌ {A = ℕ} 0 1 = cc in omega arith

  last_none : (rs : List Record) → Sorted rs → last_before k rs ≡ none → (key : List ℕ) → less key k ≡ true → find key rs ≡ none
  unfolding last_before
  last_none [] s = λ e key h. find_nil key
  last_none (x ∷ m) s =
      cases (is_before k x)
      (λ l. rw l (λ e key h. absurd (else_some (last_before k m) x e)))
      (λ l. rw l (λ e key h. find_before key x m (below_bound key k x.key h l)))

  -- by what lies behind the first record
  last_after_lem : (x : Record) (m : List Record) → Sorted (x ∷ m) → less x.key k ≡ true
      → ((r : Record) → last_before k m ≡ some r → LastBelow k m r) → (o : Option Record) → last_before k m ≡ o → (r : Record) → or_else o x ≡ some r
      → LastBelow k (x ∷ m) r
  unfolding or_else
  last_after_lem x m s l later none q r e =
      let same : x ≡ r = cc in
      rw (← same) (record {
        held = find_here x.key x m refl;
        below = l;
        nearest = λ key h g. find_later key x m g ∙ last_none m s.1 q key h;
      })
  last_after_lem x m s l later (some y) q r e =
      let same : y ≡ r = cc in
      let f = later r (q ∙ ap some same) in
      let above = found_above x.key m r.key r.val s.0 f.held in
      record {
        held = find_later r.key x m above ∙ f.held;
        below = f.below;
        nearest = λ key h g. find_later key x m (less_transitive x.key r.key key above g) ∙ f.nearest key h g;
      }

  last_below : (rs : List Record) → Sorted rs → (r : Record) → last_before k rs ≡ some r → LastBelow k rs r
  unfolding last_before
  last_below [] s r = λ e. absurd (none-ne-some r e)
  last_below (x ∷ m) s r =
      cases (is_before k x)
      (λ l. rw l (last_after_lem x m s l (λ q. last_below m s.1 q) (last_before k m) refl r))
      (λ l. rw l (λ e. absurd (none-ne-some r e)))

-- ---- the records between two keys
between_cond : (a b : Bool) (o : Option (List ℕ)) → cond (not a && not b) o none ≡ cond (a || b) none o
between_cond true b o = refl
between_cond false true o = refl
between_cond false false o = refl

-- ---- one record beside a key
-- `Rest` are the keys on its side of the key, and `Near` says that a record is the nearest there
module _ (s k : ByteString) (choose : List Record → Option Record) (room : ℕ) (Rest : List ℕ → Type 0) (Near : List Record → Record → Type 0)
    (absent : (rs : List Record) → Sorted rs → choose rs ≡ none → (key : List ℕ) → Rest key → find key rs ≡ none)
    (near : (rs : List Record) → Sorted rs → (r : Record) → choose rs ≡ some r → Near rs r)
    (held : (rs : List Record) (r : Record) → Near rs r → Rest r.key × (find r.key rs ≡ some r.val)) where
  abbrev chosen : Listed
  chosen = beside_key (judge s.list) k.list choose room

  module _ (t : SpeltTree) (j : judge s.list ≡ accepted t) (l : lawful k.list ≡ true) where
    abbrev Found : Type 0
    Found =
        Check (record_reply chosen room) 12 ((key : List ℕ) → Rest key → find key (records t) ≡ none)
        ((r : Record) × Near (records t) r × GivesRecord (record_reply chosen room) room r)

    by_choice : (o : Option Record) → choose (records t) ≡ o → Found
    unfolding beside_key one_record
    by_choice none e = record {
      refuses = λ h. record_refuses chosen room KeyAbsent (rw (j, l, e));
      passes = λ h. absurd (h (absent (records t) (accepted_proper s t j).order e));
    }
    by_choice (some r) e =
        let n = near (records t) (accepted_proper s t j).order r e in
        let q = held (records t) r n in
        record {
          refuses = λ h. absurd (none-ne-some r.val (sym (h r.key q.0) ∙ q.1));
          passes = λ h. (r, n, gives_record chosen room r (rw (j, l, e)));
        }

  beside_order : Judged s.list (record_reply chosen room) (λ t.
      Check (record_reply chosen room) 7 (lawful k.list ≡ false)
      (Check (record_reply chosen room) 12 ((key : List ℕ) → Rest key → find key (records t) ≡ none)
      ((r : Record) × Near (records t) r × GivesRecord (record_reply chosen room) room r)))
  unfolding beside_key
  beside_order = record {
    refuses = λ r j. record_refuses chosen room r (rw j);
    accepts = λ t j. record {
      refuses = λ h. record_refuses chosen room UnlawfulKey (rw (j, h));
      passes = λ h. by_choice t j (lawful_passes (lawful k.list) h) (choose (records t)) refl;
    };
  }

pub at_or_after_replies : AtOrAfterReplies
unfolding at_or_after_outcome
at_or_after_replies s k room =
    beside_order s k (at_or_after k.list) room (λ key. less key k.list ≡ false) (FirstFrom k.list)
    (first_none k.list) (first_from k.list) (λ rs r f. (f.from, f.held))

pub before_replies : BeforeReplies
unfolding before_outcome
before_replies s k room =
    beside_order s k (last_before k.list) room (λ key. less key k.list ≡ true) (LastBelow k.list)
    (last_none k.list) (last_below k.list) (λ rs r f. (f.below, f.held))

-- ---- the run
run_refuses : (s first last : List ℕ) (room : ℕ) (r : Refusal) → judge s ≡ refused r → Refuses (run_reply s first last room) (number_of r)
unfolding run_outcome run_verdict answer_of output_of
run_refuses s first last room r j = record { answer = rw j; outputs = (rw j, tt); head = tt }

pub run_replies : RunReplies
unfolding run_outcome run_verdict run_tests
run_replies s f l room =
    let first = f.list in
    let last = l.list in
    let whole = run_reply s.list first last room in
    record {
      refuses = λ r j. run_refuses s.list first last room r j;
      accepts = λ t j.
          let rs : List Record = records_between first last (records t) in
          let p = accepted_proper s t j in
          let few = (fitting (records t) (accepted_fits s t j)).count in
          let reply = settled_reply rs room in
          check whole reply (settled_refuses rs room) UnlawfulKey (lawful first) ((UnlawfulKey, lawful last) ∷ (FirstAfterLast, not (less last first)) ∷ room_test rs room ∷ [])
          (λ h. h) (lawful_passes (lawful first)) (rw j)
          (λ _ e₁. check whole reply (settled_refuses rs room) UnlawfulKey (lawful last) ((FirstAfterLast, not (less last first)) ∷ room_test rs room ∷ []) (λ h. h) (lawful_passes (lawful last)) e₁
          (λ _ e₂. check whole reply (settled_refuses rs room) FirstAfterLast (not (less last first)) (room_test rs room ∷ []) (λ h. rw h) (λ h. rw (is_false (less last first) h)) e₂
          (λ _ e₃. record {
            result = rs;
            in_order = sorted_rising rs (proper_part (whose_part (is_between first last) (records t)) p).order;
            found = λ key. find_whose (is_between first last) key (records t) p.order ∙ between_cond (less key first) (less last key) (find key (records t));
            measured = measured whole reply (settled_refuses rs room) rs room [] (proper_part (whose_part (is_between first last) (records t)) p)
                (omega (arith, whose_few (is_between first last) (records t))) (settled_writes rs room).0 (settled_writes rs room).1 tt e₃;
          })));
    }
