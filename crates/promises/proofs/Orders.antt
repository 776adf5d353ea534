-- From the tests of a call to its reply: each test is one check in the order.
use Prim.Native.Nat.{ℕ, ◌≤◌, ◌<◌}
use mathlib.Core.Path.{◌≡◌, refl, sym, ap, subst, ◌∙◌}
use mathlib.Core.Bool.{Bool, true, false, cond, ◌&&◌, and-false, false≢true}
use mathlib.Core.Logic.{◌⊎◌, inl, inr}
use mathlib.Core.Option.{Option, none, some}
use mathlib.Core.List.{List, [], ◌∷◌, ◌++◌}
use lib.ListN.{length}
use lib.Dec.{eqb, leb}
use borrow.Author.Tests.{eqb-false, leb-true, leb-false, lt-leb, le-leb, ne_eqb}
use borrow.Table.Steps.{cases}
use Rattle.limits.specs.Limits.{longest, most}
use Rattle.bytestring.proofs.Tools.{and_both}
use Rattle.bytestring.specs.Bytes.{ByteString, equal}
use Rattle.answer.specs.Answer.{number_of, done_with, said}
use Rattle.answer.specs.declared.Refusal.{Refusal}
use Rattle.answer.specs.declared.Refusal.TheVariants.{TooManyRecords, UnlawfulKey, WrongValue, KeyAbsent, NoRoom, UntrueHead}
use Rattle.key.specs.Key.{lawful}
use Rattle.key.proofs.Lawful.{slash_none}
use Rattle.key.proofs.SlashLaws.{slash_stands}
use Rattle.value.specs.Value.{raw, dag_cbor, is_codec, value_length, value_codec, value_digest, is_value}
use Rattle.tree.specs.Record.{Record, records, spelt}
use Rattle.tree.specs.Table.{SpeltTree, tree_of_set, table_of}
use Rattle.tree.specs.Judge.{Test, due, fits, Verdict, refused, accepted, judge}
use Rattle.tree.specs.Place.{places}
use Rattle.tree.proofs.Laws.{LawfulKey, RightValue, fitting, fitting_fits, records_of_set, table_accepted, accepted_table, places_stand}
use Rattle.head.specs.declared.Head.{Head}
use Rattle.head.specs.Head.{head_of, same_head}
use Rattle.head.proofs.Laws.{same_head_lem, head_same}
use Rattle.promises.specs.Map.{find, is_there, put, join, remove, merge, greater_found, nth}
use Rattle.promises.specs.Pages.{pages_of, opened_pages, in_pages}
use Rattle.promises.specs.Outcome.{check_verdict, check_outcome, answer_place, lookup_verdict, lookup_answer, Listed, unlisted, past_the_end, listed, list_record, list_verdict, list_outcome, list_answer, list_key, list_value, room_test, sizes, settle, answer_of, output_of}
use Rattle.promises.specs.Moved.{settle_moved, Plan, put_plan, join_plan, remove_plan, merge_plan, carry_out, on_first, put_outcome, join_outcome, remove_outcome, merge_outcome, moved_answer, moved_output, moved_head}
use Rattle.promises.specs.Counted.{settle_counted, counted_answer, counted_output}
use Rattle.promises.specs.Difference.{difference_records, difference_verdicts, difference_outcome}
use Rattle.promises.specs.Register.{RegisterOf}
use Rattle.promises.specs.Reply.{Reply, record_reply, writing_reply, moved_reply, counted_reply, difference_reply}
use Rattle.promises.specs.Order.{AllZero, HeadIs, Refuses, Check, filled, Measured, ResultFinds, GivesRecord, LentHead, NoValue}
use Rattle.promises.specs.Promises.{SlashReplies, CheckReplies, LookupReplies, ListReplies, PutReplies, JoinReplies, RemoveReplies, MergeReplies, DifferenceReplies, DifferenceIsExact}
use Rattle.promises.proofs.MapLaws.{sorted_rising, nth_past, find_merge, Proper, fits_proper, proper_put, proper_join, proper_remove, proper_merge}
use Rattle.promises.proofs.Lookups.{place_found_lem, place_absent}
use Rattle.promises.proofs.Steps.{put_finds, join_finds, remove_finds}
use Rattle.promises.proofs.OpenedLaws.{sorted_in_pages}
use Rattle.promises.proofs.DifferenceLaws.{find_lacking, difference_proper, opened_is_enough}

-- ---- a register that is accepted
pub register_of : (rs : List Record) → fits rs ≡ true → RegisterOf (table_of rs) rs
register_of rs f = record { tree = spelt (tree_of_set rs); judged = table_accepted rs (fitting rs f); spells = records_of_set rs }

pub accepted_fits : (s : ByteString) (t : SpeltTree) → judge s.list ≡ accepted t → fits (records t) ≡ true
accepted_fits s t j = fitting_fits (records t) (accepted_table s.list s.small t j).fit

pub accepted_proper : (s : ByteString) (t : SpeltTree) → judge s.list ≡ accepted t → Proper (records t)
accepted_proper s t j = fits_proper (records t) (accepted_fits s t j)

-- ---- what a test says
pub lawful_passes : (b : Bool) → (b ≡ false → ⊥) → b ≡ true
lawful_passes true h = refl
lawful_passes false h = absurd (h refl)

value_fails : (v : List ℕ) → NoValue v → is_value v ≡ false
unfolding is_value is_codec
value_fails v (inl h) = rw (ne_eqb (length v) value_length h)
value_fails v (inr h) = rw (ne_eqb (value_codec v) raw h.0, ne_eqb (value_codec v) dag_cbor h.1) (and-false (eqb (length v) value_length))

value_passes : (v : List ℕ) → (NoValue v → ⊥) → is_value v ≡ true
unfolding is_value is_codec
value_passes v h =
    cases (eqb (length v) value_length)
    (λ e. cases (eqb (value_codec v) raw) (λ f. rw (e, f))
    (λ f. cases (eqb (value_codec v) dag_cbor) (λ g. rw (e, f, g))
    (λ g. absurd (h (inr (eqb-false (value_codec v) raw f, eqb-false (value_codec v) dag_cbor g))))))
    (λ e. absurd (h (inl (eqb-false (length v) value_length e))))

absent_fails : {A : Type 0} (o : Option A) → o ≡ none → is_there o ≡ false
unfolding is_there
absent_fails o e = rw e

absent_passes : {A : Type 0} (o : Option A) → (o ≡ none → ⊥) → is_there o ≡ true
unfolding is_there
absent_passes none h = absurd (h refl)
absent_passes (some a) h = refl

-- a lent head and the register's own
module _ (lent own : Head) where
  other_head : (lent ≡ own → ⊥) → same_head lent own ≡ false
  other_head h = cases (same_head lent own) (λ e. absurd (h (same_head_lem lent own e))) (λ e. e)

  own_head : ((lent ≡ own → ⊥) → ⊥) → same_head lent own ≡ true
  own_head h = cases (same_head lent own) (λ e. e) (λ e. absurd (h (λ q. false≢true (sym e ∙ ap (same_head lent) (sym q) ∙ head_same lent))))

abbrev TooLarge : ℕ → ℕ → Type 0
TooLarge n room = (room < n) ⊎ (4194304 < n)

size_fails : (n room : ℕ) → TooLarge n room → (leb n room && leb n longest) ≡ false
size_fails n room (inl h) = rw (lt-leb n room h)
size_fails n room (inr h) = simp (lt-leb n longest h, and-false)

pub within : (n m : ℕ) → (m < n → ⊥) → n ≤ m
within n m h = cases (leb n m) (leb-true n m) (λ e. absurd (h (leb-false n m e)))

-- ---- the checks of a call whose reply is fixed by the first number that is due
module _ (whole : Reply) (reply : Option Refusal → Reply) (refuses : (r : Refusal) → Refuses (reply (some r)) (number_of r)) where
  pub check : (n : Refusal) (b : Bool) (ts : List Test) {broken goesOn : Type 0} → (broken → b ≡ false) → ((broken → ⊥) → b ≡ true)
      → whole ≡ reply (due ((n, b) ∷ ts)) → ((broken → ⊥) → whole ≡ reply (due ts) → goesOn) → Check whole (number_of n) broken goesOn
  unfolding due
  check n b ts fails passes e goesOn = record {
    refuses = λ h. subst (λ (q : Reply). Refuses q (number_of n)) (sym (e ∙ rw (fails h))) (refuses n);
    passes = λ h. goesOn h (e ∙ rw (passes h));
  }

  -- the output
  pub measured : (rs : List Record) (room : ℕ) (others : List ℕ) → Proper rs → length rs ≤ most
      → (reply none).answer ≡ done_with (length (table_of rs) ∷ others) → (reply none).outputs ≡ filled room (table_of rs) ∷ []
      → HeadIs (reply none).head (λ _. head_of rs) → whole ≡ reply (due (room_test rs room ∷ [])) → Measured whole room others rs
  unfolding due
  measured rs room others p few answer outputs head e =
      let size : ℕ = length (table_of rs) in
      check NoRoom (leb size room && leb size longest) [] (size_fails size room)
      (λ h. and_both (le-leb size room (within size room (λ l. h (inl l)))) (le-leb size longest (within size longest (λ l. h (inr l))))) e
      (λ fit done. record {
        register = register_of rs (fitting_fits rs (record { count = few; order = sorted_rising rs p.order; keys = p.keys; values = p.values; size = within size longest (λ l. fit (inr l)) }));
        answer = ap (λ (q : Reply). q.answer) done ∙ answer;
        outputs = ap (λ (q : Reply). q.outputs) done ∙ outputs;
        head = subst (λ (q : Reply). HeadIs q.head (λ _. head_of rs)) (sym done) head;
      })

  -- last the resulting count and the output
  last : (rs : List Record) (room : ℕ) (others : List ℕ) (finds : List ℕ → Option (List ℕ)) → Proper rs
      → ((key : List ℕ) → find key rs ≡ finds key) → (reply none).answer ≡ done_with (length (table_of rs) ∷ others)
      → (reply none).outputs ≡ filled room (table_of rs) ∷ [] → HeadIs (reply none).head (λ _. head_of rs)
      → whole ≡ reply (due (sizes rs room)) → ResultFinds whole room others finds
  unfolding sizes
  last rs room others finds p f answer outputs head e = record {
    result = rs;
    in_order = sorted_rising rs p.order;
    found = f;
    last = check TooManyRecords (leb (length rs) most) (room_test rs room ∷ [])
        (lt-leb (length rs) most) (λ h. le-leb (length rs) most (within (length rs) most h)) e
        (λ few. measured rs room others p (within (length rs) most few) answer outputs head);
  }

-- ---- a call that writes a table and nothing else
module _ (rs : List Record) (room : ℕ) where
  -- the reply by the first number that is due
  abbrev pub settled_reply : Option Refusal → Reply
  settled_reply o = writing_reply (settle o rs) room

  pub settled_refuses : (r : Refusal) → Refuses (settled_reply (some r)) (number_of r)
  unfolding settle answer_of output_of
  settled_refuses r = record { answer = refl; outputs = (refl, tt); head = tt }

  pub settled_writes : ((settled_reply none).answer ≡ done_with (length (table_of rs) ∷ [])) × ((settled_reply none).outputs ≡ filled room (table_of rs) ∷ [])
  unfolding settle answer_of output_of
  settled_writes = (refl, refl)

-- ---- put, join, remove, merge
module _ (lent : Head) (rs : List Record) (room : ℕ) where
  -- the reply by the first number that is due
  abbrev moved_by : Option Refusal → Reply
  moved_by o = moved_reply (settle_moved o rs) lent room

  moved_refuses : (r : Refusal) → Refuses (moved_by (some r)) (number_of r)
  unfolding settle_moved moved_answer moved_output moved_head
  moved_refuses r = record { answer = refl; outputs = (refl, tt); head = refl }

  moved_last : (whole : Reply) (finds : List ℕ → Option (List ℕ)) → Proper rs → ((key : List ℕ) → find key rs ≡ finds key)
      → whole ≡ moved_by (due (sizes rs room)) → ResultFinds whole room [] finds
  unfolding settle_moved moved_answer moved_output moved_head
  moved_last whole finds p f e = last whole moved_by moved_refuses rs room [] finds p f refl refl refl e

-- the first register and its head
module _ (s : List ℕ) (lent : Head) (plan : List Record → Plan) (room : ℕ) where
  abbrev planned : Reply
  planned = moved_reply (on_first (judge s) lent plan room) lent room

  abbrev tested : List Record → List Test
  tested m = (plan m).asks ++ sizes (plan m).result room

  lent_head : (goesOn : SpeltTree → Type 0)
      → ((t : SpeltTree) → judge s ≡ accepted t → planned ≡ moved_by lent (plan (records t)).result room (due (tested (records t))) → goesOn t)
      → LentHead s lent planned goesOn
  unfolding on_first carry_out moved_answer moved_output moved_head
  lent_head goesOn later = record {
    refuses = λ r j. record { answer = rw j; outputs = (rw j, tt); head = rw j };
    accepts = λ t j.
        let own : Head = head_of (records t) in
        check planned (moved_by lent (plan (records t)).result room) (moved_refuses lent (plan (records t)).result room)
        UntrueHead (same_head lent own) (tested (records t)) (other_head lent own) (own_head lent own) (rw j) (λ _. later t j);
  }

-- put and join, by what they make of the record and the set
module _ (s : ByteString) (lent : Head) (k v : List ℕ) (room : ℕ) (set : Record → List Record → List Record) where
  abbrev r : Record
  r = record { key = k; val = v }

  abbrev set_plan : List Record → Plan
  set_plan m = record { asks = (UnlawfulKey, lawful k) ∷ (WrongValue, is_value v) ∷ []; result = set r m }

  set_order : (finds : SpeltTree → List ℕ → Option (List ℕ))
      → (LawfulKey r → RightValue r → (m : List Record) → Proper m → Proper (set r m))
      → ((t : SpeltTree) (key : List ℕ) → find key (set r (records t)) ≡ finds t key)
      → LentHead s.list lent (planned s.list lent set_plan room) (λ t.
      Check (planned s.list lent set_plan room) 7 (lawful k ≡ false)
      (Check (planned s.list lent set_plan room) 11 (NoValue v)
      (ResultFinds (planned s.list lent set_plan room) room [] (finds t))))
  set_order finds proper found =
      let whole = planned s.list lent set_plan room in
      lent_head s.list lent set_plan room _ (λ t j e₀.
      let rs : List Record = set r (records t) in
      let reply = moved_by lent rs room in
      check whole reply (moved_refuses lent rs room) UnlawfulKey (lawful k) ((WrongValue, is_value v) ∷ sizes rs room)
      (λ h. h) (lawful_passes (lawful k)) e₀
      (λ l e₁. check whole reply (moved_refuses lent rs room) WrongValue (is_value v) (sizes rs room) (value_fails v) (value_passes v) e₁
      (λ w e₂. moved_last lent rs room whole (finds t) (proper (lawful_passes (lawful k) l) (value_passes v w) (records t) (accepted_proper s t j)) (found t) e₂)))

pub put_replies : PutReplies
unfolding put_outcome put_plan
put_replies s h k v room =
    set_order s h k.list v.list room put (λ t key. cond (equal key k.list) (some v.list) (find key (records t)))
    (proper_put (record { key = k.list; val = v.list })) (λ t key. put_finds k.list (records t) key v.list)

pub join_replies : JoinReplies
unfolding join_outcome join_plan
join_replies s h k v room =
    set_order s h k.list v.list room join
    (λ t key. cond (equal key k.list) (greater_found (find key (records t)) (some v.list)) (find key (records t)))
    (proper_join (record { key = k.list; val = v.list })) (λ t key. join_finds k.list (records t) key v.list)

pub remove_replies : RemoveReplies
unfolding remove_outcome remove_plan
remove_replies s h k room =
    let whole = planned s.list h (remove_plan k.list) room in
    lent_head s.list h (remove_plan k.list) room _ (λ t j e₀.
    let m : List Record = records t in
    let rs : List Record = remove k.list m in
    let reply = moved_by h rs room in
    let proper = accepted_proper s t j in
    check whole reply (moved_refuses h rs room) UnlawfulKey (lawful k.list) ((KeyAbsent, is_there (find k.list m)) ∷ sizes rs room)
    (λ e. e) (lawful_passes (lawful k.list)) e₀
    (λ l e₁. check whole reply (moved_refuses h rs room) KeyAbsent (is_there (find k.list m)) (sizes rs room)
    (absent_fails (find k.list m)) (absent_passes (find k.list m)) e₁
    (λ w e₂. moved_last h rs room whole _ (proper_remove k.list m proper) (λ key. remove_finds k.list m key proper.order) e₂)))

-- the second register, after the first and its head were accepted
module _ (v : Verdict) (h : Head) (m : List Record) (room : ℕ) (whole : Reply)
    (e : whole ≡ moved_by h (merge_plan v m).result room (due ((merge_plan v m).asks ++ sizes (merge_plan v m).result room))) where
  second_refuses : (r : Refusal) → v ≡ refused r → Refuses whole (number_of r)
  unfolding merge_plan due settle_moved moved_answer moved_output moved_head
  second_refuses r k = subst (λ (q : Reply). Refuses q (number_of r)) (sym (e ∙ rw k)) (moved_refuses h m room r)

  second_accepts : (w : SpeltTree) → v ≡ accepted w → whole ≡ moved_by h (merge m (records w)) room (due (sizes (merge m (records w)) room))
  unfolding merge_plan
  second_accepts w k = e ∙ rw k

pub merge_replies : MergeReplies
unfolding merge_outcome
merge_replies s h u room =
    let plan = merge_plan (judge u.list) in
    let whole = planned s.list h plan room in
    lent_head s.list h plan room _ (λ t j e. record {
      refuses = second_refuses (judge u.list) h (records t) room whole e;
      accepts = λ w k.
          let q = accepted_proper u w k in
          moved_last h (merge (records t) (records w)) room whole _
          (proper_merge (records w) (records t) q.keys q.values (accepted_proper s t j))
          (λ key. find_merge key (records w) (records t) q.order)
          (second_accepts (judge u.list) h (records t) room whole e w k);
    })

-- ---- a call that counts
module _ (rs : List Record) (count room : ℕ) where
  -- the reply by the first number that is due
  abbrev pub counted_by : Option Refusal → Reply
  counted_by o = counted_reply (settle_counted o rs count) room

  pub counted_refuses : (r : Refusal) → Refuses (counted_by (some r)) (number_of r)
  unfolding settle_counted counted_answer counted_output
  counted_refuses r = record { answer = refl; outputs = (refl, tt); head = tt }

  pub counted_writes : ((counted_by none).answer ≡ done_with (length (table_of rs) ∷ count ∷ [])) × ((counted_by none).outputs ≡ filled room (table_of rs) ∷ [])
  unfolding settle_counted counted_answer counted_output
  counted_writes = (refl, refl)

  counted_last : (whole : Reply) (finds : List ℕ → Option (List ℕ)) → Proper rs → ((key : List ℕ) → find key rs ≡ finds key)
      → whole ≡ counted_by (due (sizes rs room)) → ResultFinds whole room (count ∷ []) finds
  counted_last whole finds p f e =
      last whole counted_by counted_refuses rs room (count ∷ []) finds p f counted_writes.0 counted_writes.1 tt e

-- ---- the difference
module _ (s u : ByteString) (room : ℕ) where
  abbrev reply : Reply
  reply = difference_reply s.list u.list room

  first_refused : (r : Refusal) → judge s.list ≡ refused r → Refuses reply (number_of r)
  unfolding difference_outcome difference_verdicts counted_answer counted_output
  first_refused r j = record { answer = rw j; outputs = (rw j, tt); head = tt }

  module _ (t : SpeltTree) (j : judge s.list ≡ accepted t) where
    second_refused : (r : Refusal) → judge u.list ≡ refused r → Refuses reply (number_of r)
    unfolding difference_outcome difference_verdicts counted_answer counted_output
    second_refused r k = record { answer = rw (j, k); outputs = (rw (j, k), tt); head = tt }

    module _ (w : SpeltTree) (k : judge u.list ≡ accepted w) where
      both_accepted : reply ≡ counted_by (difference_records t w) (length (opened_pages (pages_of t) w)) room (due (sizes (difference_records t w) room))
      unfolding difference_outcome difference_verdicts
      both_accepted = rw (j, k)

      pub difference_result : (finds : List ℕ → Option (List ℕ)) → ((key : List ℕ) → find key (difference_records t w) ≡ finds key)
          → ResultFinds reply room (length (opened_pages (pages_of t) w) ∷ []) finds
      difference_result finds f =
          counted_last (difference_records t w) (length (opened_pages (pages_of t) w)) room reply finds
          (difference_proper t w (accepted_proper u w k)) f both_accepted

pub difference_replies : DifferenceReplies
unfolding difference_records
difference_replies s u room = record {
  refuses = first_refused s u room;
  accepts = λ t j. record {
    refuses = second_refused s u room t j;
    accepts = λ w k.
        difference_result s u room t j w k _
        (λ key. find_lacking key (records t) (in_pages (opened_pages (pages_of t) w)) (sorted_in_pages (opened_pages (pages_of t) w)));
  };
}

pub difference_is_exact : DifferenceIsExact
difference_is_exact s u t w j k unshared room =
    let a = accepted_table s.list s.small t j in
    let b = accepted_table u.list u.small w k in
    difference_result s u room t j w k _
    (λ key. rw (opened_is_enough s.list u.list t w a b unshared) (find_lacking key (records t) (records w) (accepted_proper u w k).order))

-- ---- slash, check, lookup, list
pub slash_replies : SlashReplies
slash_replies k =
    record {
      refuses = λ e. record { answer = ap said (slash_none k.list e); outputs = tt; head = tt };
      passes = λ f. let w = slash_stands k.list (lawful_passes (lawful k.list) f) in (w.0, ap said w.1, w.2);
    }

pub check_replies : CheckReplies
unfolding check_outcome check_verdict
check_replies s = record { refuses = λ r j. record { answer = rw j; outputs = tt; head = rw j }; accepts = λ t j. (rw j, rw j) }

pub lookup_replies : LookupReplies
unfolding lookup_answer lookup_verdict answer_place
lookup_replies s k = record {
  refuses = λ r j. record { answer = rw j; outputs = tt; head = tt };
  accepts = λ t j. record {
    refuses = λ h. record { answer = rw (j, h); outputs = tt; head = tt };
    passes = λ h.
        let l = lawful_passes (lawful k.list) h in
        record {
          refuses = λ e. record { answer = rw (j, l, place_absent k.list (records t) (places 0 t) e); outputs = tt; head = tt };
          passes = λ _ v e.
              let p = place_found_lem s.list k.list (records t) (places 0 t) (places_stand s.list s.small t j) v e in
              (p.0, rw (j, l, p.1) (ap (λ (w : List ℕ). done_with (p.0 ∷ value_codec w ∷ [])) p.2), ap (λ (w : List ℕ). value_digest w) p.2);
        };
  };
}

-- a single record, by what list and the calls beside a key give
module _ (o : Listed) (room : ℕ) where
  -- both outputs are zero where there is none
  pub record_refuses : (r : Refusal) → o ≡ unlisted r → Refuses (record_reply o room) (number_of r)
  unfolding list_answer list_key list_value
  record_refuses r e = record { answer = rw e; outputs = (rw e, (rw e, tt)); head = tt }

  record_past : o ≡ past_the_end → ((record_reply o room).answer ≡ done_with (0 ∷ [])) × AllZero (record_reply o room).outputs
  unfolding list_answer list_key list_value
  record_past e = (rw e, (rw e, (rw e, tt)))

  pub gives_record : (r : Record) → o ≡ cond (leb (length r.key) room) (listed r) (unlisted NoRoom) → GivesRecord (record_reply o room) room r
  unfolding list_answer list_key list_value
  gives_record r e = record {
    refuses = λ h. record_refuses NoRoom (e ∙ rw (lt-leb (length r.key) room h));
    passes = λ h. let fit = le-leb (length r.key) room (within (length r.key) room h) in (rw (e, fit), rw (e, fit));
  }

nth_given : (before later : List Record) (r : Record) → nth (length before) (before ++ (r ∷ later)) ≡ some r
unfolding nth
nth_given [] later r = refl
nth_given (x ∷ before) later r = nth_given before later r

pub list_replies : ListReplies
unfolding list_outcome list_verdict list_record
list_replies s n room =
    let o = list_outcome s.list n room in
    record {
      refuses = λ r j. record_refuses o room r (rw j);
      accepts = λ t j. record {
        past = λ h. record_past o room (rw (j, nth_past n (records t) h));
        given = λ before later r e q.
            let g : nth n (records t) ≡ some r = rw (e, ← q) (nth_given before later r) in
            gives_record o room r (rw (j, g));
      };
    }
