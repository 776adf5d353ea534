-- The proofs of the promises in specs/Promises.antt. Those of the calls' replies and of opened pages stand in Orders and OpenedLaws.
use Rattle.std.specs.Prelude.{Ok}
use Prim.Native.Nat.{ℕ, ◌≤◌}
use mathlib.Core.Path.{◌≡◌, refl, sym, ap, ap₂, ◌∙◌}
use mathlib.Core.Bool.{true}
use mathlib.Core.Option.{Option, none, some}
use mathlib.Core.List.Sublistᴰ as ListSublistᴰ
use mathlib.Core.List.{List, [], ◌∷◌, ◌++◌, append_assoc, append-nil, Sublistᴰ}
use native.Mathlib.Omega.{arith}
use lib.ListN.{length, length-append}
use lib.Seq.{take-append_seam}
use borrow.Author.Tests.{le-leb}
use Rattle.limits.specs.Limits.{longest, most}
use Rattle.bytestring.proofs.Tools.{All, all_split, and_both}
use Rattle.bytestring.specs.Bytes.{Bytes, ByteString}
use Rattle.bytestring.proofs.Equal.{equal-cases}
use Rattle.answer.specs.Answer.{Said, refused_with, said}
use Rattle.answer.specs.Inner.{FirstFits}
use Rattle.answer.specs.declared.Refusal.{Refusal}
use Rattle.answer.specs.declared.Refusal.TheVariants.{UnlawfulKey, WrongValue}
use Rattle.answer.proofs.Laws.{two_come_apart}
use Rattle.key.specs.Key.{lawful}
use Rattle.page.specs.Number.{number_bytes}
use Rattle.value.specs.Value.{value_codec, is_value}
use Rattle.page.specs.Page.{gap_bytes, page_bytes}
use Rattle.tree.specs.Tree.{top_layer, part, entries_of, page_of, build, tree_of}
use Rattle.tree.specs.Record.{Record, records, spelt}
use Rattle.tree.specs.Table.{SpeltTree, link_of, raw_entries, raw_page, bytes_of_page, table, tree_of_set, table_of}
use Rattle.tree.specs.Judge.{due, fits, Verdict, refused, accepted, judge}
use Rattle.tree.proofs.Laws.{due_none, none_due, LawfulKey, RightValue, fitting, fitting_fits, accepted_table, table_bytes, table_grows}
use Rattle.head.specs.declared.Head.{Head}
use Rattle.head.specs.Head.{head_of}
use Rattle.promises.specs.Map.{only_in_second, put, merge}
use Rattle.promises.specs.Pages.{pages_of, opened_pages}
use Rattle.promises.specs.Outcome.{sizes, check_verdict, check_outcome, lookup_answer}
use Rattle.promises.specs.Moved.{Moved, stopped, moved, settle_moved, Plan, put_plan, join_plan, remove_plan, merge_plan, carry_out, on_first, put_outcome, join_outcome, remove_outcome, merge_outcome, moved_answer, moved_output, moved_head}
use Rattle.promises.specs.Counted.{settle_counted, counted_answer}
use Rattle.promises.specs.Difference.{difference_records, difference_verdicts, difference_outcome}
use Rattle.promises.specs.Plain.{Request, put_of, remove_of, join_of, merge_of, Call, plan_of, room_of, map_outcome, next_set, set_after, map_answers, map_set, outcome_of, call_answer, call_output, call_head, next_held, held_after, library_answers, held, carrying, empty_register, puts_of}
use Rattle.promises.specs.Register.{RegisterOf}
use Rattle.promises.specs.Promises.{GreaterDigestKept, GreaterCodecKept, CodecsTold, LookupComesApart, ValuesAreBytes, ReadsWhatItWrites, ReadsNothingElse, AnswersAsTheMap, HoldsItsRegister, TrueAlong, HeadGoesAlong, AllDone, PutsReachEverySet, OneRegister, SameSetSameBytes, MergeCommutes, MergeAssociates, MergeIdempotent, DifferenceComesApart}
use Rattle.promises.proofs.ValueOrder.{lesser_digest, codec_first}
use Rattle.promises.proofs.MapLaws.{Before, Sorted, sorted_rising, lesser_gives, insert_nil, insert_later, fits_proper, fits_sorted}
use Rattle.promises.proofs.MergeLaws.{merge_commutes as sets_commute, merge_associates as sets_associate, merge_idempotent as set_idempotent}
use Rattle.promises.proofs.Parts.{proper_part}
use Rattle.promises.proofs.Steps.{sized, carried, put_fits, join_fits, remove_fits, merged_fits, merge_fits, first_accepted_lem, second_accepted_lem}
use Rattle.promises.proofs.Lookups.{lookup_short}
use Rattle.promises.proofs.Orders.{register_of}
use Rattle.promises.proofs.TrueHeads.{true_passes, never_untrue}

-- ---- demand 2
pub reads_what_it_writes : ReadsWhatItWrites
reads_what_it_writes = register_of

-- the table of a set that fits
abbrev TableOf : List ℕ → List Record → Type 0
TableOf s m = (s ≡ table_of m) × (fits m ≡ true)

accepted_is_table : (s : ByteString) (t : SpeltTree) → judge s.list ≡ accepted t → TableOf s.list (records t)
accepted_is_table s t h =
    let a = accepted_table s.list s.small t h in
    (a.written, fitting_fits (records t) a.fit)

pub reads_nothing_else : ReadsNothingElse
reads_nothing_else s rs r =
    let a = accepted_is_table s r.tree r.judged in
    (rw r.spells at a.1, rw r.spells at a.0)

value_bytes_lem : (rs : List Record) → ValuesAreBytes rs → All (λ r. Bytes r.val) rs
value_bytes_lem [] v = tt
value_bytes_lem (r ∷ rs) v = (v.0, value_bytes_lem rs v.1)

pub one_register : OneRegister
one_register rs f v = record {
  bytes = record { list = table_of rs; small = table_bytes rs (fitting rs f) (value_bytes_lem rs v) };
  register = reads_what_it_writes rs f;
  no_other = λ s r. (reads_nothing_else s rs r).1;
}

-- ---- demand 3
-- with the register of a set, a plan is carried out with that set
on_register : (s : List ℕ) (rs : List Record) → RegisterOf s rs → (h : Head) (plan : List Record → Plan) (room : ℕ)
    → on_first (judge s) h plan room ≡ carry_out h plan rs room
unfolding on_first
on_register s rs r h plan room = rw (r.judged, r.spells)

same_request : (q : Request) (h : Head) (s : List ℕ) (m : List Record) → RegisterOf s m → outcome_of q s h ≡ carry_out h (plan_of q) m (room_of q)
unfolding outcome_of plan_of room_of put_outcome join_outcome remove_outcome merge_outcome
same_request (put_of k v room) h s m r = on_register s m r h (put_plan k v) room
same_request (remove_of k room) h s m r = on_register s m r h (remove_plan k) room
same_request (join_of k v room) h s m r = on_register s m r h (join_plan k v) room
same_request (merge_of u room) h s m r = on_register s m r h (merge_plan (judge u.list)) room

same_outcome : (c : Call) (s : List ℕ) (m : List Record) → RegisterOf s m → outcome_of c.request s c.head ≡ map_outcome c m
unfolding map_outcome
same_outcome c s m r = same_request c.request c.head s m r

plan_fits : (q : Request) (h : Head) (m : List Record) → fits m ≡ true → (t : List ℕ) (g : Head)
    → carry_out h (plan_of q) m (room_of q) ≡ moved t g → fits (plan_of q m).result ≡ true
unfolding plan_of room_of
plan_fits (put_of k v room) h m f t g e = put_fits h m f room t g k v e
plan_fits (remove_of k room) h m f t g e = remove_fits h m f room t g k e
plan_fits (join_of k v room) h m f t g e = join_fits h m f room t g k v e
plan_fits (merge_of u room) h m f t g e = merge_fits h m f room t g (judge u.list) (λ v j. (accepted_is_table u v j).1) e

-- what is read off the answer and the output is the table that was written, or the register lent
held_by_lem : Moved → List ℕ → List ℕ
held_by_lem (stopped r) s = s
held_by_lem (moved t h) s = t

read_off : (o : Moved) (room : ℕ) (s : List ℕ) → next_held (moved_answer o) (moved_output o room) s ≡ held_by_lem o s
unfolding next_held moved_answer moved_output held_by_lem
read_off (stopped r) room s = refl
read_off (moved t h) room s = take-append_seam t _

next_held_lem : (c : Call) (s : List ℕ) → held_after c s ≡ held_by_lem (outcome_of c.request s c.head) s
unfolding call_answer call_output
next_held_lem c s = read_off (outcome_of c.request s c.head) (room_of c.request) s

-- after a call the register held is the table of the map's set, which fits; and the head is that set's where the call was not refused
record Stepped (c : Call) (m : List Record) (o : Moved) : Type 0 where
  pub table : held_by_lem o (table_of m) ≡ table_of (next_set o m (plan_of c.request m).result)
  pub fit : fits (next_set o m (plan_of c.request m).result) ≡ true
  pub head : c.head ≡ head_of m → moved_head o c.head ≡ head_of (next_set o m (plan_of c.request m).result)

step_by : (c : Call) (m : List Record) → fits m ≡ true → (o : Moved) → map_outcome c m ≡ o → Stepped c m o
unfolding held_by_lem next_set map_outcome moved_head
step_by c m f (stopped r) e = record { table = refl; fit = f; head = λ h. h }
step_by c m f (moved t g) e =
    let w = carried c.head (plan_of c.request) m (room_of c.request) t g e in
    record { table = w.written; fit = plan_fits c.request c.head m f t g e; head = λ _. w.head }

module _ (c : Call) (m : List Record) (f : fits m ≡ true) where
  same : outcome_of c.request (table_of m) c.head ≡ map_outcome c m
  same = same_outcome c (table_of m) m (register_of m f)

  stepped : Stepped c m (map_outcome c m)
  stepped = step_by c m f (map_outcome c m) refl

  step : held_after c (table_of m) ≡ table_of (set_after c m)
  step = next_held_lem c (table_of m) ∙ rw same stepped.table

  same_answer : said (call_answer c (table_of m)) ≡ said (moved_answer (map_outcome c m))
  unfolding call_answer
  same_answer = rw same

  head_after : call_head c (table_of m) ≡ moved_head (map_outcome c m) c.head
  unfolding call_head
  head_after = rw same

same_answers : (calls : List Call) (m : List Record) → fits m ≡ true → library_answers calls (table_of m) ≡ map_answers calls m
unfolding library_answers map_answers
same_answers [] m f = refl
same_answers (c ∷ calls) m f =
    ap₂ (λ (a : Said × Head) (l : List (Said × Head)). a ∷ l)
    (ap₂ (λ (a : Said) (h : Head). (a, h)) (same_answer c m f) (head_after c m f))
    (rw (step c m f) (same_answers calls (set_after c m) (stepped c m f).fit))

held_table : (calls : List Call) (m : List Record) → fits m ≡ true
    → (held calls (table_of m) ≡ table_of (map_set calls m)) × (fits (map_set calls m) ≡ true)
unfolding held map_set
held_table [] m f = (refl, f)
held_table (c ∷ calls) m f = rw (step c m f) (held_table calls (set_after c m) (stepped c m f).fit)

pub answers_as_the_map : AnswersAsTheMap
answers_as_the_map start rs r calls =
    let a = reads_nothing_else start rs r in
    rw a.1 (same_answers calls rs a.0, (held_table calls rs a.0).0)

pub holds_its_register : HoldsItsRegister
holds_its_register start rs r calls =
    let a = reads_nothing_else start rs r in
    let h = held_table calls rs a.0 in
    rw (a.1, h.0) (register_of (map_set calls rs) h.1)

pub same_set_same_bytes : SameSetSameBytes
same_set_same_bytes s u rs qs r q calls others e =
    (answers_as_the_map s rs r calls).1 ∙ ap table_of e ∙ sym (answers_as_the_map u qs q others).1

-- ---- a head that goes along
module _ (q : Request) (m : List Record) (f : fits m ≡ true) where
  abbrev lent : Call
  lent = record { head = head_of m; request = q }

  never : said (call_answer lent (table_of m)) ≡ refused_with 17 → ⊥
  unfolding map_outcome
  never e = never_untrue q m (sym (same_answer lent m f) ∙ e)

  next_head : call_head lent (table_of m) ≡ head_of (set_after lent m)
  next_head = head_after lent m f ∙ (stepped lent m f).head refl

true_along : (requests : List Request) (m : List Record) → fits m ≡ true → TrueAlong requests (head_of m) (table_of m)
true_along [] m f = record { set = m; register = register_of m f; same = refl }
true_along (q ∷ requests) m f =
    let c : Call = record { head = head_of m; request = q } in (
      record { set = m; register = register_of m f; same = refl },
      never q m f,
      rw (next_head q m f, step c m f) (true_along requests (set_after c m) (stepped c m f).fit),
    )

check_head : (s : List ℕ) (rs : List Record) → RegisterOf s rs → (check_outcome s).head ≡ head_of rs
unfolding check_outcome check_verdict
check_head s rs r = rw (r.judged, r.spells)

pub head_goes_along : HeadGoesAlong
head_goes_along start rs r requests =
    let a = reads_nothing_else start rs r in
    rw (check_head start.list rs r, a.1) (true_along requests rs a.0)

-- ---- puts into the empty register
-- the front of a set that fits fits
front_fits : (m more : List Record) → fits (m ++ more) ≡ true → fits m ≡ true
front_fits m more f =
    let part : Sublistᴰ m (m ++ more) = rw (append-nil m) at (ListSublistᴰ.append (ListSublistᴰ.refl m) (ListSublistᴰ.nil-sublist more)) in
    let p = proper_part part (fits_proper (m ++ more) f) in
    let g = fitting (m ++ more) f in
    fitting_fits m
    (record {
      count = omega (arith, g.count, length-append m more);
      order = sorted_rising m p.order;
      keys = p.keys;
      values = p.values;
      size = omega (arith, g.size, table_grows m more);
    })

-- a record whose key is greater than all keys goes to the end
put_last : (r : Record) (m : List Record) → Sorted (m ++ (r ∷ [])) → put r m ≡ m ++ (r ∷ [])
unfolding put
put_last r [] s = insert_nil (λ old new. new) r
put_last r (x ∷ m) s =
    let above = all_split (λ y. Before x.key y.key) m (r ∷ []) s.0 in
    insert_later (λ old new. new) r x m above.1.0 ∙ ap (λ (l : List Record). x ∷ l) (put_last r m s.1)

-- a put with so long an output and a true head is done where the set that results fits
abbrev put_longest : Record → Request
put_longest r = put_of r.key r.val longest

put_done : (r : Record) (m : List Record) → fits m ≡ true → fits (m ++ (r ∷ [])) ≡ true
    → outcome_of (put_longest r) (table_of m) (head_of m) ≡ moved (table_of (m ++ (r ∷ []))) (head_of (m ++ (r ∷ [])))
unfolding plan_of room_of put_plan settle_moved sizes
put_done r m f g =
    let rs : List Record = m ++ (r ∷ []) in
    let e = put_last r m (fits_sorted rs g) in
    let q = fitting rs g in
    let key = (all_split LawfulKey m (r ∷ []) q.keys).1.0 in
    let val = (all_split RightValue m (r ∷ []) q.values).1.0 in
    let size = le-leb (length (table_of rs)) longest q.size in
    let holds = none_due ((UnlawfulKey, lawful r.key) ∷ (WrongValue, is_value r.val) ∷ sizes rs longest)
    (key, (val, (le-leb (length rs) most q.count, (and_both size size, tt)))) in
    same_request (put_longest r) (head_of m) (table_of m) m (register_of m f) ∙ true_passes (put_plan r.key r.val) m longest ∙ rw (e, holds)

-- after a call that wrote a table
module _ (c : Call) (s t : List ℕ) (g : Head) (e : outcome_of c.request s c.head ≡ moved t g) where
  moved_answers : call_answer c s ≡ Ok (length t)
  unfolding call_answer moved_answer
  moved_answers = rw e

  moved_held : held_after c s ≡ t
  unfolding held_by_lem
  moved_held = next_held_lem c s ∙ rw e

  moved_on : call_head c s ≡ g
  unfolding call_head moved_head
  moved_on = rw e

-- so puts in key order lengthen the front of the set by one record each
puts_lengthen : (rs m : List Record) → fits (m ++ rs) ≡ true
    → AllDone (library_answers (carrying (puts_of rs) (head_of m) (table_of m)) (table_of m))
    × (held (carrying (puts_of rs) (head_of m) (table_of m)) (table_of m) ≡ table_of (m ++ rs))
unfolding library_answers held puts_of carrying
puts_lengthen [] m f = (tt, ap table_of (sym (append-nil m)))
puts_lengthen (r ∷ rs) m f =
    let more : List Record = m ++ (r ∷ []) in
    let whole : more ++ rs ≡ m ++ (r ∷ rs) = append_assoc m (r ∷ []) rs in
    let g : fits (more ++ rs) ≡ true = rw whole f in
    let done = put_done r m (front_fits m (r ∷ rs) f) (front_fits more rs g) in
    let later = puts_lengthen rs more g in
    let c : Call = record { head = head_of m; request = put_longest r } in
    let answered = moved_answers c (table_of m) (table_of more) (head_of more) done in
    let holds = moved_held c (table_of m) (table_of more) (head_of more) done in
    let goesOn = moved_on c (table_of m) (table_of more) (head_of more) done in
    (rw (holds, goesOn, answered) later.0, ap₂ (λ (h : Head) (s : List ℕ). held (carrying (puts_of rs) h s) s) goesOn holds ∙ later.1 ∙ ap table_of whole)

empty_table : empty_register ≡ table_of []
unfolding table_of tree_of_set tree_of top_layer build part page_of entries_of spelt table bytes_of_page raw_page raw_entries link_of page_bytes number_bytes gap_bytes
empty_table = refl

pub puts_reach_every_set : PutsReachEverySet
puts_reach_every_set rs f =
    let p = puts_lengthen rs [] f in
    let e = check_head (table_of []) [] (register_of [] (front_fits [] rs f)) in
    rw (empty_table, e) (p.0, p.1, rw p.1 (register_of rs f))

-- ---- merge
-- the registers that a merge which is not refused has read, and the head that it was lent
first_table : (a : ByteString) (h : Head) (u : List ℕ) (room : ℕ) (w : List ℕ) (g : Head) → merge_outcome a.list h u room ≡ moved w g
    → (m : List Record) × TableOf a.list m × (h ≡ head_of m)
unfolding merge_outcome
first_table a h u room w g e =
    let f = first_accepted_lem (judge a.list) h (merge_plan (judge u)) room w g e in
    (records f.0, accepted_is_table a f.0 f.1, (carried h (merge_plan (judge u)) (records f.0) room w g f.2).true)

second_table : (s : List ℕ) (h : Head) (b : ByteString) (room : ℕ) (w : List ℕ) (g : Head) → merge_outcome s h b.list room ≡ moved w g
    → (m : List Record) × TableOf b.list m
unfolding merge_outcome
second_table s h b room w g e =
    let f = first_accepted_lem (judge s) h (merge_plan (judge b.list)) room w g e in
    let k = second_accepted_lem (judge b.list) h (records f.0) room w g f.2 in
    (records k.0, accepted_is_table b k.0 k.1)

-- what it wrote is the table of the merged set, and the head is that set's
record Merged (w : List ℕ) (g : Head) (m n : List Record) : Type 0 where
  pub table : TableOf w (merge m n)
  pub head : g ≡ head_of (merge m n)

register_is : (s : List ℕ) (m : List Record) → TableOf s m → RegisterOf s m
register_is s m p = rw p.0 (register_of m p.1)

merged_by : (u : SpeltTree) (h : Head) (m n : List Record) → fits m ≡ true → fits n ≡ true → records u ≡ n → (room : ℕ) (w : List ℕ) (g : Head)
    → carry_out h (merge_plan (accepted u)) m room ≡ moved w g → Merged w g m n
unfolding merge_plan
merged_by u h m n f k spells room w g e =
    let c = carried h (merge_plan (accepted u)) m room w g e in
    record {
      table = (c.written ∙ rw spells, merged_fits m n f k room (rw spells at c.measured));
      head = c.head ∙ rw spells;
    }

merged : (s u : List ℕ) (m n : List Record) → TableOf s m → TableOf u n → (h : Head) (room : ℕ) (w : List ℕ) (g : Head)
    → merge_outcome s h u room ≡ moved w g → Merged w g m n
unfolding merge_outcome
merged s u m n p q h room w g e =
    let r = register_is u n q in
    let k = sym (on_register s m (register_is s m p) h (merge_plan (judge u)) room) ∙ e in
    merged_by r.tree h m n p.1 q.1 r.spells room w g (rw r.judged at k)

pub merge_commutes : MergeCommutes
merge_commutes a b f g i j ab ba h k e₁ e₂ =
    let (m, p, _) = first_table a f b.list i ab h e₁ in
    let (n, q) = second_table a.list f b i ab h e₁ in
    let x = merged a.list b.list m n p q f i ab h e₁ in
    let y = merged b.list a.list n m q p g j ba k e₂ in
    let sets = sets_commute m n (fits_sorted m p.1) (fits_sorted n q.1) in
    (x.table.0 ∙ ap table_of sets ∙ sym y.table.0, x.head ∙ ap head_of sets ∙ sym y.head)

pub merge_associates : MergeAssociates
merge_associates a b c f g i j k l ab bc abThenC aThenBc h h' h'' h''' e₁ e₂ e₃ e₄ =
    let (x, p, _) = first_table a f b.list i ab h e₁ in
    let (y, q) = second_table a.list f b i ab h e₁ in
    let (z, r) = second_table ab h c j abThenC h' e₂ in
    let xy = merged a.list b.list x y p q f i ab h e₁ in
    let yz = merged b.list c.list y z q r g k bc h'' e₃ in
    let left = merged ab c.list (merge x y) z xy.table r h j abThenC h' e₂ in
    let right = merged a.list bc x (merge y z) p yz.table f l aThenBc h''' e₄ in
    let sets = sets_associate x y z (fits_sorted x p.1) (fits_sorted y q.1) (fits_sorted z r.1) in
    (left.table.0 ∙ ap table_of sets ∙ sym right.table.0, left.head ∙ ap head_of sets ∙ sym right.head)

pub merge_idempotent : MergeIdempotent
merge_idempotent a f n aa h e =
    let (m, p, own) = first_table a f a.list n aa h e in
    let w = merged a.list a.list m m p p f n aa h e in
    let sets = set_idempotent m (fits_sorted m p.1) in
    (w.table.0 ∙ ap table_of sets ∙ sym p.0, w.head ∙ ap head_of sets ∙ sym own)

-- ---- two values as one number
-- the length of a table that was written is below 2^24
pub settled_short : (o : Option Refusal) (rs : List Record) (count : ℕ) → (o ≡ none → length (table_of rs) ≤ longest)
    → FirstFits (counted_answer (settle_counted o rs count))
unfolding settle_counted counted_answer
settled_short none rs count f = omega (arith, f refl)
settled_short (some r) rs count f = tt

verdicts_short : (v w : Verdict) (room : ℕ) → FirstFits (counted_answer (difference_verdicts v w room))
unfolding difference_verdicts counted_answer
verdicts_short (refused r) w room = tt
verdicts_short (accepted t) (refused r) room = tt
verdicts_short (accepted t) (accepted u) room =
    let rs : List Record = difference_records t u in
    settled_short (due (sizes rs room)) rs (length (opened_pages (pages_of t) u)) (λ e. (sized rs room (due_none (sizes rs room) e)).size)

pub difference_short : (s u : List ℕ) (room : ℕ) → FirstFits (counted_answer (difference_outcome s u room))
unfolding difference_outcome
difference_short s u room = verdicts_short (judge s) (judge u) room

pub lookup_comes_apart : LookupComesApart
lookup_comes_apart s k = two_come_apart (lookup_answer s.list k.list) (lookup_short s.list k.list s.small)

pub difference_comes_apart : DifferenceComesApart
difference_comes_apart s u room = two_come_apart (counted_answer (difference_outcome s.list u.list room)) (difference_short s.list u.list room)

-- ---- values
pub greater_digest_kept : GreaterDigestKept
greater_digest_kept v w h = lesser_gives v w (lesser_digest v w h)

pub greater_codec_kept : GreaterCodecKept
greater_codec_kept v w h k e l = lesser_gives v w (codec_first v w h k e l)

pub codecs_told : CodecsTold
unfolding only_in_second
codecs_told v w e f = equal-cases v w (λ q same. absurd (f (ap (λ (x : List ℕ). value_codec x) same))) (λ q n. rw q)
