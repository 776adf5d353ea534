-- The tests of a call's arguments in their order, the table of a result, and what run answers and writes.
use Rattle.std.specs.Prelude.{Result, Ok, Err}
use Prim.Native.Nat.{ℕ, ◌≤◌, ◌<◌}
use mathlib.Core.Path.{◌≡◌, refl, sym, ◌∙◌}
use mathlib.Core.Bool.{Bool, true, false, ◌&&◌}
use mathlib.Core.Option.{Option, none, some}
use mathlib.Core.List.{List, [], ◌∷◌, ◌++◌}
use native.Mathlib.Omega.{arith}
use lib.ListN.{length, get_or}
use lib.Dec.{leb}
use borrow.Author.Tests.{le-leb, lt-leb, eq-eqb, ne_eqb}
use borrow.Table.Steps.{cases}
use Rattle.limits.specs.Limits.{longest, most}
use Rattle.bytestring.specs.Bytes.{zeros}
use Rattle.answer.specs.declared.Refusal.{Refusal}
use Rattle.answer.specs.declared.Refusal.TheVariants.{TooManyRecords, UnlawfulKey}
use Rattle.key.specs.Key.{lawful, slash_answer}
use Rattle.key.proofs.SlashLaws.{slash_refused}
use Rattle.value.specs.Value.{is_codec, is_value}
use Rattle.tree.specs.Record.{Record, records}
use Rattle.tree.specs.Table.{SpeltTree, table_of}
use Rattle.tree.specs.Judge.{Test, due, refused, accepted, judge}
use Rattle.writer.specs.Output.{fits_output, table_answer, table_output}
use Rattle.promises.specs.Outcome.{Outcome, stopped, room_test, sizes, settle, answer_of, output_of}
use Rattle.promises.specs.Range.{is_between, records_between, run_tests, run_verdict, run_outcome}
use Rattle.promises.proofs.Parts.{whose_few}
use Rattle.std.specs.Prelude.{⊤}
use Rattle.std.specs.Ordering.{is_lt}
use Rattle.std.specs.declared.cmp.Ordering.{Ordering}
use Rattle.std.specs.declared.cmp.Ordering.TheVariants.{Less, Equal, Greater}
use Rattle.key.specs.Key.{less, order}
use Rattle.key.proofs.Laws.{order_less, order_equal, order_greater, less_asymmetric, less_same}
use Rattle.writing.specs.Tests.{range_tests, record_tests, answer_due}
use Rattle.writing.specs.Writing.{written}

-- ---- answer and output
abbrev pub Says : Outcome → ℕ → Result ℕ Refusal → List ℕ → Type 0
Says o room answer out = (answer ≡ answer_of o) × (out ≡ output_of o room)

pub refuses : {o : Outcome} {r : Refusal} (room : ℕ) (answer : Result ℕ Refusal) (out : List ℕ) → o ≡ stopped r → (answer ≡ Err r) × (out ≡ zeros room)
    → Says o room answer out
unfolding answer_of output_of
refuses room answer out e says = (says.0 ∙ rw e, says.1 ∙ rw e)

pub says_same : {o p : Outcome} (room : ℕ) (answer : Result ℕ Refusal) (out : List ℕ) → o ≡ p → Says o room answer out → Says p room answer out
says_same room answer out e says = rw (← e) says

-- ---- the first test that fails decides
module _ (ts : List Test) where
  pub test_holds : (r : Refusal) {b : Bool} {x : Result ⊤ Refusal} → b ≡ true → x ≡ answer_due (due ts) → x ≡ answer_due (due ((r, b) ∷ ts))
  unfolding due
  test_holds r e h = rw e h

  pub test_fails : (r : Refusal) {b : Bool} → b ≡ false → Err r ≡ answer_due (due ((r, b) ∷ ts))
  unfolding due answer_due
  test_fails r e = rw e

  pub unlawful_fails : (k : List ℕ) {r : Refusal} → slash_answer k ≡ Err r → Err r ≡ answer_due (due ((UnlawfulKey, lawful k) ∷ ts))
  unfolding due answer_due
  unlawful_fails k q = let w = slash_refused k _ q in rw (w.0, w.1)

-- a comparison says whether the first is less
less_of : (k l : List ℕ) (o : Ordering) → o ≡ order k l → less k l ≡ is_lt o
less_of k l Less e = order_less k l (sym e)
less_of k l Equal e = less_same k l (order_equal k l (sym e))
less_of k l Greater e = less_asymmetric l k (order_greater k l (sym e))

pub order_lt : (k l : List ℕ) (o : Ordering) → o ≡ order k l → {b : Bool} → b ≡ is_lt o → less k l ≡ b
order_lt k l o e f = less_of k l o e ∙ sym f

pub none_due : Ok tt ≡ answer_due (due [])
unfolding due answer_due
none_due = refl

pub due_refused : (o : Option Refusal) {x : Result ⊤ Refusal} {r : Refusal} → x ≡ answer_due o → x ≡ Err r → o ≡ some r
unfolding answer_due
due_refused none e h = let z : ◌≡◌ {A = ℕ} 0 1 = cc in absurd (omega arith)
due_refused (some q) e h = cc

pub due_done : (o : Option Refusal) {x : Result ⊤ Refusal} {n : ⊤} → x ≡ answer_due o → x ≡ Ok n → o ≡ none
unfolding answer_due
due_done none e h = refl
due_done (some q) e h = let z : ◌≡◌ {A = ℕ} 0 1 = cc in absurd (omega arith)

-- what was tested holds where none is due
pub test_held : (t : Test) (ts : List Test) → due (t ∷ ts) ≡ none → (t.1 ≡ true) × (due ts ≡ none)
unfolding due
test_held t ts e =
    cases t.1 (λ h. (h, rw h at e))
    (λ h. let f : some t.0 ≡ none = rw h at e in let z : ◌≡◌ {A = ℕ} 0 1 = cc in absurd (omega arith))

-- a value argument
module _ (v : List ℕ) where
  pub value_short : (length v ≡ 33 → ⊥) → is_value v ≡ false
  unfolding is_value
  value_short h = rw (ne_eqb (length v) 33 h)

  module _ (n : length v ≡ 33) (c : ℕ) (e : c ≡ get_or v 0 0) where
    pub value_other : false ≡ is_codec c → is_value v ≡ false
    unfolding is_value
    value_other h = rw (← e, ← h, eq-eqb (length v) 33 n)

    pub value_right : true ≡ is_codec c → is_value v ≡ true
    unfolding is_value
    value_right h = rw (← e, ← h, eq-eqb (length v) 33 n)

pub tested_value : (k v : List ℕ) → due (record_tests k v) ≡ none → is_value v ≡ true
tested_value k v e = (test_held _ _ (test_held _ _ e).1).0

pub tested_key : (k v : List ℕ) → due (record_tests k v) ≡ none → lawful k ≡ true
tested_key k v e = (test_held _ _ e).0

-- tests that follow others
module _ (us : List Test) where
  pub due_first : (ts : List Test) {r : Refusal} → due ts ≡ some r → due (ts ++ us) ≡ some r
  unfolding due
  due_first [] e = let z : ◌≡◌ {A = ℕ} 0 1 = cc in absurd (omega arith)
  due_first (t ∷ ts) e = cases t.1 (λ h. rw h (due_first ts (rw h at e))) (λ h. rw h (rw h at e))

  pub due_after : (ts : List Test) → due ts ≡ none → due (ts ++ us) ≡ due us
  unfolding due
  due_after [] e = refl
  due_after (t ∷ ts) e = let w = test_held t ts e in rw w.0 (due_after ts w.1)

-- ---- the table of a result
module _ (rs : List Record) (room : ℕ) where
  pub written_many : most < length rs → written rs room ≡ stopped TooManyRecords
  unfolding written sizes due settle
  written_many h = rw (lt-leb (length rs) most h)

  module _ (few : length rs ≤ most) where
    pub few_sizes : due (sizes rs room) ≡ due (room_test rs room ∷ [])
    unfolding sizes due
    few_sizes = rw (le-leb (length rs) most few)

    pub written_says : Says (written rs room) room (table_answer (table_of rs) room) (table_output (table_of rs) room)
    unfolding written due settle table_answer table_output fits_output answer_of output_of
    written_says =
        let t : List ℕ = table_of rs in
        rw few_sizes (cases (leb (length t) room && leb (length t) longest) (λ e. rw e (refl, refl)) (λ e. rw e (refl, refl)))

-- ---- run
module _ (s first last : List ℕ) (room : ℕ) where
  pub run_refused : {r : Refusal} → judge s ≡ refused r → run_outcome s first last room ≡ stopped r
  unfolding run_outcome run_verdict
  run_refused e = rw e

  module _ (t : SpeltTree) (e : judge s ≡ accepted t) where
    abbrev between : List Record
    between = records_between first last (records t)

    pub run_stopped : {r : Refusal} → due (range_tests first last) ≡ some r → run_outcome s first last room ≡ stopped r
    unfolding run_outcome run_verdict run_tests settle
    run_stopped q = rw (e, due_first (room_test between room ∷ []) (range_tests first last) q)

    -- 5 is not due, since the register's records are few
    pub run_written : due (range_tests first last) ≡ none → length (records t) ≤ most → written between room ≡ run_outcome s first last room
    unfolding run_outcome run_verdict run_tests written
    run_written q few =
        let less : length between ≤ most = omega (arith, whose_few (is_between first last) (records t)) in
        rw (e, few_sizes between room less, due_after (room_test between room ∷ []) (range_tests first last) q)
