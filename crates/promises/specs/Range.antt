-- Parts between two keys: one record beside a key, and the records from a first key to a last.
use Rattle.std.specs.Prelude.{ℕ, Bool, cond, not, ◌&&◌, List, [], ◌∷◌, length, leb}
use Rattle.std.proofs.Math.Option.{Option, none, some}
use Rattle.answer.specs.declared.Refusal.TheVariants.{UnlawfulKey, KeyAbsent, NoRoom, FirstAfterLast}
use Rattle.key.specs.Key.{lawful, less}
use Rattle.tree.specs.Record.{Record, records}
use Rattle.tree.specs.Judge.{Test, due, Verdict, refused, accepted, judge}
use Rattle.promises.specs.Map.{whose}
use Rattle.promises.specs.Outcome.{Listed, unlisted, listed, Outcome, stopped, room_test, settle}

-- Whether a record stands before a key.
abbrev pub is_before : List ℕ → Record → Bool
is_before k x = less x.key k

-- Whether a key lies between two others, or is one of them.
abbrev pub is_between : List ℕ → List ℕ → List ℕ → Bool
is_between first last k = not (less k first) && not (less last k)

-- The first record at or after a key.
unfoldable pub at_or_after : List ℕ → List Record → Option Record
at_or_after k [] = none
at_or_after k (x ∷ m) =
    let later : Option Record = at_or_after k m in
    cond (is_before k x) later (some x)

-- The last record before a key.
unfoldable pub or_else : Option Record → Record → Option Record
or_else none x = some x
or_else (some r) x = some r

unfoldable pub last_before : List ℕ → List Record → Option Record
last_before k [] = none
last_before k (x ∷ m) =
    let here : Option Record = or_else (last_before k m) x in
    cond (is_before k x) here none

-- The records from a first key up to and including a last.
abbrev pub records_between : List ℕ → List ℕ → List Record → List Record
records_between first last rs = whose (is_between first last) rs

-- ---- at_or_after and before
-- A single record comes as list gives one; where there is none, the answer is 12.
unfoldable pub one_record : Option Record → ℕ → Listed
one_record none room = unlisted KeyAbsent
one_record (some r) room = cond (leb (length r.key) room) (listed r) (unlisted NoRoom)

-- The key is judged after the register.
unfoldable pub beside_key : Verdict → List ℕ → (List Record → Option Record) → ℕ → Listed
beside_key (refused r) k choose room = unlisted r
beside_key (accepted t) k choose room = cond (lawful k) (one_record (choose (records t)) room) (unlisted UnlawfulKey)

unfoldable pub at_or_after_outcome : List ℕ → List ℕ → ℕ → Listed
at_or_after_outcome s k room = beside_key (judge s) k (at_or_after k) room

unfoldable pub before_outcome : List ℕ → List ℕ → ℕ → Listed
before_outcome s k room = beside_key (judge s) k (last_before k) room

-- ---- run
-- The first key, then the last, then their order; last the output. The count is no test: a run has no more records than its register.
unfoldable pub run_tests : List ℕ → List ℕ → List Record → ℕ → List Test
run_tests first last rs room =
    (UnlawfulKey, lawful first) ∷ (UnlawfulKey, lawful last) ∷ (FirstAfterLast, not (less last first)) ∷ room_test rs room ∷ []

unfoldable pub run_verdict : Verdict → List ℕ → List ℕ → ℕ → Outcome
run_verdict (refused r) first last room = stopped r
run_verdict (accepted t) first last room =
    let rs : List Record = records_between first last (records t) in
    settle (due (run_tests first last rs room)) rs

unfoldable pub run_outcome : List ℕ → List ℕ → List ℕ → ℕ → Outcome
run_outcome s first last room = run_verdict (judge s) first last room
