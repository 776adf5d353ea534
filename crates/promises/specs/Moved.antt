-- What the calls that are lent a head answer, write and make of the head: put, remove, join and merge.
use Rattle.std.specs.Prelude.{ℕ, ◌-◌, false, List, [], ◌∷◌, ◌++◌, length, Result, Ok, Err}
use Rattle.std.proofs.Math.Option.{Option, none, some}
use Rattle.bytestring.specs.Bytes.{zeros}
use Rattle.answer.specs.declared.Refusal.{Refusal}
use Rattle.answer.specs.declared.Refusal.TheVariants.{UnlawfulKey, WrongValue, KeyAbsent, UntrueHead}
use Rattle.key.specs.Key.{lawful}
use Rattle.value.specs.Value.{is_value}
use Rattle.tree.specs.Record.{Record, records}
use Rattle.tree.specs.Table.{table_of}
use Rattle.tree.specs.Judge.{Test, due, Verdict, refused, accepted, judge}
use Rattle.head.specs.declared.Head.{Head}
use Rattle.head.specs.declared.Headed.{Headed}
use Rattle.head.specs.Head.{head_of, same_head}
use Rattle.promises.specs.Map.{find, is_there, put, join, remove, merge}
use Rattle.promises.specs.Outcome.{sizes}

-- Such a call is refused, or writes the table of a set and moves the head to that set's.
pub data Moved : Type 0 where
  stopped : Refusal → Moved
  moved : List ℕ → Head → Moved

unfoldable pub settle_moved : Option Refusal → List Record → Moved
settle_moved none rs = moved (table_of rs) (head_of rs)
settle_moved (some r) rs = stopped r

-- What a call asks of the first register's set: its own tests in their order, and the set that results.
pub record Plan : Type 0 where
  pub asks : List Test
  pub result : List Record

-- The key argument, then the value.
unfoldable pub put_plan : List ℕ → List ℕ → List Record → Plan
put_plan k v m =
    record { asks = (UnlawfulKey, lawful k) ∷ (WrongValue, is_value v) ∷ []; result = put (record { key = k; val = v }) m }

unfoldable pub join_plan : List ℕ → List ℕ → List Record → Plan
join_plan k v m =
    record { asks = (UnlawfulKey, lawful k) ∷ (WrongValue, is_value v) ∷ []; result = join (record { key = k; val = v }) m }

-- The key argument, then absence.
unfoldable pub remove_plan : List ℕ → List Record → Plan
remove_plan k m =
    record { asks = (UnlawfulKey, lawful k) ∷ (KeyAbsent, is_there (find k m)) ∷ []; result = remove k m }

-- The second register's verdict: a number that is due on it refuses the call.
unfoldable pub merge_plan : Verdict → List Record → Plan
merge_plan (refused r) m = record { asks = (r, false) ∷ []; result = m }
merge_plan (accepted t) m = record { asks = []; result = merge m (records t) }

-- The head is judged against the first register's set before all that the call asks. Last come the resulting count and the output.
abbrev pub call_tests : Head → List Record → Plan → ℕ → List Test
call_tests h m p room = (UntrueHead, same_head h (head_of m)) ∷ (p.asks ++ sizes p.result room)

unfoldable pub carry_out : Head → (List Record → Plan) → List Record → ℕ → Moved
carry_out h plan m room = settle_moved (due (call_tests h m (plan m) room)) (plan m).result

-- The first register is judged through before its head.
unfoldable pub on_first : Verdict → Head → (List Record → Plan) → ℕ → Moved
on_first (refused r) h plan room = stopped r
on_first (accepted t) h plan room = carry_out h plan (records t) room

unfoldable pub put_outcome : List ℕ → Head → List ℕ → List ℕ → ℕ → Moved
put_outcome s h k v room = on_first (judge s) h (put_plan k v) room

unfoldable pub join_outcome : List ℕ → Head → List ℕ → List ℕ → ℕ → Moved
join_outcome s h k v room = on_first (judge s) h (join_plan k v) room

unfoldable pub remove_outcome : List ℕ → Head → List ℕ → ℕ → Moved
remove_outcome s h k room = on_first (judge s) h (remove_plan k) room

unfoldable pub merge_outcome : List ℕ → Head → List ℕ → ℕ → Moved
merge_outcome s h u room = on_first (judge s) h (merge_plan (judge u)) room

-- The table's length is answered; a refusal answers its number alone.
unfoldable pub moved_answer : Moved → Result ℕ Refusal
moved_answer (stopped r) = Err r
moved_answer (moved t h) = Ok (length t)

-- After the table the output is zero; on refusal it is wholly zero.
unfoldable pub moved_output : Moved → ℕ → List ℕ
moved_output (stopped r) room = zeros room
moved_output (moved t h) room = t ++ zeros (room - length t)

-- A refused call leaves the head as it was lent.
unfoldable pub moved_head : Moved → Head → Head
moved_head (stopped r) lent = lent
moved_head (moved t h) lent = h

-- The answer, and the head after the call.
abbrev pub headed : Moved → Head → Headed
headed o lent = record { answer = moved_answer o; head = moved_head o lent }
