-- What a call answers and writes that counts something beside its table.
use Rattle.std.specs.Prelude.{ℕ, ◌-◌, List, ◌++◌, length, Result, Ok, Err}
use Rattle.std.proofs.Math.Option.{Option, none, some}
use Rattle.bytestring.specs.Bytes.{zeros}
use Rattle.answer.specs.declared.Refusal.{Refusal}
use Rattle.tree.specs.Record.{Record}
use Rattle.tree.specs.Table.{table_of}

-- The call is refused, or writes a table and has counted.
pub data CountedOutcome : Type 0 where
  stopped : Refusal → CountedOutcome
  counted : List ℕ → ℕ → CountedOutcome

unfoldable pub settle_counted : Option Refusal → List Record → ℕ → CountedOutcome
settle_counted none rs count = counted (table_of rs) count
settle_counted (some r) rs count = stopped r

-- The table's length and the count are answered; a refusal answers its number alone.
unfoldable pub counted_answer : CountedOutcome → Result (ℕ × ℕ) Refusal
counted_answer (stopped r) = Err r
counted_answer (counted t count) = Ok (length t, count)

-- After the table the output is zero; on refusal it is wholly zero.
unfoldable pub counted_output : CountedOutcome → ℕ → List ℕ
counted_output (stopped r) room = zeros room
counted_output (counted t count) room = t ++ zeros (room - length t)
