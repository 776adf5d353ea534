-- What the writer of a whole table answers and writes.
use Rattle.answer.specs.declared.Refusal.{Refusal}
use Rattle.std.specs.Prelude.{ℕ, ◌-◌, Bool, cond, ◌&&◌, List, ◌++◌, length, leb, Result, Ok, Err}
use Rattle.limits.specs.Limits.{longest}
use Rattle.bytestring.specs.Bytes.{zeros}
use Rattle.answer.specs.declared.Refusal.TheVariants.{NoRoom}
use Rattle.tree.specs.Record.{Record}
use Rattle.tree.specs.Table.{table_of}
use Rattle.head.specs.declared.Head.{Head}
use Rattle.head.specs.declared.Headed.{Headed}
use Rattle.head.specs.Head.{head_of}

-- A table fits an output that is as long, and is no longer than any register.
unfoldable pub fits_output : List ℕ → ℕ → Bool
fits_output t room = leb (length t) room && leb (length t) longest

-- The table's length, or number 13.
unfoldable pub table_answer : List ℕ → ℕ → Result ℕ Refusal
table_answer t room = cond (fits_output t room) (Ok (length t)) (Err NoRoom)

-- The table and zeros after it, or zeros alone.
unfoldable pub table_output : List ℕ → ℕ → List ℕ
table_output t room = cond (fits_output t room) (t ++ zeros (room - length t)) (zeros room)

-- The same of a call that is lent a head: it goes on to that of the set whose table is written.
unfoldable pub table_headed : List Record → Head → ℕ → Headed
table_headed rs lent room =
    record { answer = table_answer (table_of rs) room; head = cond (fits_output (table_of rs) room) (head_of rs) lent }
