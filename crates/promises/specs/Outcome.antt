-- What each call answers and writes, from its arguments and the length of its output.
use Rattle.std.specs.Prelude.{ℕ, ◌-◌, cond, ◌&&◌, List, [], ◌∷◌, ◌++◌, length, leb, Result, Ok, Err}
use Rattle.std.proofs.Math.Option.{Option, none, some}
use Rattle.limits.specs.Limits.{longest, most}
use Rattle.bytestring.specs.Bytes.{zeros}
use Rattle.answer.specs.declared.Refusal.{Refusal}
use Rattle.answer.specs.declared.Refusal.TheVariants.{TooManyRecords, UnlawfulKey, KeyAbsent, NoRoom}
use Rattle.key.specs.Key.{lawful, less}
use Rattle.value.specs.Value.{value_length, codec_in}
use Rattle.tree.specs.Record.{Record, records}
use Rattle.tree.specs.Table.{table_of}
use Rattle.tree.specs.Judge.{Test, Verdict, refused, accepted, judge}
use Rattle.tree.specs.Place.{places}
use Rattle.head.specs.declared.Headed.{Headed}
use Rattle.head.specs.Head.{head_of, zero_head}
use Rattle.promises.specs.Map.{nth}

-- ---- check
-- The answer is 0, with the head of the register's set beside it; where a number is due, that number and the head of zeros.
unfoldable pub check_verdict : Verdict → Headed
check_verdict (refused r) = record { answer = Err r; head = zero_head }
check_verdict (accepted t) = record { answer = Ok 0; head = head_of (records t) }

unfoldable pub check_outcome : List ℕ → Headed
check_outcome s = check_verdict (judge s)

-- ---- lookup
-- The place of the digest of the value under a key, given the places of all of them.
unfoldable pub place_of : List ℕ → List Record → List ℕ → Option ℕ
place_of k [] ps = none
place_of k (x ∷ m) [] = none
place_of k (x ∷ m) (p ∷ ps) =
    let later : Option ℕ = place_of k m ps in
    cond (less k x.key) none (cond (less x.key k) later (some p))

-- The place is answered, and the value's codec beside it.
unfoldable pub answer_place : List ℕ → Option ℕ → Result (ℕ × ℕ) Refusal
answer_place s none = Err KeyAbsent
answer_place s (some p) = Ok (p, codec_in s p)

-- The key is judged after the register, and absence last.
unfoldable pub lookup_verdict : Verdict → List ℕ → List ℕ → Result (ℕ × ℕ) Refusal
lookup_verdict (refused r) s k = Err r
lookup_verdict (accepted t) s k = cond (lawful k) (answer_place s (place_of k (records t) (places 0 t))) (Err UnlawfulKey)

unfoldable pub lookup_answer : List ℕ → List ℕ → Result (ℕ × ℕ) Refusal
lookup_answer s k = lookup_verdict (judge s) s k

-- ---- list
pub data Listed : Type 0 where
  unlisted : Refusal → Listed
  past_the_end : Listed
  listed : Record → Listed

-- Number 13 where the key is longer than the output.
unfoldable pub list_record : Option Record → ℕ → Listed
list_record none room = past_the_end
list_record (some r) room = cond (leb (length r.key) room) (listed r) (unlisted NoRoom)

unfoldable pub list_verdict : Verdict → ℕ → ℕ → Listed
list_verdict (refused r) n room = unlisted r
list_verdict (accepted t) n room = list_record (nth n (records t)) room

unfoldable pub list_outcome : List ℕ → ℕ → ℕ → Listed
list_outcome s n room = list_verdict (judge s) n room

-- The key's length is answered, 0 past the end; the key goes to the output with zeros after it; the value is answered beside it.
unfoldable pub list_answer : Listed → Result ℕ Refusal
list_answer (unlisted r) = Err r
list_answer past_the_end = Ok 0
list_answer (listed r) = Ok (length r.key)

unfoldable pub list_key : Listed → ℕ → List ℕ
list_key (unlisted r) room = zeros room
list_key past_the_end room = zeros room
list_key (listed r) room = r.key ++ zeros (room - length r.key)

unfoldable pub list_value : Listed → List ℕ
list_value (unlisted r) = zeros value_length
list_value past_the_end = zeros value_length
list_value (listed r) = r.val

-- ---- calls that write a table and nothing else
-- Such a call is refused, or writes a table.
pub data Outcome : Type 0 where
  stopped : Refusal → Outcome
  wrote : List ℕ → Outcome

-- The output is measured by the table that is to be written.
abbrev pub room_test : List Record → ℕ → Test
room_test rs room = (NoRoom, leb (length (table_of rs)) room && leb (length (table_of rs)) longest)

-- Last come the resulting count and the output.
unfoldable pub sizes : List Record → ℕ → List Test
sizes rs room = (TooManyRecords, leb (length rs) most) ∷ room_test rs room ∷ []

unfoldable pub settle : Option Refusal → List Record → Outcome
settle none rs = wrote (table_of rs)
settle (some r) rs = stopped r

-- A writing call answers its table's length; a refusal answers its number alone.
unfoldable pub answer_of : Outcome → Result ℕ Refusal
answer_of (stopped r) = Err r
answer_of (wrote t) = Ok (length t)

-- After the table the output is zero; on refusal it is wholly zero.
unfoldable pub output_of : Outcome → ℕ → List ℕ
output_of (stopped r) room = zeros room
output_of (wrote t) room = t ++ zeros (room - length t)
