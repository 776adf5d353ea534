-- The plain map of demand 3, and the library's calls on the register that is held, over lists of calls.
use Rattle.answer.specs.declared.Refusal.{Refusal}
use Rattle.std.specs.Prelude.{ℕ, List, [], ◌∷◌, take, Result, Ok, Err}
use Rattle.limits.specs.Limits.{longest}
use Rattle.bytestring.specs.Bytes.{ByteString}
use Rattle.answer.specs.Answer.{Said, said}
use Rattle.tree.specs.Record.{Record}
use Rattle.tree.specs.Judge.{judge}
use Rattle.head.specs.declared.Head.{Head}
use Rattle.promises.specs.Moved.{Moved, stopped, moved, Plan, carry_out, put_plan, join_plan, remove_plan, merge_plan, put_outcome, join_outcome, remove_outcome, merge_outcome, moved_answer, moved_output, moved_head}

-- What a call asks for: its kind, its arguments (for merge, the second register's bytes) and its output's length.
pub data Request : Type 0 where
  put_of : List ℕ → List ℕ → ℕ → Request
  remove_of : List ℕ → ℕ → Request
  join_of : List ℕ → List ℕ → ℕ → Request
  merge_of : ByteString → ℕ → Request

-- A call has one argument more, the head that it is lent, true or not.
pub record Call : Type 0 where
  pub head : Head
  pub request : Request

-- ---- the map
-- What a call asks and what set it results in, with the map's set as the first register's.
unfoldable pub plan_of : Request → List Record → Plan
plan_of (put_of k v room) m = put_plan k v m
plan_of (remove_of k room) m = remove_plan k m
plan_of (join_of k v room) m = join_plan k v m
plan_of (merge_of s room) m = merge_plan (judge s.list) m

unfoldable pub room_of : Request → ℕ
room_of (put_of k v room) = room
room_of (remove_of k room) = room
room_of (join_of k v room) = room
room_of (merge_of s room) = room

-- The map judges the head against its own set. If a number is due, it answers the first one, gives the head back and keeps its set; otherwise
-- it takes the new set and answers the length of its table and its head.
unfoldable pub map_outcome : Call → List Record → Moved
map_outcome c m = carry_out c.head (plan_of c.request) m (room_of c.request)

unfoldable pub next_set : Moved → List Record → List Record → List Record
next_set (stopped r) old new = old
next_set (moved t h) old new = new

abbrev pub set_after : Call → List Record → List Record
set_after c m = next_set (map_outcome c m) m (plan_of c.request m).result

-- Each call's answer, and the head after it.
unfoldable pub map_answers : List Call → List Record → List (Said × Head)
map_answers [] m = []
map_answers (c ∷ cs) m = (said (moved_answer (map_outcome c m)), moved_head (map_outcome c m) c.head) ∷ map_answers cs (set_after c m)

unfoldable pub map_set : List Call → List Record → List Record
map_set [] m = m
map_set (c ∷ cs) m = map_set cs (set_after c m)

-- ---- the library
-- Each call is lent the register held, merge as its first.
unfoldable pub outcome_of : Request → List ℕ → Head → Moved
outcome_of (put_of k v room) s h = put_outcome s h k v room
outcome_of (remove_of k room) s h = remove_outcome s h k room
outcome_of (join_of k v room) s h = join_outcome s h k v room
outcome_of (merge_of u room) s h = merge_outcome s h u.list room

unfoldable pub call_answer : Call → List ℕ → Result ℕ Refusal
call_answer c s = moved_answer (outcome_of c.request s c.head)

unfoldable pub call_output : Call → List ℕ → List ℕ
call_output c s = moved_output (outcome_of c.request s c.head) (room_of c.request)

unfoldable pub call_head : Call → List ℕ → Head
call_head c s = moved_head (outcome_of c.request s c.head) c.head

-- After a call that is not refused the table it wrote, as long as its answer says, is held; after a refused one the register lent stays held.
unfoldable pub next_held : Result ℕ Refusal → List ℕ → List ℕ → List ℕ
next_held (Ok n) output s = take n output
next_held (Err r) output s = s

abbrev pub held_after : Call → List ℕ → List ℕ
held_after c s = next_held (call_answer c s) (call_output c s) s

unfoldable pub library_answers : List Call → List ℕ → List (Said × Head)
library_answers [] s = []
library_answers (c ∷ cs) s = (said (call_answer c s), call_head c s) ∷ library_answers cs (held_after c s)

unfoldable pub held : List Call → List ℕ → List ℕ
held [] s = s
held (c ∷ cs) s = held cs (held_after c s)

-- ---- a head that goes along
-- The first call is lent this head, and each one after it the head that the call before left.
unfoldable pub carrying : List Request → Head → List ℕ → List Call
carrying [] h s = []
carrying (q ∷ qs) h s =
    let c : Call = record { head = h; request = q } in
    c ∷ carrying qs (call_head c s) (held_after c s)

-- ---- puts into the empty register
abbrev pub empty_register : List ℕ
empty_register = 0xA2 ∷ 0x61 ∷ 0x65 ∷ 0x80 ∷ 0x61 ∷ 0x6C ∷ 0xF6 ∷ []

-- The puts of these records, one after the other, each with an output of 4,194,304 bytes.
unfoldable pub puts_of : List Record → List Request
puts_of [] = []
puts_of (r ∷ rs) = put_of r.key r.val longest ∷ puts_of rs
