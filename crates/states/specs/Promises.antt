-- What is promised of named states. Each promise is a statement; its proof has the same name in proofs/Promises.antt.
use Rattle.std.specs.Prelude.{ℕ, ◌≤◌, ◌≡◌, true, List, [], ◌∷◌, ◌++◌, map, length}
use Rattle.std.proofs.Math.Option.{none, some}
use Rattle.answer.specs.Answer.{encoded_of_two, said_of_two, taken_apart_in_two}
use Rattle.answer.specs.declared.Refusal.{Refusal}
use Rattle.answer.specs.declared.Refusal.TheVariants.{KeyAbsent, WrongStates}
use Rattle.bytestring.specs.Bytes.{Bytes, ByteString}
use Rattle.limits.specs.Limits.{longest, most}
use Rattle.key.specs.Key.{collection, lawful}
use Rattle.tree.specs.Record.{Record}
use Rattle.tree.specs.Judge.{Test, due, rising, judge}
use Rattle.promises.specs.Map.{find}
use Rattle.promises.specs.Outcome.{stopped, wrote}
use Rattle.promises.specs.Promises.{Among, DigestsApart}
use Rattle.states.specs.Pages.{pages_in, by_digest}
use Rattle.states.specs.States.{state_collection, state_key, state_register, state_pages, page_sequence, Buffers, buffers_of, is_accepted, accepted_states, judge_states, Saved, unsaved, saved, buffer_sizes, save_outcome, forget_outcome, saved_answer, restore_tests, restore_outcome, StateCall, save_call, forget_call, plan_of_call, states_room, pages_room, saved_on_map, next_map, answers_on_map, map_after, saved_on_buffers, answers_on_buffers, buffers_after}
use Rattle.states.specs.Order.{save_reply, forget_reply, restore_reply, SaveOrder, ForgetOrder, RestoreOrder}

-- A state has a lawful key of the collection `state`, and an accepted register.
pub record StateOf (r : Record) : Type 0 where
  pub key : lawful r.key ≡ true
  pub ours : collection r.key ≡ state_collection
  pub bytes : Bytes r.val
  pub register : is_accepted (judge r.val) ≡ true

abbrev pub AllStates : List Record → Type 0
AllStates [] = Unit {0}
AllStates (r ∷ m) = StateOf r × AllStates m

-- A map of states fits with at most 4,096 states, no two of them under one name, no two unequal pages under one digest, and two buffers of at
-- most 4,194,304 bytes each. It is written as the list of its states in key order.
pub record StatesFit (m : List Record) : Type 0 where
  pub count : length m ≤ most
  pub order : rising m ≡ true
  pub each : AllStates m
  pub unshared : DigestsApart (state_pages m)
  pub register : length (state_register m) ≤ longest
  pub pages : length (page_sequence m) ≤ longest

-- Two buffers as they are lent.
pub record LentStates : Type 0 where
  pub states : ByteString
  pub pages : ByteString

abbrev pub buffers : LentStates → Buffers
buffers b = record { states = b.states.list; pages = b.pages.list }

abbrev pub Holds : LentStates → List Record → Type 0
Holds b m = judge_states (buffers b) ≡ accepted_states m

-- The buffers of a map of states that fits hold that map, and buffers that hold a map are its buffers: what numbers 1 to 10 and 18 let pass is
-- this and nothing else.
abbrev pub ReadsItsStates : Type 0
ReadsItsStates = (m : List Record) → StatesFit m → judge_states (buffers_of m) ≡ accepted_states m

abbrev pub ReadsNoOtherStates : Type 0
ReadsNoOtherStates = (b : LentStates) (m : List Record) → Holds b m → StatesFit m × (buffers b ≡ buffers_of m)

-- The calls are refused in the order of checks: when each number is given, and what is answered and written otherwise.
abbrev pub SaveReplies : Type 0
SaveReplies =
    (b : LentStates) (s name : ByteString) (states pages : ℕ)
    → SaveOrder (buffers b) s.list name.list states pages (save_reply (buffers b) s.list name.list states pages)

abbrev pub ForgetReplies : Type 0
ForgetReplies =
    (b : LentStates) (name : ByteString) (states pages : ℕ)
    → ForgetOrder (buffers b) name.list states pages (forget_reply (buffers b) name.list states pages)

abbrev pub RestoreReplies : Type 0
RestoreReplies =
    (b : LentStates) (name : ByteString) (room : ℕ) → RestoreOrder (buffers b) name.list room (restore_reply (buffers b) name.list room)

-- The answer of save and forget as one number comes apart into its two lengths, or the number of its refusal.
abbrev pub SavedComesApart : Type 0
SavedComesApart =
    (b : LentStates) (c : StateCall)
    → taken_apart_in_two (encoded_of_two (saved_answer (saved_on_buffers c (buffers b))))
    ≡ said_of_two (saved_answer (saved_on_buffers c (buffers b)))

-- No states: the empty register and no bytes. A storekeeper starts with these.
abbrev pub NoStates : Type 0
NoStates = StatesFit [] × (buffers_of [] ≡ record { states = 0xA2 ∷ 0x61 ∷ 0x65 ∷ 0x80 ∷ 0x61 ∷ 0x6C ∷ 0xF6 ∷ []; pages = [] })

-- A call answers the first number that is due on the map and its arguments, and where none is due it writes the buffers of the new map: a
-- number is returned in no other case.
abbrev pub tests_of : StateCall → List Record → List Test
tests_of c m = (plan_of_call c m).asks ++ buffer_sizes (plan_of_call c m).result (states_room c) (pages_room c)

abbrev pub StatesRefusedWhenDue : Type 0
StatesRefusedWhenDue =
    (b : LentStates) (m : List Record) → Holds b m → (c : StateCall)
    → (due (tests_of c m) ≡ none → saved_on_buffers c (buffers b) ≡ saved (buffers_of (plan_of_call c m).result))
    × ((r : Refusal) → due (tests_of c m) ≡ some r → saved_on_buffers c (buffers b) ≡ unsaved r)

abbrev pub RestoreRefusedWhenDue : Type 0
RestoreRefusedWhenDue =
    (b : LentStates) (m : List Record) → Holds b m → (name : List ℕ) (room : ℕ)
    → (due (restore_tests name m room) ≡ none → (s : List ℕ) × (find (state_key name) m ≡ some s) × (restore_outcome (buffers b) name room ≡ wrote s))
    × ((r : Refusal) → due (restore_tests name m room) ≡ some r → restore_outcome (buffers b) name room ≡ stopped r)

-- For every list of saves and forgets from any buffers that hold a map: every call answers as on the map, and after the list the buffers held
-- are, byte for byte, those of the map, which fits. So they hold it, and depend on it alone.
abbrev pub AnswersAsTheStates : Type 0
AnswersAsTheStates =
    (b : LentStates) (m : List Record) → Holds b m → (calls : List StateCall)
    → (answers_on_buffers calls (buffers b) ≡ answers_on_map calls m)
    × (buffers_after calls (buffers b) ≡ buffers_of (map_after calls m))
    × StatesFit (map_after calls m)

abbrev pub SameStatesSameBytes : Type 0
SameStatesSameBytes =
    (b c : LentStates) (m n : List Record) → Holds b m → Holds c n → (calls others : List StateCall)
    → map_after calls m ≡ map_after others n → buffers_after calls (buffers b) ≡ buffers_after others (buffers c)

-- Calls of other names, refused or not.
abbrev pub name_of : StateCall → List ℕ
name_of (save_call s name states pages) = name.list
name_of (forget_call name states pages) = name.list

abbrev pub OtherNames : List ℕ → List StateCall → Type 0
OtherNames name [] = Unit {0}
OtherNames name (c ∷ cs) = (name_of c ≡ name → ⊥) × OtherNames name cs

-- Restore gives the bytes last saved under the name, after any saves and forgets before it and through any saves and forgets of other names,
-- with an output that is long enough. A save that would lay two unequal pages under one digest is refused, so no premise on digests is needed.
abbrev pub RestoreGivesWhatWasSaved : Type 0
RestoreGivesWhatWasSaved =
    (b : LentStates) (m : List Record) → Holds b m → (before later : List StateCall) (s name : ByteString) (states pages : ℕ) (c : Buffers)
    → save_outcome (buffers_after before (buffers b)) s.list name.list states pages ≡ saved c
    → OtherNames name.list later → (room : ℕ) → length s.list ≤ room
    → restore_outcome (buffers_after later c) name.list room ≡ wrote s.list

-- A name that was forgotten is unknown.
abbrev pub ForgottenIsUnknown : Type 0
ForgottenIsUnknown =
    (b : LentStates) (m : List Record) → Holds b m → (before later : List StateCall) (name : ByteString) (states pages : ℕ) (c : Buffers)
    → forget_outcome (buffers_after before (buffers b)) name.list states pages ≡ saved c
    → OtherNames name.list later → (room : ℕ)
    → restore_outcome (buffers_after later c) name.list room ≡ stopped KeyAbsent

-- Where no two unequal pages ever saved share a digest, those held at first and those of the save itself among them, no save is refused with
-- 18. A refused call has saved nothing.
abbrev pub saved_by : Saved → StateCall → List (List ℕ)
saved_by (unsaved r) c = []
saved_by (saved b) (save_call s name states pages) = pages_in s.list
saved_by (saved b) (forget_call name states pages) = []

abbrev pub pages_saved : List StateCall → List Record → List (List ℕ)
pages_saved [] m = []
pages_saved (c ∷ cs) m = saved_by (saved_on_map c m) c ++ pages_saved cs (next_map (saved_on_map c m) m (plan_of_call c m).result)

abbrev pub UnsharedIsNotRefused : Type 0
UnsharedIsNotRefused =
    (b : LentStates) (m : List Record) → Holds b m → (before : List StateCall) (s name : ByteString) (states pages : ℕ)
    → DigestsApart (state_pages m ++ (pages_saved before m ++ pages_in s.list))
    → save_outcome (buffers_after before (buffers b)) s.list name.list states pages ≡ unsaved WrongStates → ⊥

-- In the pages held after any list, a page stands where a state of the map reaches it, and nowhere else; and their digests rise.
pub record Reached (pages : List ℕ) (m : List Record) : Type 0 where
  pub kept : (p : List ℕ) → Among p (state_pages m) → Among p (pages_in pages)
  pub no_other : (p : List ℕ) → Among p (pages_in pages) → Among p (state_pages m)
  pub order : rising (map by_digest (pages_in pages)) ≡ true

abbrev pub UnreachedIsDropped : Type 0
UnreachedIsDropped =
    (b : LentStates) (m : List Record) → Holds b m → (calls : List StateCall) → Reached (buffers_after calls (buffers b)).pages (map_after calls m)
