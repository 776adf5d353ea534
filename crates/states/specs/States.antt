-- Named states: the map of states, the two buffers that hold it, and what save, restore and forget answer and write.
use Rattle.std.specs.Prelude.{ℕ, ◌-◌, Bool, true, false, cond, ◌&&◌, List, [], ◌∷◌, ◌++◌, map, length, leb, eqb, Result, Ok, Err}
use Rattle.std.proofs.Math.Option.{Option, none, some}
use Rattle.answer.specs.declared.Refusal.{Refusal}
use Rattle.answer.specs.declared.Refusal.TheVariants.{TooLong, EndsEarly, Departs, TooManyRecords, UnlawfulKey, KeyAbsent, NoRoom, WrongStates}
use Rattle.bytestring.specs.Bytes.{ByteString, equal, zeros}
use Rattle.limits.specs.Limits.{longest, most, deepest}
use Rattle.value.specs.Value.{dag_cbor, value_codec, value_digest}
use Rattle.fips180.specs.Hash.{sha256}
use Rattle.key.specs.Key.{slash_byte, collection, lawful}
use Rattle.page.specs.Reading.{Read, read, ends_early, departs, concat}
use Rattle.page.specs.Page.{RawPage, page_bytes}
use Rattle.tree.specs.Record.{Record, records}
use Rattle.tree.specs.Table.{table_of}
use Rattle.tree.specs.Judge.{Test, due, rising, Verdict, refused, accepted, judge}
use Rattle.promises.specs.Map.{find, is_there, put, remove}
use Rattle.promises.specs.Outcome.{Outcome, stopped, wrote}
use Rattle.states.specs.Pages.{sequence, pages_in, by_digest, filed, all_apart, all_among, gather}

-- ---- the map of states
-- The record of a state has the key `state/` plus its name, and as its value the digest of its register's root, which is the first page,
-- under codec 71.
abbrev pub state_collection : List ℕ
state_collection = 0x73 ∷ 0x74 ∷ 0x61 ∷ 0x74 ∷ 0x65 ∷ []

abbrev pub state_key : List ℕ → List ℕ
state_key name = state_collection ++ (slash_byte ∷ name)

unfoldable pub first_digest : List (List ℕ) → List ℕ
first_digest [] = []
first_digest (p ∷ ps) = sha256 p

unfoldable pub state_value : List ℕ → List ℕ
state_value s = dag_cbor ∷ first_digest (pages_in s)

-- The states are a sorted map from the keys `state/` plus name to the bytes of registers. In the state register each record has, in place of
-- the bytes, the value of their state.
abbrev pub pointing : Record → Record
pointing r = record { key = r.key; val = state_value r.val }

unfoldable pub state_records : List Record → List Record
state_records m = map pointing m

unfoldable pub state_register : List Record → List ℕ
state_register m = table_of (state_records m)

-- The pages of all states, and the sequence of them: each distinct page once, in ascending order of digest.
unfoldable pub state_pages : List Record → List (List ℕ)
state_pages [] = []
state_pages (r ∷ m) = pages_in r.val ++ state_pages m

unfoldable pub page_sequence : List Record → List ℕ
page_sequence m = concat (λ (r : Record). r.val) (filed (state_pages m))

-- The two buffers, and those of a map of states.
pub record Buffers : Type 0 where
  pub states : List ℕ
  pub pages : List ℕ

abbrev pub buffers_of : List Record → Buffers
buffers_of m = record { states = state_register m; pages = page_sequence m }

-- ---- number 18
-- Each record of the state register is of the collection `state` and its value has codec 71.
unfoldable pub all_states : List Record → Bool
all_states [] = true
all_states (r ∷ rs) = (equal (collection r.key) state_collection && eqb (value_codec r.val) dag_cbor) && all_states rs

-- The states as the two buffers spell them: under each key the bytes gathered from its digest, none where a page is missing.
unfoldable pub bytes_or : Option (List ℕ) → List ℕ
bytes_or none = []
bytes_or (some s) = s

abbrev pub gathered : List Record → Record → Record
gathered pages r = record { key = r.key; val = bytes_or (gather deepest pages (value_digest r.val)) }

unfoldable pub gathered_states : List Record → List (List ℕ) → List Record
gathered_states rs ps = map (gathered (map by_digest ps)) rs

-- Each gathers into an accepted register. No bytes are none.
unfoldable pub is_accepted : Verdict → Bool
is_accepted (refused r) = false
is_accepted (accepted t) = true

unfoldable pub all_accepted : List Record → Bool
all_accepted [] = true
all_accepted (r ∷ m) = is_accepted (judge r.val) && all_accepted m

-- The tests of the state register's records and the pages. A page that no state reaches stands in no gathered register.
unfoldable pub state_tests : List Record → List (List ℕ) → List Test
state_tests rs ps =
    (WrongStates, all_states rs)
    ∷ (WrongStates, rising (map by_digest ps))
    ∷ (WrongStates, all_accepted (gathered_states rs ps))
    ∷ (WrongStates, all_among ps (state_pages (gathered_states rs ps)))
    ∷ []

-- ---- the buffers lent
-- They are refused with the first number that is due on them, or accepted with the map of states that they hold.
pub data StatesVerdict : Type 0 where
  refused_states : Refusal → StatesVerdict
  accepted_states : List Record → StatesVerdict

unfoldable pub settle_states : Option Refusal → List Record → StatesVerdict
settle_states none m = accepted_states m
settle_states (some r) m = refused_states r

unfoldable pub judge_sequence : List Record → Read (List RawPage) → StatesVerdict
judge_sequence rs ends_early = refused_states EndsEarly
judge_sequence rs departs = refused_states Departs
judge_sequence rs (read ps rest) = settle_states (due (state_tests rs (map page_bytes ps))) (gathered_states rs (map page_bytes ps))

-- The state register is judged first, then the pages by 1, 3 and 2, then 18.
unfoldable pub judge_with_pages : Verdict → List ℕ → StatesVerdict
judge_with_pages (refused r) p = refused_states r
judge_with_pages (accepted t) p = cond (leb (length p) longest) (judge_sequence (records t) (sequence p)) (refused_states TooLong)

unfoldable pub judge_states : Buffers → StatesVerdict
judge_states b = judge_with_pages (judge b.states) b.pages

-- ---- save and forget
-- Both are refused, or write both buffers anew.
pub data Saved : Type 0 where
  unsaved : Refusal → Saved
  saved : Buffers → Saved

-- What a call asks of the states: its own tests in their order, and the map that results.
pub record StatePlan : Type 0 where
  pub asks : List Test
  pub result : List Record

-- Last come the count of states and the outputs, of `states` and `pages` bytes.
abbrev pub has_room : List ℕ → ℕ → Bool
has_room t room = leb (length t) room && leb (length t) longest

unfoldable pub buffer_sizes : List Record → ℕ → ℕ → List Test
buffer_sizes m states pages =
    (TooManyRecords, leb (length m) most)
    ∷ (NoRoom, has_room (state_register m) states && has_room (page_sequence m) pages)
    ∷ []

unfoldable pub settle_saved : Option Refusal → List Record → Saved
settle_saved none m = saved (buffers_of m)
settle_saved (some r) m = unsaved r

unfoldable pub carry_out_plan : StatePlan → ℕ → ℕ → Saved
carry_out_plan p states pages = settle_saved (due (p.asks ++ buffer_sizes p.result states pages)) p.result

-- The register to be saved, then the name, then number 18 where two unequal pages of the result share a digest. A used name is replaced.
unfoldable pub save_plan : Verdict → List ℕ → List ℕ → List Record → StatePlan
save_plan (refused r) s name m = record { asks = (r, false) ∷ []; result = m }
save_plan (accepted t) s name m =
    let after : List Record = put (record { key = state_key name; val = s }) m in
    record {
      asks = (UnlawfulKey, lawful (state_key name)) ∷ (WrongStates, all_apart (state_pages after)) ∷ [];
      result = after;
    }

-- The name, then absence.
unfoldable pub forget_plan : List ℕ → List Record → StatePlan
forget_plan name m =
    record {
      asks = (UnlawfulKey, lawful (state_key name)) ∷ (KeyAbsent, is_there (find (state_key name) m)) ∷ [];
      result = remove (state_key name) m;
    }

unfoldable pub on_states : StatesVerdict → (List Record → StatePlan) → ℕ → ℕ → Saved
on_states (refused_states r) plan states pages = unsaved r
on_states (accepted_states m) plan states pages = carry_out_plan (plan m) states pages

unfoldable pub save_outcome : Buffers → List ℕ → List ℕ → ℕ → ℕ → Saved
save_outcome b s name states pages = on_states (judge_states b) (save_plan (judge s) s name) states pages

unfoldable pub forget_outcome : Buffers → List ℕ → ℕ → ℕ → Saved
forget_outcome b name states pages = on_states (judge_states b) (forget_plan name) states pages

-- The two lengths are answered; a refusal answers its number alone.
unfoldable pub saved_answer : Saved → Result (ℕ × ℕ) Refusal
saved_answer (unsaved r) = Err r
saved_answer (saved b) = Ok (length b.states, length b.pages)

-- After what is written the outputs are zero; on refusal both are wholly zero.
unfoldable pub states_output : Saved → ℕ → List ℕ
states_output (unsaved r) room = zeros room
states_output (saved b) room = b.states ++ zeros (room - length b.states)

unfoldable pub pages_output : Saved → ℕ → List ℕ
pages_output (unsaved r) room = zeros room
pages_output (saved b) room = b.pages ++ zeros (room - length b.pages)

-- ---- restore
-- The name, then absence, then the output.
unfoldable pub restore_tests : List ℕ → List Record → ℕ → List Test
restore_tests name m room =
    (UnlawfulKey, lawful (state_key name))
    ∷ (KeyAbsent, is_there (find (state_key name) m))
    ∷ (NoRoom, leb (length (bytes_or (find (state_key name) m))) room)
    ∷ []

unfoldable pub settle_restore : Option Refusal → List ℕ → Outcome
settle_restore none s = wrote s
settle_restore (some r) s = stopped r

unfoldable pub restore_from : StatesVerdict → List ℕ → ℕ → Outcome
restore_from (refused_states r) name room = stopped r
restore_from (accepted_states m) name room = settle_restore (due (restore_tests name m room)) (bytes_or (find (state_key name) m))

unfoldable pub restore_outcome : Buffers → List ℕ → ℕ → Outcome
restore_outcome b name room = restore_from (judge_states b) name room

-- ---- lists of calls
-- A call: the register and the name, or the name alone, and the lengths of the two outputs.
pub data StateCall : Type 0 where
  save_call : ByteString → ByteString → ℕ → ℕ → StateCall
  forget_call : ByteString → ℕ → ℕ → StateCall

-- On the map: what a call asks and results in, what it answers, and the map after it. A refused call leaves it.
unfoldable pub plan_of_call : StateCall → List Record → StatePlan
plan_of_call (save_call s name states pages) m = save_plan (judge s.list) s.list name.list m
plan_of_call (forget_call name states pages) m = forget_plan name.list m

unfoldable pub states_room : StateCall → ℕ
states_room (save_call s name states pages) = states
states_room (forget_call name states pages) = states

unfoldable pub pages_room : StateCall → ℕ
pages_room (save_call s name states pages) = pages
pages_room (forget_call name states pages) = pages

unfoldable pub saved_on_map : StateCall → List Record → Saved
saved_on_map c m = carry_out_plan (plan_of_call c m) (states_room c) (pages_room c)

unfoldable pub next_map : Saved → List Record → List Record → List Record
next_map (unsaved r) old new = old
next_map (saved b) old new = new

unfoldable pub answers_on_map : List StateCall → List Record → List (Result (ℕ × ℕ) Refusal)
answers_on_map [] m = []
answers_on_map (c ∷ cs) m = saved_answer (saved_on_map c m) ∷ answers_on_map cs (next_map (saved_on_map c m) m (plan_of_call c m).result)

unfoldable pub map_after : List StateCall → List Record → List Record
map_after [] m = m
map_after (c ∷ cs) m = map_after cs (next_map (saved_on_map c m) m (plan_of_call c m).result)

-- On the buffers: each call is lent those that the last call not refused wrote.
unfoldable pub saved_on_buffers : StateCall → Buffers → Saved
saved_on_buffers (save_call s name states pages) b = save_outcome b s.list name.list states pages
saved_on_buffers (forget_call name states pages) b = forget_outcome b name.list states pages

unfoldable pub next_buffers : Saved → Buffers → Buffers
next_buffers (unsaved r) b = b
next_buffers (saved c) b = c

unfoldable pub answers_on_buffers : List StateCall → Buffers → List (Result (ℕ × ℕ) Refusal)
answers_on_buffers [] b = []
answers_on_buffers (c ∷ cs) b = saved_answer (saved_on_buffers c b) ∷ answers_on_buffers cs (next_buffers (saved_on_buffers c b) b)

unfoldable pub buffers_after : List StateCall → Buffers → Buffers
buffers_after [] b = b
buffers_after (c ∷ cs) b = buffers_after cs (next_buffers (saved_on_buffers c b) b)
