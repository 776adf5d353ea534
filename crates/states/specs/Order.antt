-- The order of checks of save, forget and restore, and what their callers have after the call.
use Rattle.std.specs.Prelude.{ℕ, ◌<◌, ◌≡◌, true, false, cond, ◌⊎◌, List, [], ◌∷◌, map, length}
use Rattle.std.proofs.Math.Option.{Option, none, some}
use Rattle.limits.specs.Limits.{longest, most}
use Rattle.bytestring.specs.Bytes.{Bytes, equal}
use Rattle.answer.specs.Answer.{done_with, said_of_two}
use Rattle.fips180.specs.Hash.{sha256}
use Rattle.value.specs.Value.{dag_cbor, value_codec, value_digest}
use Rattle.key.specs.Key.{collection, lawful, less}
use Rattle.page.specs.Reading.{Read, read, ends_early, departs}
use Rattle.page.specs.Page.{RawPage, page_bytes}
use Rattle.tree.specs.Record.{Record, records}
use Rattle.tree.specs.Judge.{rising}
use Rattle.promises.specs.Map.{find}
use Rattle.promises.specs.Register.{RegisterOf}
use Rattle.promises.specs.Reply.{Reply, writing_reply}
use Rattle.promises.specs.Order.{Refuses, Judged, Check, filled}
use Rattle.promises.specs.Promises.{Among}
use Rattle.states.specs.Pages.{sequence, pages_in}
use Rattle.states.specs.States.{state_collection, state_key, first_digest, state_register, state_pages, page_sequence, Buffers, Saved, save_outcome, forget_outcome, saved_answer, states_output, pages_output, restore_outcome}

-- The replies of the calls; their contracts state the same answers and outputs. Save and forget have two outputs, of `states` and `pages` bytes.
abbrev pub saved_reply : Saved → ℕ → ℕ → Reply
saved_reply o states pages =
    record {
      answer = said_of_two (saved_answer o);
      outputs = record { room = states; bytes = states_output o states } ∷ record { room = pages; bytes = pages_output o pages } ∷ [];
      head = none;
    }

abbrev pub save_reply : Buffers → List ℕ → List ℕ → ℕ → ℕ → Reply
save_reply b s name states pages = saved_reply (save_outcome b s name states pages) states pages

abbrev pub forget_reply : Buffers → List ℕ → ℕ → ℕ → Reply
forget_reply b name states pages = saved_reply (forget_outcome b name states pages) states pages

abbrev pub restore_reply : Buffers → List ℕ → ℕ → Reply
restore_reply b name room = writing_reply (restore_outcome b name room) room

-- ---- the buffers lent
-- The pages are read one after the other. By the first event, 3 where a byte departs from the page form, and 2 where they end within a page.
abbrev pub SequenceOrder : Read (List RawPage) → Reply → (List (List ℕ) → Type 0) → Type 0
SequenceOrder departs reply goesOn = Refuses reply 3
SequenceOrder ends_early reply goesOn = Refuses reply 2
SequenceOrder (read ps rest) reply goesOn = goesOn (map page_bytes ps)

-- Some record of a list is of a kind.
abbrev pub SomeRecord : (Record → Type 0) → List Record → Type 0
SomeRecord Kind [] = ⊥
SomeRecord Kind (r ∷ rs) = Kind r ⊎ SomeRecord Kind rs

-- A record of another collection than `state`, or of another codec than 71.
abbrev pub OtherRecord : Record → Type 0
OtherRecord r = (collection r.key ≡ state_collection → ⊥) ⊎ (value_codec r.val ≡ dag_cbor → ⊥)

-- Digests do not rise: of two neighbours the second has no greater digest than the first.
abbrev pub NotRising : List (List ℕ) → Type 0
NotRising [] = ⊥
NotRising (p ∷ []) = ⊥
NotRising (p ∷ q ∷ ps) = (less (sha256 p) (sha256 q) ≡ false) ⊎ NotRising (q ∷ ps)

-- The register gathered from a root digest: its first page, the root, has the digest, all its pages are lent, and it is accepted.
pub record RegisterFrom (ps : List (List ℕ)) (digest s : List ℕ) : Type 0 where
  pub bytes : Bytes s
  pub root : first_digest (pages_in s) ≡ digest
  pub pages : (p : List ℕ) → Among p (pages_in s) → Among p ps
  pub set : List Record
  pub register : RegisterOf s set

-- A record without one: pages are missing, or those gathered make no accepted register.
abbrev pub NoRegister : List (List ℕ) → Record → Type 0
NoRegister ps r = (s : List ℕ) → RegisterFrom ps (value_digest r.val) s → ⊥

-- The map of states: each record, with its register in place of the value.
abbrev pub StatesFrom : List (List ℕ) → List Record → List Record → Type 0
StatesFrom ps [] [] = Unit {0}
StatesFrom ps [] (x ∷ m) = ⊥
StatesFrom ps (r ∷ rs) [] = ⊥
StatesFrom ps (r ∷ rs) (x ∷ m) = (x.key ≡ r.key) × RegisterFrom ps (value_digest r.val) x.val × StatesFrom ps rs m

-- Some page is in the register of no state.
abbrev pub SomeUnreached : List (List ℕ) → List Record → Type 0
SomeUnreached ps m = (p : List ℕ) × Among p ps × (Among p (state_pages m) → ⊥)

-- Number 18. Where it is not due the calls go on with the map of states.
abbrev pub StatesOrder : List Record → List (List ℕ) → Reply → (List Record → Type 0) → Type 0
StatesOrder rs ps reply goesOn =
    Check reply 18 (SomeRecord OtherRecord rs)
    (Check reply 18 (NotRising ps)
    (Check reply 18 (SomeRecord (NoRegister ps) rs)
    ((m : List Record) × StatesFrom ps rs m × Check reply 18 (SomeUnreached ps m) (goesOn m))))

-- The three calls judge the buffers alike: the state register first, then the pages by 1, 3 and 2, then 18.
abbrev pub BuffersOrder : Buffers → Reply → (List Record → Type 0) → Type 0
BuffersOrder b reply goesOn =
    Judged b.states reply (λ t.
    Check reply 1 (longest < length b.pages)
    (SequenceOrder (sequence b.pages) reply (λ ps.
    StatesOrder (records t) ps reply goesOn)))

-- ---- save and forget
-- The new map is known by what each key finds in it.
pub record NewStates (finds : List ℕ → Option (List ℕ)) (goesOn : List Record → Type 0) : Type 0 where
  pub result : List Record
  pub in_order : rising result ≡ true
  pub found : (key : List ℕ) → find key result ≡ finds key
  pub later : goesOn result

-- Both buffers of a map are written, and their two lengths are answered.
pub record WritesBoth (reply : Reply) (states pages : ℕ) (m : List Record) : Type 0 where
  pub answer : reply.answer ≡ done_with (length (state_register m) ∷ length (page_sequence m) ∷ [])
  pub outputs : reply.outputs ≡ filled states (state_register m) ∷ filled pages (page_sequence m) ∷ []

-- The outputs: 13 where either buffer is longer than its output, or than 4,194,304 bytes.
abbrev pub LongerThan : ℕ → List ℕ → Type 0
LongerThan room s = (room < length s) ⊎ (longest < length s)

abbrev pub BothMeasured : Reply → ℕ → ℕ → List Record → Type 0
BothMeasured reply states pages m =
    Check reply 13 (LongerThan states (state_register m) ⊎ LongerThan pages (page_sequence m)) (WritesBoth reply states pages m)

-- Two unequal pages share a digest.
abbrev pub SomeShared : List (List ℕ) → Type 0
SomeShared ps = (p : List ℕ) × (q : List ℕ) × Among p ps × Among q ps × (sha256 p ≡ sha256 q) × (p ≡ q → ⊥)

-- Save: the register, then the name; 18 where the result would lay two unequal pages under one digest; then the count of states and the outputs.
-- Afterwards the name finds the register, and every other key what it found before.
abbrev pub SaveOrder : Buffers → List ℕ → List ℕ → ℕ → ℕ → Reply → Type 0
SaveOrder b s name states pages reply =
    BuffersOrder b reply (λ m. Judged s reply (λ _.
    Check reply 7 (lawful (state_key name) ≡ false)
    (NewStates (λ key. cond (equal key (state_key name)) (some s) (find key m)) (λ new.
    Check reply 18 (SomeShared (state_pages new))
    (Check reply 5 (most < length new)
    (BothMeasured reply states pages new))))))

-- Forget: the name, then absence, then the outputs. Afterwards the name finds nothing, and every other key what it found before.
abbrev pub ForgetOrder : Buffers → List ℕ → ℕ → ℕ → Reply → Type 0
ForgetOrder b name states pages reply =
    BuffersOrder b reply (λ m.
    Check reply 7 (lawful (state_key name) ≡ false)
    (Check reply 12 (find (state_key name) m ≡ none)
    (NewStates (λ key. cond (equal key (state_key name)) none (find key m)) (BothMeasured reply states pages))))

-- ---- restore
-- The name, then absence, then the output. The register under the name is written, and its length is answered.
abbrev pub RestoreOrder : Buffers → List ℕ → ℕ → Reply → Type 0
RestoreOrder b name room reply =
    BuffersOrder b reply (λ m.
    Check reply 7 (lawful (state_key name) ≡ false)
    (Check reply 12 (find (state_key name) m ≡ none)
    ((s : List ℕ) → find (state_key name) m ≡ some s
    → Check reply 13 (room < length s) ((reply.answer ≡ done_with (length s ∷ [])) × (reply.outputs ≡ filled room s ∷ [])))))
