-- The order of checks: when a call is done, and when each number is given.
use Rattle.std.specs.Prelude.{ℕ, ◌-◌, ◌<◌, ◌≤◌, ◌≡◌, true, false, cond, ◌||◌, ◌⊎◌, List, [], ◌∷◌, ◌++◌, length}
use Rattle.std.proofs.Math.Option.{Option, none, some}
use Rattle.value.specs.Value.{digest_in, raw, dag_cbor, value_length, value_codec, value_digest}
use Rattle.limits.specs.Limits.{longest, most}
use Rattle.bytestring.specs.Bytes.{zeros, equal}
use Rattle.answer.specs.Answer.{number_of, refused_with, done_with}
use Rattle.answer.specs.declared.Refusal.{Refusal}
use Rattle.key.specs.Key.{lawful, SlashAfter, less}
use Rattle.tree.specs.Record.{Record, records}
use Rattle.tree.specs.Table.{SpeltTree, table_of}
use Rattle.tree.specs.Judge.{rising, refused, accepted, judge}
use Rattle.head.specs.declared.Head.{Head}
use Rattle.head.specs.Head.{head_of}
use Rattle.promises.specs.Map.{find, greater_found, only_in_second}
use Rattle.promises.specs.Pages.{pages_of, opened_pages, in_pages}
use Rattle.promises.specs.Register.{RegisterOf}
use Rattle.promises.specs.Reply.{Output, HeadAfter, Reply}

-- ---- the steps
abbrev pub AllZero : List Output → Type 0
AllZero [] = Unit {0}
AllZero (out ∷ outs) = (out.bytes ≡ zeros out.room) × AllZero outs

-- What the head is after the call, where the call has one.
abbrev pub HeadIs : Option HeadAfter → (HeadAfter → Head) → Type 0
HeadIs none wanted = Unit {0}
HeadIs (some h) wanted = h.after ≡ wanted h

-- A refusal answers its number alone, every output is wholly zero, and a lent head is as it was lent.
pub record Refuses (reply : Reply) (n : ℕ) : Type 0 where
  pub answer : reply.answer ≡ refused_with n
  pub outputs : AllZero reply.outputs
  pub head : HeadIs reply.head (λ h. h.on_refusal)

-- A register is refused with the first of 1 to 10 that is due on it; otherwise the call goes on with the tree that its pages spell.
pub record Judged (s : List ℕ) (reply : Reply) (goesOn : SpeltTree → Type 0) : Type 0 where
  pub refuses : (r : Refusal) → judge s ≡ refused r → Refuses reply (number_of r)
  pub accepts : (t : SpeltTree) → judge s ≡ accepted t → goesOn t

-- Where the rule is broken the call is refused with this number; otherwise it goes on.
pub record Check (reply : Reply) (n : ℕ) (broken goesOn : Type 0) : Type 0 where
  pub refuses : broken → Refuses reply n
  pub passes : (broken → ⊥) → goesOn

-- An output that begins with these bytes, with zeros after them.
abbrev pub filled : ℕ → List ℕ → Output
filled room bytes = record { room = room; bytes = bytes ++ zeros (room - length bytes) }

-- The register of a set is written, and its length is answered, with the other values of the call after it. A head is that of the set.
pub record Writes (reply : Reply) (room : ℕ) (others : List ℕ) (rs : List Record) : Type 0 where
  pub register : RegisterOf (table_of rs) rs
  pub answer : reply.answer ≡ done_with (length (table_of rs) ∷ others)
  pub outputs : reply.outputs ≡ filled room (table_of rs) ∷ []
  pub head : HeadIs reply.head (λ _. head_of rs)

-- The output: 13 where the table is longer than it, or than 4,194,304 bytes.
abbrev pub Measured : Reply → ℕ → List ℕ → List Record → Type 0
Measured reply room others rs =
    Check reply 13 ((room < length (table_of rs)) ⊎ (longest < length (table_of rs))) (Writes reply room others rs)

-- The set that results is known by what each key finds in it. Last come the resulting count and the output.
pub record ResultFinds (reply : Reply) (room : ℕ) (others : List ℕ) (finds : List ℕ → Option (List ℕ)) : Type 0 where
  pub result : List Record
  pub in_order : rising result ≡ true
  pub found : (key : List ℕ) → find key result ≡ finds key
  pub last : Check reply 5 (most < length result) (Measured reply room others result)

-- ---- the calls
-- Slash: 7 where the key breaks the key rule. Otherwise it answers the number of bytes before the slash.
abbrev pub SlashOrder : List ℕ → Reply → Type 0
SlashOrder k reply =
    Check reply 7 (lawful k ≡ false)
    ((n : ℕ) × (reply.answer ≡ done_with (n ∷ [])) × SlashAfter k n)

-- Check answers 0, and its head is that of the register's set.
abbrev pub CheckOrder : List ℕ → Reply → Type 0
CheckOrder s reply =
    Judged s reply (λ t. (reply.answer ≡ done_with (0 ∷ [])) × HeadIs reply.head (λ _. head_of (records t)))

-- Lookup: the key argument, then absence. It answers the place where the value's digest stands, and the value's codec.
abbrev pub LookupOrder : List ℕ → List ℕ → Reply → Type 0
LookupOrder s k reply =
    Judged s reply (λ t.
    Check reply 7 (lawful k ≡ false)
    (Check reply 12 (find k (records t) ≡ none)
    ((v : List ℕ) → find k (records t) ≡ some v
    → (place : ℕ) × (reply.answer ≡ done_with (place ∷ value_codec v ∷ [])) × (digest_in s place ≡ value_digest v))))

-- A single record: 13 where its key is longer than the output. Its key's length is answered, and key and value are written.
abbrev pub GivesRecord : Reply → ℕ → Record → Type 0
GivesRecord reply room r =
    Check reply 13 (room < length r.key)
    ((reply.answer ≡ done_with (length r.key ∷ []))
    × (reply.outputs ≡ filled room r.key ∷ record { room = value_length; bytes = r.val } ∷ []))

-- List: from the count on it is past the end, which is answered as 0, and the outputs are zero. Otherwise it gives the record that n others come
-- before.
pub record GivesNth (n room : ℕ) (reply : Reply) (rs : List Record) : Type 0 where
  pub past : length rs ≤ n → (reply.answer ≡ done_with (0 ∷ [])) × AllZero reply.outputs
  pub given : (before later : List Record) (r : Record) → rs ≡ before ++ (r ∷ later) → length before ≡ n → GivesRecord reply room r

abbrev pub ListOrder : List ℕ → ℕ → ℕ → Reply → Type 0
ListOrder s n room reply = Judged s reply (λ t. GivesNth n room reply (records t))

-- At or after: the key argument; 12 where no key from it on finds anything. The record that is given is in the set and not less than the key,
-- and between them lies no other.
pub record FirstFrom (k : List ℕ) (rs : List Record) (r : Record) : Type 0 where
  pub held : find r.key rs ≡ some r.val
  pub from : less r.key k ≡ false
  pub nearest : (key : List ℕ) → less key k ≡ false → less key r.key ≡ true → find key rs ≡ none

abbrev pub AtOrAfterOrder : List ℕ → List ℕ → ℕ → Reply → Type 0
AtOrAfterOrder s k room reply =
    Judged s reply (λ t.
    Check reply 7 (lawful k ≡ false)
    (Check reply 12 ((key : List ℕ) → less key k ≡ false → find key (records t) ≡ none)
    ((r : Record) × FirstFrom k (records t) r × GivesRecord reply room r)))

-- Before: the same on the other side of the key.
pub record LastBelow (k : List ℕ) (rs : List Record) (r : Record) : Type 0 where
  pub held : find r.key rs ≡ some r.val
  pub below : less r.key k ≡ true
  pub nearest : (key : List ℕ) → less key k ≡ true → less r.key key ≡ true → find key rs ≡ none

abbrev pub BeforeOrder : List ℕ → List ℕ → ℕ → Reply → Type 0
BeforeOrder s k room reply =
    Judged s reply (λ t.
    Check reply 7 (lawful k ≡ false)
    (Check reply 12 ((key : List ℕ) → less key k ≡ true → find key (records t) ≡ none)
    ((r : Record) × LastBelow k (records t) r × GivesRecord reply room r)))

-- Run: the first key, then the last; 14 where the first is greater than the last; then the output. In the result each key from the first up to
-- and including the last finds what it found before, and every other key nothing.
pub record RunFinds (reply : Reply) (room : ℕ) (first last : List ℕ) (rs : List Record) : Type 0 where
  pub result : List Record
  pub in_order : rising result ≡ true
  pub found : (key : List ℕ) → find key result ≡ cond (less key first || less last key) none (find key rs)
  pub measured : Measured reply room [] result

abbrev pub RunOrder : List ℕ → List ℕ → List ℕ → ℕ → Reply → Type 0
RunOrder s first last room reply =
    Judged s reply (λ t.
    Check reply 7 (lawful first ≡ false)
    (Check reply 7 (lawful last ≡ false)
    (Check reply 14 (less last first ≡ true)
    (RunFinds reply room first last (records t)))))

-- A call that is lent a head: once the register is accepted, 17 where the head is not that of its set, in any field.
abbrev pub LentHead : List ℕ → Head → Reply → (SpeltTree → Type 0) → Type 0
LentHead s lent reply goesOn = Judged s reply (λ t. Check reply 17 (lent ≡ head_of (records t) → ⊥) (goesOn t))

-- A value argument draws 11 where it has not 33 bytes, or a codec that is neither 55 nor 71.
abbrev pub NoValue : List ℕ → Type 0
NoValue v = (length v ≡ value_length → ⊥) ⊎ ((value_codec v ≡ raw → ⊥) × (value_codec v ≡ dag_cbor → ⊥))

-- Put: the key argument, then the value. Afterwards the key finds the value, and every other key what it found before.
abbrev pub PutOrder : List ℕ → Head → List ℕ → List ℕ → ℕ → Reply → Type 0
PutOrder s lent k v room reply =
    LentHead s lent reply (λ t.
    Check reply 7 (lawful k ≡ false)
    (Check reply 11 (NoValue v)
    (ResultFinds reply room [] (λ key. cond (equal key k) (some v) (find key (records t))))))

-- Join: the same, but the key finds the greater of what it found before and the value.
abbrev pub JoinOrder : List ℕ → Head → List ℕ → List ℕ → ℕ → Reply → Type 0
JoinOrder s lent k v room reply =
    LentHead s lent reply (λ t.
    Check reply 7 (lawful k ≡ false)
    (Check reply 11 (NoValue v)
    (ResultFinds reply room [] (λ key. cond (equal key k) (greater_found (find key (records t)) (some v)) (find key (records t))))))

-- Remove: the key argument, then absence. Afterwards the key finds nothing, and every other key what it found before.
abbrev pub RemoveOrder : List ℕ → Head → List ℕ → ℕ → Reply → Type 0
RemoveOrder s lent k room reply =
    LentHead s lent reply (λ t.
    Check reply 7 (lawful k ≡ false)
    (Check reply 12 (find k (records t) ≡ none)
    (ResultFinds reply room [] (λ key. cond (equal key k) none (find key (records t))))))

-- Merge: the first register and its head are judged through before the second register. Afterwards each key finds the greater of what it
-- found in the two.
abbrev pub MergeOrder : List ℕ → Head → List ℕ → ℕ → Reply → Type 0
MergeOrder s lent u room reply =
    LentHead s lent reply (λ t.
    Judged u reply (λ w.
    ResultFinds reply room [] (λ key. greater_found (find key (records t)) (find key (records w)))))

-- Difference: the first register is judged through before the second. In the result each key finds what it finds in the opened pages of the second and not in the first. The
-- number of opened pages is answered after the length.
abbrev pub DifferenceOrder : List ℕ → List ℕ → ℕ → Reply → Type 0
DifferenceOrder s u room reply =
    Judged s reply (λ t.
    Judged u reply (λ w.
    ResultFinds reply room (length (opened_pages (pages_of t) w) ∷ [])
    (λ key. only_in_second (find key (records t)) (find key (in_pages (opened_pages (pages_of t) w))))))
