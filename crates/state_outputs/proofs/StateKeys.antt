-- The key of a state, in its buffer.
use Prim.Native.Nat.{ℕ, ◌+◌, ◌≤◌, ◌<◌}
use mathlib.Core.Path.{◌≡◌, refl, sym, ap, ◌∙◌}
use mathlib.Core.Bool.{false, false≢true}
use mathlib.Core.List.{List, [], ◌∷◌}
use native.Mathlib.Omega.{arith}
use lib.ListN.{length, take, drop}
use lib.Seq.{take_at}
use Rattle.bytestring.specs.Bytes.{front}
use Rattle.bytestring.proofs.Lending.{lent, back, onto}
use Rattle.limits.specs.Limits.{longest_key}
use Rattle.key.specs.Key.{lawful}
use Rattle.key.proofs.Lawful.{long_unlawful}
use Rattle.states.specs.States.{state_key}
use Rattle.state_outputs.specs.Outputs.{KeyOf}

abbrev before : List ℕ
before = 0x73 ∷ 0x74 ∷ 0x61 ∷ 0x74 ∷ 0x65 ∷ 0x2F ∷ []

none_unlawful : lawful [] ≡ false
unfolding lawful
none_unlawful = refl

pub long_name : (name key : List ℕ) → longest_key < 6 + length name → KeyOf name (take 0 key)
long_name name key l =
    let u = long_unlawful (state_key name) (omega (arith, l)) in
    record { law = none_unlawful ∙ sym u; same = λ h. absurd (false≢true (sym u ∙ h)) }

pub name_behind : (name key one two : List ℕ) → one ≡ front before key → two ≡ front name (lent 6 one) → 6 + length name ≤ longest_key
    → KeyOf name (take (6 + length name) (back 6 one two))
name_behind name key one two e f l =
    let all : back 6 one two ≡ front (state_key name) key = onto key before name 6 one two e refl f in
    let at : take (6 + length name) (back 6 one two) ≡ state_key name = ap (take (6 + length name)) all ∙ take_at (state_key name) (drop (length (state_key name)) key) (6 + length name) (omega arith) in
    record { law = ap lawful at; same = λ h. at }
