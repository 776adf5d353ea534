-- A register that is accepted, in one value with its rows.
use Rattle.answer.specs.declared.Refusal.{Refusal}
use Rattle.std.specs.Prelude.{ℕ, ◌/◌, ◌≡◌, List, length, Result, Ok, Err}
use Rattle.bytestring.specs.Bytes.{Bytes}
use Rattle.tree.specs.Judge.{refused, judge}
use Rattle.index.specs.Accepted.{AcceptedIndex, ChainRow}
use Rattle.judge.specs.declared.accepted.Accepted.{Accepted}

-- The register is bytes and is accepted, and the first row is that of all its records.
pub record Indexed (a : Accepted) : Type 0 where
  pub bytes : Bytes a.register.now
  pub records : AcceptedIndex a.register.now a.index.now (length a.index.now)

-- The register is bytes and is accepted, and the rows are those of all its records and of all its chains.
pub record Stands (a : Accepted) : Type 0 where
  pub bytes : Bytes a.register.now
  pub records : AcceptedIndex a.register.now a.index.now (length a.index.now)
  pub pages : ChainRow a.register.now a.chains.now (length a.chains.now / 2)

-- What is answered of a byte string: its register with the rows, or why it is refused.
abbrev pub AcceptSays : List ℕ → Result Accepted Refusal → Type 0
AcceptSays s (Ok a) = (a.register.now ≡ s) × Stands a
AcceptSays s (Err r) = judge s ≡ refused r
