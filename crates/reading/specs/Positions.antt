-- The records of a register that is accepted, by their positions. Contracts inside the library cite it, and no public contract does.
use Rattle.std.specs.Prelude.{ℕ, ◌<◌, ◌≡◌, List, [], Option as Found, Some, None}
use Rattle.std.proofs.Math.Option.{Option, none}
use Rattle.promises.specs.Map.{nth}
use Rattle.tree.specs.Record.{Record, records}
use Rattle.tree.specs.Judge.{Verdict, refused, accepted}

-- The records of what is accepted; what is refused has none.
unfoldable pub accepted_records : Verdict → List Record
accepted_records (refused r) = []
accepted_records (accepted t) = records t

-- Of so many records this one stands at the position answered, or there is none.
abbrev pub PositionSays : ℕ → List Record → Option Record → Found ℕ → Type 0
PositionSays count rs r (Some position) = (position < count) × (nth position rs ≡ r)
PositionSays count rs r None = r ≡ none
