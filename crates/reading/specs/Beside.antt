-- What at_or_after and before have in common. Contracts inside the library cite it, and no public contract does.
use Rattle.std.specs.Prelude.{ℕ, Bool, true, false, List}
use Rattle.std.proofs.Math.Option.{Option}
use Rattle.tree.specs.Record.{Record}
use Rattle.promises.specs.Outcome.{Listed}
use Rattle.promises.specs.Range.{at_or_after, last_before, at_or_after_outcome, before_outcome}

-- The first record at or after a key, or the last before it.
unfoldable pub beside_record : Bool → List ℕ → List Record → Option Record
beside_record true k = at_or_after k
beside_record false k = last_before k

-- What the call for it answers and writes.
unfoldable pub beside_outcome : Bool → List ℕ → List ℕ → ℕ → Listed
beside_outcome true s k room = at_or_after_outcome s k room
beside_outcome false s k room = before_outcome s k room
