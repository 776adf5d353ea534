-- What put and join have in common, and what is written of a result. Contracts inside the library cite it, and no public contract does.
use Rattle.std.specs.Prelude.{ℕ, ◌-◌, Bool, true, false, cond, List, take, drop}
use Rattle.answer.specs.declared.Refusal.TheVariants.{KeyAbsent}
use Rattle.tree.specs.Record.{Record}
use Rattle.tree.specs.Judge.{due}
use Rattle.head.specs.declared.Head.{Head}
use Rattle.promises.specs.Map.{find, is_there, remove}
use Rattle.promises.specs.Outcome.{Outcome, stopped, sizes, settle}
use Rattle.promises.specs.Moved.{Moved, settle_moved, put_outcome, join_outcome}

-- What is written of a result, after a call's own tests: only its sizes are tested.
unfoldable pub written : List Record → ℕ → Outcome
written rs room = settle (due (sizes rs room)) rs

-- The same of the records without a key; number 12 where it is absent.
unfoldable pub written_without : List ℕ → List Record → ℕ → Outcome
written_without k rs room = cond (is_there (find k rs)) (written (remove k rs) room) (stopped KeyAbsent)

-- The same of a call that is lent a head.
unfoldable pub moved_to : List Record → ℕ → Moved
moved_to rs room = settle_moved (due (sizes rs room)) rs

-- Put, or join.
unfoldable pub set_outcome : Bool → List ℕ → Head → List ℕ → List ℕ → ℕ → Moved
set_outcome false s h k v room = put_outcome s h k v room
set_outcome true s h k v room = join_outcome s h k v room

-- The records at the positions from low to before high.
abbrev pub records_from : ℕ → ℕ → List Record → List Record
records_from low high rs = take (high - low) (drop low rs)
