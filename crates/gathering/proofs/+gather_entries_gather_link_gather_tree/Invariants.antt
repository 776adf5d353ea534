use Prim.Native.Nat.{◌+◌, ◌*◌}
use mathlib.Core.Path.{◌≡◌}
use lib.ListN.{length}
use Rattle.gathering.specs.Inner.{EntriesStand}
use Rattle.gathering.proofs.Turns.{TreesSoFar}
use Rattle.gathering.proofs.+gather_entries_gather_link_gather_tree.Given as goal

abbrev pub decreases-gather_entries : goal.decreases-gather_entries
decreases-gather_entries l = 3 * l.layer + 1

abbrev pub invariant-gather_entries-loop-j : goal.invariant-gather_entries-loop-j
invariant-gather_entries-loop-j l =
    (length l.out ≡ length l.initial.out) × ((g : EntriesStand l.filed.states.now l.filed.sequence.now l.filed.labels.now l.filed.pages.now l.filed.n l.first l.count l.layer) → TreesSoFar g l.initial.out l.out l.total l.at l.j)

abbrev pub decreases-gather_link : goal.decreases-gather_link
decreases-gather_link l = 3 * l.layer

abbrev pub decreases-gather_tree : goal.decreases-gather_tree
decreases-gather_tree l = 3 * l.layer + 2
