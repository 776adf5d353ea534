use Prim.Native.Nat.{◌+◌, ◌-◌, ◌*◌}
use mathlib.Core.Path.{◌≡◌}
use lib.ListN.{length}
use Rattle.index.proofs.EntrySteps.{Onward}
use Rattle.index.proofs.walk.+walk_entries_walk_page.Given as goal

abbrev pub decreases-walk_entries : goal.decreases-walk_entries
decreases-walk_entries l = 2 * (length l.s.now - l.st.next) + 1

abbrev pub invariant-walk_entries-loop-i : goal.invariant-walk_entries-loop-i
invariant-walk_entries-loop-i l =
    (length l.index ≡ length l.initial.index) × (length l.row ≡ length l.initial.row) × (length l.last ≡ length l.initial.last)
    × Onward l.s l.initial.index l.initial.row l.initial.last l.level l.page l.first l.n l.initial.cur l.index l.row l.last l.buffer l.size l.cur l.at l.i

abbrev pub decreases-walk_page : goal.decreases-walk_page
decreases-walk_page l = 2 * (length l.s.now - l.st.next)
