use Prim.Native.Nat.{◌+◌, ◌-◌, ◌*◌}
use Rattle.writer.proofs.Turns.{Going}
use Rattle.writer.proofs.pages.+write_below_write_entries_write_page.Given as goal

abbrev pub decreases-write_entries : goal.decreases-write_entries
decreases-write_entries l = 3 * l.layer + 1

abbrev pub invariant-write_entries-loop-i : goal.invariant-write_entries-loop-i
invariant-write_entries-loop-i l =
    Going l.s l.u l.row l.layer l.first l.hi l.start l.limit l.behind l.initial.out l.keys l.notes l.out l.at l.tail l.previous l.held l.i

abbrev pub decreases-write_entries-loop-i : goal.decreases-write_entries-loop-i
decreases-write_entries-loop-i l =
    l.hi - l.i

abbrev pub decreases-write_below : goal.decreases-write_below
decreases-write_below l = 3 * l.layer

abbrev pub decreases-write_page : goal.decreases-write_page
decreases-write_page l = 3 * l.layer + 2
