use mathlib.Core.Path.{◌≡◌}
use lib.ListN.{length}
use Rattle.row.specs.Row.{Row}
use Rattle.row.specs.Memory.{Remembers}
use Rattle.listing.proofs.Lines.{LinesSoFar}
use Rattle.listing.proofs.text.add_lines.Given as goal

abbrev pub invariant-loop-i : goal.invariant-loop-i
invariant-loop-i l =
    (length l.out ≡ length l.initial.out) × (length l.keys ≡ 16384) × (length l.notes ≡ 64) × Row l.s l.s l.index l.count × Remembers l.s l.s l.keys l.notes × LinesSoFar l.s l.index l.initial.out l.at l.out l.next l.i
