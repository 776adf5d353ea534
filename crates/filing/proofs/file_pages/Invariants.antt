use Prim.Native.Nat.{◌≤◌}
use mathlib.Core.Path.{◌≡◌}
use lib.ListN.{length}
use Rattle.filing.specs.Filed.{Staged}
use Rattle.filing.proofs.Filing.{FiledSoFar}
use Rattle.filing.proofs.file_pages.Given as goal

abbrev pub invariant-loop-i : goal.invariant-loop-i
invariant-loop-i l =
    (l.i ≤ l.j) × (l.j ≤ l.total) × (length l.words ≡ length l.initial.words)
    × ((g : Staged l.states l.sequence l.initial.words l.total l.pages l.n) → FiledSoFar l.states l.sequence l.initial.words l.total g.raws l.words l.i l.j)
