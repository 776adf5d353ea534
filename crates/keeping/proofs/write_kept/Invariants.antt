use Prim.Native.Nat.{◌+◌}
use mathlib.Core.Path.{◌≡◌}
use mathlib.Core.List.{List}
use lib.ListN.{length}
use Rattle.page.specs.Page.{RawPage}
use Rattle.keeping.specs.Kept.{LabelledPages}
use Rattle.keeping.specs.Inner.{KeptSoFar, InRows}
use Rattle.keeping.proofs.write_kept.Given as goal

abbrev pub invariant-loop-turn : goal.invariant-loop-turn
invariant-loop-turn l =
    (length l.out ≡ length l.initial.out) × (l.progress.i + l.progress.j ≡ l.turn) × (l.total ≡ l.n + l.m) × InRows l.sequence l.n l.m l.progress
    × ((raws : List RawPage) → LabelledPages l.states l.sequence l.labels l.n raws
    → KeptSoFar raws l.sequence l.marks l.n l.register l.root_end l.chains l.words l.m l.initial.out l.progress l.out)
