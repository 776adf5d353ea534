use Prim.Native.Nat.{◌<◌}
use mathlib.Core.Path.{◌≡◌}
use lib.ListN.{length}
use Rattle.bytestring.specs.Bytes.{Bytes}
use Rattle.limits.specs.Limits.{longest_key}
use Rattle.tree_keys.proofs.LastWays.{LastSoFar}
use Rattle.tree_keys.proofs.long_page.Given as goal

abbrev pub invariant-loop-steps : goal.invariant-loop-steps
invariant-loop-steps l =
    (l.c < l.n) × (length l.last ≡ longest_key) × (length l.last ≡ length l.initial.last) × Bytes l.sequence × LastSoFar l.states l.sequence l.labels l.pages l.n l.i l.c l.steps
