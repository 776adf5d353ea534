use Rattle.std.specs.Prelude.{Ok}
use borrow.Author.Tests.{le-leb, lt-leb}
use Prim.Native.Nat.{◌≤◌, ◌<◌}
use mathlib.Core.Path.{ap}
use native.Mathlib.Omega.{arith}
use lib.ListN.{length}
use Rattle.limits.specs.Limits.{longest}
use Rattle.key.specs.Layer.{layer_answer}
use Rattle.key_calls.proofs.layer.Goals as goal

pub returns-then-input-le-LONGEST : goal.returns-then-input-le-LONGEST
unfolding layer_answer
returns-then-input-le-LONGEST c =
    let h : length c.args.input.now ≤ longest = omega arith in
    rw (le-leb _ longest h) (ap Ok c.layer_of.ensures)

pub returns-else-input-le-LONGEST : goal.returns-else-input-le-LONGEST
unfolding layer_answer
returns-else-input-le-LONGEST c =
    let h : longest < length c.args.input.now = omega arith in
    rw (lt-leb _ longest h)
