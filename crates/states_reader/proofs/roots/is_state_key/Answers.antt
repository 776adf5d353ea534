use Prim.Native.Nat.{◌≤◌}
use mathlib.Core.Path.{sym, ◌∙◌}
use native.Mathlib.Omega.{arith}
use lib.ListN.{length}
use lib.Seq.{length-take-le}
use Rattle.states_reader.proofs.Keys.{state_key_lem, short_key}
use Rattle.states_reader.proofs.roots.is_state_key.Goals as goal

pub returns-then-key-lt-BEGIN : goal.returns-then-key-lt-BEGIN
returns-then-key-lt-BEGIN c = short_key c.args.key.now c.requires (omega arith)

pub slice_bounds-same_bytes-end : goal.slice_bounds-same_bytes-end
slice_bounds-same_bytes-end c = let h : 6 ≤ length c.args.key.now = omega arith in sym (length-take-le 6 c.args.key.now h)

pub returns : goal.returns
returns c = c.same_bytes.ensures ∙ state_key_lem c.args.key.now c.requires
