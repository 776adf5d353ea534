use Prim.Native.Nat.{◌+◌, ◌*◌}
use mathlib.Core.Path.{refl}
use native.Mathlib.Omega.{arith}
use Rattle.summing.proofs.note_page.Goals as goal

pub returns : goal.returns
returns c =
    let a = c.args in
    let p = c.requires in
    record {
      word = a.place + a.note * 4194304 + a.mark * 1073741824;
      words = refl;
      numbers = refl;
      stands = omega arith;
      noted = omega arith;
      marked = omega arith;
    }
