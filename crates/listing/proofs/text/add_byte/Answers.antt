use mathlib.Core.Path.{refl}
use native.Mathlib.Omega.{arith}
use Rattle.listing.proofs.Adding.{no_room, adds_byte}
use Rattle.listing.proofs.text.add_byte.Goals as goal

pub returns-then-out-at : goal.returns-then-out-at
returns-then-out-at c =
    let a = c.args in
    no_room a.out.now a.out.now a.at _ refl (omega arith)

pub returns : goal.returns
returns c =
    let a = c.args in
    adds_byte a.out.now a.at a.byte (omega arith)
