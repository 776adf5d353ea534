use borrow.Author.Rules.{rules}
use mathlib.Core.Path.{refl}
use native.Mathlib.Omega.{arith}
use Rattle.listing.proofs.Adding.{no_room, adds_none, adds_bytes}
use Rattle.listing.proofs.text.add.Goals as goal

pub returns-in_err-room : goal.returns-in_err-room
returns-in_err-room c =
    let a = c.args in
    adds_none (no_room a.out.now a.out.now a.at _ refl (omega arith)) (search rules)

pub returns-then-room-bytes : goal.returns-then-room-bytes
returns-then-room-bytes c =
    let a = c.args in
    no_room a.out.now a.out.now a.at _ refl (omega arith)

pub returns : goal.returns
returns c = adds_bytes _ _ _ _ (search rules) c.write_bytes.ensures
