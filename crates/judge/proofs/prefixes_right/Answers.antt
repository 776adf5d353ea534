use mathlib.Core.Path.{ap}
use mathlib.Core.Bool.{not}
use Rattle.judge.proofs.Verdicts.{prefixes_walked, front_wrong, back_decides}
use Prim.Native.Nat.{◌*◌, ◌/◌}
use mathlib.Core.Path.{sym}
use native.Mathlib.Omega.{arith}
use lib.ListN.{length-take}
use lib.Seq.{length-take-le}
use borrow.Author.Rules.{rules}
use Rattle.judge.proofs.prefixes_right.Goals as goal

pub returns-then-st : goal.returns-then-st
returns-then-st c = search (rules, prefixes_walked)

pub slice_bounds-prefixes_hold-end : goal.slice_bounds-prefixes_hold-end
slice_bounds-prefixes_hold-end c = sym (length-take-le (2 * (c.args.st.chains / 2)) c.args.row.now (omega (arith, c.requires)))

pub prefixes_hold-requires : goal.prefixes_hold-requires
prefixes_hold-requires c = omega (arith, length-take (2 * (c.args.st.chains / 2)) c.args.row.now, c.requires)

pub returns-then-not-prefixes_hold : goal.returns-then-not-prefixes_hold
returns-then-not-prefixes_hold c =
    let a = c.args in
    front_wrong a.s.now a.row.now a.st c.requires (a.st.chains / 2) (omega arith) c.prefixes_hold.result c.prefixes_hold.ensures (ap not c.if-not-prefixes_hold.true)

pub returns : goal.returns
returns c =
    let a = c.args in
    back_decides a.s.now a.row.now a.st c.requires (a.st.chains / 2) (omega arith) c.prefixes_hold.result c.prefixes_hold.ensures (ap not c.if-not-prefixes_hold.false) c.prefixes_hold-2.result c.prefixes_hold-2.ensures
