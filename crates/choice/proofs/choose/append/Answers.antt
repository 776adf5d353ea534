use Prim.Native.Nat.{ℕ, ◌+◌, ◌-◌}
use mathlib.Core.Path.{◌≡◌, subst}
use native.Mathlib.Omega.{arith}
use lib.ListN.{take, drop, length-set}
use Rattle.std.specs.Prelude.{Some}
use Rattle.choice.specs.Choice.{AppendSays}
use Rattle.choice.proofs.Choosing.{appended_none, appended_more, appended_all}
use borrow.Author.Rules.{rules}
use Rattle.choice.proofs.choose.append.Goals as goal

pub loop-i-init : goal.loop-i-init
loop-i-init c = (search rules, search rules, search rules, search (rules, appended_none))

pub loop-i-preserved : goal.loop-i-preserved
loop-i-preserved c = (search rules, search rules, simp length-set (search rules), search (rules, appended_more))

pub returns : goal.returns
returns c =
    let a = c.args in
    let l = c.loop-i in
    let e : l.i ≡ a.to - a.from = omega arith in
    subst
    (λ (n : ℕ). AppendSays a.row.now a.k a.limit (take (a.to - a.from) (drop a.from a.words.now)) (Some (a.k + n)) l.row)
    e
    (appended_all a.row.now a.k a.limit a.words.now a.from a.to l.row l.i l.invariant.3 c.requires.2 c.requires.3 l.invariant.0 l.invariant.1 (omega arith) (omega arith))
