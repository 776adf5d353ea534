use mathlib.Core.Path.{refl}
use borrow.Author.Rules.{rules}
use Rattle.bytestring.proofs.Equal.{lengths_differ, bytes_compared, bytes_end}
use Rattle.bytestring.proofs.same_bytes.Goals as goal

pub returns-then-a-b : goal.returns-then-a-b
returns-then-a-b c = search (rules, lengths_differ)

pub loop-i-init : goal.loop-i-init
loop-i-init c = (search rules, refl)

pub loop-i-preserved : goal.loop-i-preserved
loop-i-preserved c =
    let l = c.loop-i in (search rules, bytes_compared _ _ l.same l.i l.invariant.0 l.invariant.1 (search rules))

pub returns : goal.returns
returns c =
    let l = c.loop-i in
    bytes_end _ _ l.same l.i l.invariant.0 l.invariant.1 (search rules)
