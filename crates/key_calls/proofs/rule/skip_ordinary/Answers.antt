use borrow.Author.Rules.{rules}
use native.Mathlib.Omega.{arith}
use Rattle.key_calls.proofs.RuleLaws.{then_ordinary}
use Rattle.key_calls.proofs.rule.skip_ordinary.Goals as goal

pub returns-then-n-from : goal.returns-then-n-from
returns-then-n-from c = (search rules, search rules, λ m a b. absurd (omega arith))

pub loop-i-init : goal.loop-i-init
loop-i-init c = (search rules, omega arith, search rules, search rules, λ m a b. absurd (omega arith))

pub loop-i-preserved : goal.loop-i-preserved
loop-i-preserved c =
    let l = c.loop-i in
    let a = c.args in
    (search rules, search rules, search rules, search rules, then_ordinary a.key.now a.from l.i _ l.invariant.4 (c.ordinary_eight.ensures c.if-not-ordinary_eight.false))

pub returns-then-ordinary_eight : goal.returns-then-ordinary_eight
returns-then-ordinary_eight c =
    let l = c.loop-i in
    let a = c.args in
    (search rules, search rules, then_ordinary a.key.now a.from l.i _ l.invariant.4 (λ m h b. c.ordinary_eight-2.ensures c.if-ordinary_eight.true m (omega arith) (omega arith)))
