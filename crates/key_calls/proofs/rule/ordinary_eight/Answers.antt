use Prim.Native.Nat.{◌+◌}
use mathlib.Core.Path.{sym, ◌∙◌}
use native.Mathlib.Omega.{arith}
use Rattle.key_calls.proofs.RuleLaws.{one_ordinary, one_more}
use Rattle.key_calls.proofs.rule.ordinary_eight.Goals as goal

pub returns : goal.returns
returns c =
    let k = c.args.key.now in
    let i = c.args.i in
    one_more k i (i + 7) (i + 8) (omega arith) _ _
    (one_more k i (i + 6) (i + 7) (omega arith) _ _
    (one_more k i (i + 5) (i + 6) (omega arith) _ _
    (one_more k i (i + 4) (i + 5) (omega arith) _ _
    (one_more k i (i + 3) (i + 4) (omega arith) _ _
    (one_more k i (i + 2) (i + 3) (omega arith) _ _
    (one_more k i (i + 1) (i + 2) (omega arith) _ _
    (λ e. one_ordinary k i (sym c.is_ordinary_compared.ensures ∙ e))
    (λ e. sym c.is_ordinary_compared-2.ensures ∙ e))
    (λ e. sym c.is_ordinary_compared-3.ensures ∙ e))
    (λ e. sym c.is_ordinary_compared-4.ensures ∙ e))
    (λ e. sym c.is_ordinary_compared-5.ensures ∙ e))
    (λ e. sym c.is_ordinary_compared-6.ensures ∙ e))
    (λ e. sym c.is_ordinary_compared-7.ensures ∙ e))
    (λ e. sym c.is_ordinary_compared-8.ensures ∙ e)
