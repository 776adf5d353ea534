use borrow.Author.Rules.{rules}
use mathlib.Core.Path.{sym, ◌∙◌}
use Rattle.key_calls.proofs.RuleLaws.{pass_ends, pass_ordinary, pass_over, pass_other, pass_second, pass_slash, pass_whole}
use Rattle.key_calls.proofs.rule.slash_or_end.Goals as goal

pub loop-i-init : goal.loop-i-init
loop-i-init c =
    (search rules, sym (pass_over _ _ _ _ _ c.skip_ordinary-i.ensures.0 c.skip_ordinary-i.ensures.1 c.skip_ordinary-i.ensures.2) ∙ pass_whole _)

pub loop-i-preserved-then-is_ordinary : goal.loop-i-preserved-then-is_ordinary
loop-i-preserved-then-is_ordinary c =
    let i = c.loop-i.invariant.1 in
    (search rules, sym (pass_ordinary _ _ _ _ (search rules) (sym c.is_ordinary.ensures ∙ c.if-is_ordinary.true)) ∙ i)

pub returns-then-b-ne47 : goal.returns-then-b-ne47
returns-then-b-ne47 c =
    sym (pass_other _ _ _ _ (search rules) (sym c.is_ordinary.ensures ∙ c.if-is_ordinary.false) c.if-b-ne47.true) ∙ c.loop-i.invariant.1

pub returns-then-at-n : goal.returns-then-at-n
returns-then-at-n c =
    sym (pass_second _ _ _ _ (search rules) (sym c.is_ordinary.ensures ∙ c.if-is_ordinary.false) (search rules)) ∙ c.loop-i.invariant.1

pub loop-i-preserved : goal.loop-i-preserved
loop-i-preserved c =
    let o = sym c.is_ordinary.ensures ∙ c.if-is_ordinary.false in
    let q = c.if-b-ne47.false in
    (search rules, sym (pass_over _ _ _ _ _ c.skip_ordinary-i-else-is_ordinary.ensures.0 c.skip_ordinary-i-else-is_ordinary.ensures.1 c.skip_ordinary-i-else-is_ordinary.ensures.2) ∙ sym (pass_slash _ _ _ _ (search rules) o q (search rules)) ∙ c.loop-i.invariant.1)

pub returns : goal.returns
returns c = sym (pass_ends _ _ _ _ (search rules)) ∙ c.loop-i.invariant.1
