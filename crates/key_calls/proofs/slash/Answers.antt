use borrow.Author.Rules.{rules}
use Rattle.key_calls.proofs.RuleLaws.{long_refused, within, nothing_before, nothing_after, dots_after, two_parts}
use Rattle.key_calls.proofs.slash.Goals as goal

pub returns-then-n-gt-LONGEST_KEY : goal.returns-then-n-gt-LONGEST_KEY
returns-then-n-gt-LONGEST_KEY c = long_refused _ c.if-n-gt-LONGEST_KEY.true

pub returns-then-at-eq0 : goal.returns-then-at-eq0
returns-then-at-eq0 c = nothing_before _ _ c.slash_or_end-at.ensures c.if-at-eq0.true

pub overflow_sub-left : goal.overflow_sub-left
overflow_sub-left c = within _ _ c.slash_or_end-at.ensures

pub returns-then-left-lt2 : goal.returns-then-left-lt2
returns-then-left-lt2 c = nothing_after _ _ c.slash_or_end-at.ensures c.if-left-lt2.true

pub returns-then-is_dot_name : goal.returns-then-is_dot_name
returns-then-is_dot_name c = dots_after _ _ c.slash_or_end-at.ensures (search rules) (search rules) _ c.is_dot_name.ensures c.if-is_dot_name.true

pub returns : goal.returns
returns c =
    two_parts _ _ c.slash_or_end-at.ensures (search rules) (search rules) _ c.is_dot_name.ensures (search rules) c.if-is_dot_name.false
