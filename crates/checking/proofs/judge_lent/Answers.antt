use mathlib.Core.Path.{sym, subst, ◌∙◌}
use borrow.Author.Rules.{rules}
use Rattle.std.specs.Prelude.{Err}
use Rattle.checking.specs.Lent.{LentSays}
use Rattle.reading.proofs.Verdicts.{accepted_rows, judged_refused}
use Rattle.checking.proofs.Heads.{lent_refused, untrue, is_true}
use Rattle.checking.proofs.judge_lent.Goals as goal

pub head_of-own-requires : goal.head_of-own-requires
head_of-own-requires c =
    let j = c.judge in
    accepted_rows _ _ _ j.result j.ensures c.in_ok-count.was

pub returns-then-not-same_head : goal.returns-then-not-same_head
returns-then-not-same_head c =
    let j = c.judge in
    let args = c.args in
    let a = (accepted_rows _ _ _ j.result j.ensures c.in_ok-count.was).0 in
    untrue args.register.now args.head a.tree a.judged c.head_of-own.result (c.head_of-own.ensures a.tree a.judged)
    (sym c.same_head.ensures ∙ c.if-not-same_head.true)

pub returns : goal.returns
returns c =
    let j = c.judge in
    let args = c.args in
    let rows = accepted_rows _ _ _ j.result j.ensures c.in_ok-count.was in
    let a = rows.0 in (
      rows.0,
      rows.1,
      is_true args.register.now args.head a.tree a.judged c.head_of-own.result (c.head_of-own.ensures a.tree a.judged)
          (sym c.same_head.ensures ∙ c.if-not-same_head.false),
    )

pub returns-in_err-count : goal.returns-in_err-count
returns-in_err-count c =
    let j = c.judge in
    let a = c.args in
    subst (λ r. LentSays a.register.now a.head r j.new.index j.new.row) {x = Err c.in_err-count.field-0.0} {y = c.from_residual.result} (search rules)
    (lent_refused a.register.now a.head _ (judged_refused _ _ _ j.result j.ensures c.in_err-count.was))
