use borrow.Author.Tests.{ltb-true, ltb-false}
use mathlib.Core.Path.{sym, ◌∙◌}
use Rattle.row.proofs.Rows.{source_first, source_second, value_in_lem}
use Rattle.row.proofs.bytes.value_of.Goals as goal

pub returns-then-is_first : goal.returns-then-is_first
returns-then-is_first c =
    let a = c.args in
    value_in_lem _ _ _ _ _ _ (source_first a.s.now a.u.now a.word (ltb-true _ _ (sym c.is_first.ensures ∙ c.if-is_first.true))) c.value_at.ensures

pub returns : goal.returns
returns c =
    let a = c.args in
    value_in_lem _ _ _ _ _ _ (source_second a.s.now a.u.now a.word (ltb-false _ _ (sym c.is_first.ensures ∙ c.if-is_first.false))) c.value_at-2.ensures
