use borrow.Author.Tests.{ltb-true, ltb-false}
use mathlib.Core.Path.{sym, ◌∙◌}
use Rattle.row.proofs.Rows.{source_first, source_second}
use Rattle.row.proofs.fetch.fetch_of.Goals as goal

pub returns-then-is_first : goal.returns-then-is_first
returns-then-is_first c =
    let a = c.args in
    rw (source_first a.s.now a.u.now a.word (ltb-true _ _ (sym c.is_first.ensures ∙ c.if-is_first.true))) c.fetch_from.ensures

pub returns : goal.returns
returns c =
    let a = c.args in
    rw (source_second a.s.now a.u.now a.word (ltb-false _ _ (sym c.is_first.ensures ∙ c.if-is_first.false))) c.fetch_from-2.ensures
