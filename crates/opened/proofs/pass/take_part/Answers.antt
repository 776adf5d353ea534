use borrow.Author.Rules.{rules}
use Rattle.std.specs.Prelude.{None, Some}
use Rattle.opened.proofs.Parts.{filled_table, part_taken}
use Rattle.opened.proofs.pass.take_part.Goals as goal

pub lower_marks-requires : goal.lower_marks-requires
lower_marks-requires c = (filled_table c.fill-next.ensures, search rules, search rules, search rules)

pub is_known-requires : goal.is_known-requires
is_known-requires c = (filled_table c.fill-next.ensures, search rules, search rules)

pub returns-then-is_known : goal.returns-then-is_known
returns-then-is_known c =
    let a = c.args in
    part_taken a.s.now a.known.now a.n a.start a.root.now a.u.now a.chains.now a.m a.top.now a.marks.now _ _ _ c.fill-next.result c.is_known.result c.fill-next.ensures c.lower_marks.ensures c.is_known.ensures None (rw c.if-is_known.true)

pub returns : goal.returns
returns c =
    let a = c.args in
    part_taken a.s.now a.known.now a.n a.start a.root.now a.u.now a.chains.now a.m a.top.now a.marks.now _ _ _ c.fill-next.result c.is_known.result c.fill-next.ensures c.lower_marks.ensures c.is_known.ensures (Some c.fill-next.result) (rw c.if-is_known.false)
