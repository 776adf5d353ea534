use mathlib.Core.Path.{sym, ◌∙◌}
use native.Mathlib.Omega.{arith}
use borrow.Author.Tests.{lt-leb}
use Rattle.word.specs.Word.{from_in, records_in}
use Rattle.path_writer.proofs.Covering.{covers_before, covers_from}
use Rattle.path_writer.proofs.pages.chain_covers.Goals as goal

pub returns-then-from-low : goal.returns-then-from-low
returns-then-from-low c =
    let a = c.args in
    rw (c.from_in-from.ensures, c.records_in.ensures)
    (sym (covers_from a.low a.high (from_in a.span) (records_in a.span) (omega (arith, c.from_in-from.ensures, c.if-from-low.true))))

pub returns-else-from-low : goal.returns-else-from-low
returns-else-from-low c =
    let a = c.args in
    lt-leb c.from_in-from.result a.low (omega (arith, c.if-from-low.false))
    ∙ sym (covers_before a.low a.high (from_in a.span) (records_in a.span) (omega (arith, c.from_in-from.ensures, c.if-from-low.false)))
