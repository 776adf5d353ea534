use mathlib.Core.Path.{◌∙◌}
use borrow.Author.Tests.{le-leb}
use Rattle.layout.proofs.Holding.{short_fits}
use Rattle.layout.proofs.records.fits_after.Goals as goal

pub returns-then-room-ge-LONGEST_ENTRY : goal.returns-then-room-ge-LONGEST_ENTRY
returns-then-room-ge-LONGEST_ENTRY c =
    let a = c.args in
    le-leb _ _ c.if-room-ge-LONGEST_ENTRY.true ∙ short_fits a.previous.now a.keys.now a.from a.size a.linked a.room c.requires.1 c.if-room-ge-LONGEST_ENTRY.true
