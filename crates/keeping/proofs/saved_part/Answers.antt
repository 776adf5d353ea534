use mathlib.Core.Path.{refl}
use Rattle.keeping.proofs.Naming.{saved_stands}
use Rattle.keeping.proofs.saved_part.Goals as goal

pub returns : goal.returns
returns c =
    let from = c.page_start.ensures in
    let to = c.page_end.ensures in
    (refl, saved_stands c.requires.0 c.requires.1 _ _ _ from to c.word_digest.ensures)
