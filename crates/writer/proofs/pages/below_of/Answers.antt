use mathlib.Core.Path.{sym}
use lib.Seq.{length-take-le}
use Rattle.writer.specs.Wrote.{below_of}
use Rattle.writer.proofs.pages.below_of.Goals as goal

pub slice_bounds-page_digest-end : goal.slice_bounds-page_digest-end
slice_bounds-page_digest-end c =
    let a = c.args in
    sym (length-take-le a.w.own a.out.now c.requires.3)

pub returns : goal.returns
unfolding below_of
returns c = rw c.page_digest-digest.ensures
