use mathlib.Core.Path.{refl, ◌∙◌}
use native.Mathlib.Omega.{arith}
use Rattle.bytestring.proofs.Tools.{bytes_of_lem}
use Rattle.filing.proofs.Places.{page_read_at, page_digest}
use Rattle.filing.proofs.hash_page.Goals as goal

pub overflow_cast-at : goal.overflow_cast-at
overflow_cast-at c = omega (arith, c.type_inv.pages c.args.i)

pub slice_bounds-digest_of-count : goal.slice_bounds-digest_of-count
slice_bounds-digest_of-count c = omega (arith, c.page_end-end.ensures, (page_read_at c.requires.0 c.args.i c.requires.1).ahead)

pub slice_bounds-digest_of-start : goal.slice_bounds-digest_of-start
slice_bounds-digest_of-start c = omega (arith, c.page_end-end.ensures, (page_read_at c.requires.0 c.args.i c.requires.1).ahead)

pub slice_bounds-digest_of-end : goal.slice_bounds-digest_of-end
slice_bounds-digest_of-end c = omega (arith, c.page_end-end.ensures, (page_read_at c.requires.0 c.args.i c.requires.1).within)

pub returns : goal.returns
returns c g =
    let known = c.shared_slice_known-1 in
    let bytes = bytes_of_lem c.args.sequence.now (λ i h. omega (arith, c.type_inv.sequence i)) in
    c.digest_of.ensures ∙ page_digest g c.args.i c.requires.1 bytes _ _ refl c.page_end-end.ensures
