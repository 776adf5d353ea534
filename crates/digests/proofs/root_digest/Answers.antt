use mathlib.Core.Path.{sym, ap, ◌∙◌}
use lib.Seq.{length-take-le}
use Rattle.fips180.specs.Hash.{sha256}
use Rattle.digests.proofs.root_digest.Goals as goal

pub slice_bounds-digest_of-end : goal.slice_bounds-digest_of-end
slice_bounds-digest_of-end c =
    let end = c.root_end-end in
    sym (length-take-le end.result c.args.s.now end.ensures.within)

pub returns : goal.returns
returns c t e = c.digest_of.ensures ∙ ap sha256 (c.root_end-end.ensures.bytes t e)
