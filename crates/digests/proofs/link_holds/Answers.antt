use Rattle.digests.proofs.link_holds.Goals as goal

pub returns : goal.returns
returns c = rw (← c.digest_of-digest.ensures) c.same_digest.ensures
