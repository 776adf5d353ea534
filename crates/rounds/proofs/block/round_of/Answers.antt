use Rattle.fips180.specs.Words.{◌⊞◌, Ch, Σ1}
use Rattle.fips180.specs.Hash.{round}
use Rattle.rounds.proofs.RoundLaws.{no_constant}
use Rattle.rounds.proofs.block.round_of.Goals as goal

pub returns : goal.returns
unfolding round
returns c =
    let s = c.args.s in
    rw (c.maj.ensures, c.big_sigma_0.ensures, c.ch_of.ensures, c.big_sigma_1.ensures, no_constant (s.h ⊞ Σ1 s.e) (Ch s.e s.f s.g))
