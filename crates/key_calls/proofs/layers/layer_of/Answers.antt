use Rattle.fips180.specs.Hash.{sha256}
use Rattle.key.specs.Layer.{layer_of, layer_of_digest}
use Rattle.key_calls.proofs.layers.layer_of.Goals as goal

pub returns : goal.returns
unfolding sha256 layer_of_digest layer_of
returns c = rw (c.leading_zero_bits.ensures, c.digest_words.ensures)
