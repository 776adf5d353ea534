use mathlib.Core.Path.{refl}
use Rattle.key_calls.specs.Inner.{has_bit}
use Rattle.key_calls.proofs.rule.has_bit.Goals as goal

pub returns : goal.returns
unfolding has_bit
returns c = refl
