use mathlib.Core.Path.{refl}
use Rattle.key.specs.Key.{ordinary}
use Rattle.key_calls.proofs.rule.is_ordinary_compared.Goals as goal

pub returns : goal.returns
unfolding ordinary
returns c = refl
