use mathlib.Core.Path.{◌∙◌}
use Rattle.key_calls.proofs.rule.is_ordinary.Goals as goal

pub returns : goal.returns
returns c = c.has_bit.ensures ∙ c.bits_for.ensures
