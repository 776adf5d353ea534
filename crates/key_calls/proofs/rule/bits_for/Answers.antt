use borrow.Author.Rules.{rules}
use mathlib.Core.Path.{refl}
use Rattle.key.specs.Key.{ordinary}
use Rattle.key_calls.specs.Inner.{has_bit}
use Rattle.key_calls.proofs.RuleLaws.{agrees, word_told}
use Rattle.key_calls.proofs.rule.bits_for.Goals as goal

-- antt compares each word with ordinary at its bytes
pub returns-in-0-to-63 : goal.returns-in-0-to-63
returns-in-0-to-63 c = word_told _ 0 64 _ (unfold agrees has_bit ordinary in refl) (search rules) (search rules)

pub returns-in-64-to-127 : goal.returns-in-64-to-127
returns-in-64-to-127 c = word_told _ 64 64 _ (unfold agrees has_bit ordinary in refl) (search rules) (search rules)

pub returns-in_default : goal.returns-in_default
returns-in_default c = word_told _ 128 128 _ (unfold agrees has_bit ordinary in refl) (search rules) (search rules)
