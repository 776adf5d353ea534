use mathlib.Core.Path.{refl}
use native.Mathlib.Omega.{arith}
use Rattle.index.proofs.words.note.Goals as goal

pub returns-then-k-index : goal.returns-then-k-index
returns-then-k-index c = record { room = λ h. (c.record_word.result, refl, c.record_word.ensures); full = λ h. absurd (omega arith) }

pub returns-else-k-index : goal.returns-else-k-index
returns-else-k-index c = record { room = λ h. absurd (omega arith); full = λ h. refl }
