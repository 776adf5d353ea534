use mathlib.Core.Path.{refl}
use native.Mathlib.Omega.{arith}
use Rattle.index.proofs.words.note_chain.Goals as goal

pub returns-then-k-row : goal.returns-then-k-row
returns-then-k-row c =
    record { room = λ h. (c.record_word.result, c.span_word.result, refl, c.record_word.ensures, c.span_word.ensures); full = λ h. absurd (omega arith) }

pub returns-else-k-row : goal.returns-else-k-row
returns-else-k-row c = record { room = λ h. absurd (omega arith); full = λ h. refl }
