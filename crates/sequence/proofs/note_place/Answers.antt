use mathlib.Core.Path.{sym}
use native.Mathlib.Omega.{arith}
use lib.Seq.{set_out}
use Rattle.sequence.proofs.note_place.Goals as goal

pub returns-else-k-words : goal.returns-else-k-words
returns-else-k-words c = let a = c.args in sym (set_out a.words.now a.k a.at (omega arith))
