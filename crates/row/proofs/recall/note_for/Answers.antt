use borrow.Author.Rules.{rules}
use native.Mathlib.Omega.{arith}
use Rattle.row.proofs.Memories.{same_note, other_note}
use Rattle.row.proofs.recall.note_for.Goals as goal

pub returns-then-register_in : goal.returns-then-register_in
returns-then-register_in c = same_note c.args.word c.args.note (omega arith)

pub returns : goal.returns
returns c = search (rules, other_note)
