use Rattle.choice.proofs.cursor.advance.Goals as goal

pub returns-then-moves : goal.returns-then-moves
returns-then-moves c = rw c.if-moves.true c.cursor_at.ensures
