use mathlib.Core.Path.{refl}
use native.Mathlib.Omega.{arith}
use Rattle.choice.proofs.cursor.cursor_at.Goals as goal

pub returns-then-n-at : goal.returns-then-n-at
returns-then-n-at c = (refl, record { remembers = c.requires.1; recalls = λ h. absurd (omega arith) })

pub recall-found-requires : goal.recall-found-requires
recall-found-requires c =
    let p = c.requires in
    (p.0.first, p.0.second, (p.0.stands c.args.at (omega arith)).held, p.1, omega arith, omega arith)

pub returns : goal.returns
returns c = (refl, record { remembers = c.recall-found.ensures.remembers; recalls = λ h. c.recall-found.ensures })
