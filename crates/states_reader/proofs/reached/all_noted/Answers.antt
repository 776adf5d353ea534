use mathlib.Core.Path.{◌≡◌}
use native.Mathlib.Omega.{arith}
use lib.Dec.{eqb}
use borrow.Author.Tests.{eqb-true, eqb-false}
use borrow.Table.Steps.{cases}
use Rattle.states_reader.proofs.reached.all_noted.Goals as goal

pub loop-c-preserved : goal.loop-c-preserved
loop-c-preserved c =
    let l = c.loop-c in
    λ i h. cases (eqb i l.c)
    (λ q. let e : i ≡ l.c = eqb-true i l.c q in rw e (omega (arith, c.word_note.ensures, c.if-word_note-eq0.false)))
    (λ q. l.invariant i (omega (arith, eqb-false i l.c q)))
