use native.Mathlib.Omega.{arith}
use Rattle.writer.proofs.Whole.{cleared_behind}
use Rattle.state_outputs.proofs.Finishing.{saved_as, length_refused, length_long, length_done}
use Rattle.state_outputs.proofs.finish.finish_length.Goals as goal

pub returns-then-size-gt-LONGEST : goal.returns-then-size-gt-LONGEST
returns-then-size-gt-LONGEST c = λ o ps b. saved_as (length_long b c.in-Ok.is (omega (arith, c.if-size-gt-LONGEST.true))) c.refuse_both.ensures

pub returns-else-size-gt-LONGEST : goal.returns-else-size-gt-LONGEST
returns-else-size-gt-LONGEST c =
    λ o ps b.
    length_done b c.in-Ok.is (omega (arith, c.if-size-gt-LONGEST.false)) c.requires _
    (cleared_behind c.args.pages.now _ c.args.size c.requires c.clear.ensures)

pub returns-in-Err : goal.returns-in-Err
returns-in-Err c = λ o ps b. saved_as (length_refused b c.in-Err.is) c.refuse_both-in-Err.ensures
