use mathlib.Core.Path.{refl}
use borrow.Author.Rules.{rules}
use native.Mathlib.Omega.{arith}
use lib.ListN.{length-replicate}
use Rattle.std.proofs.lemmas.Grind.{common_steps, rows}
use Rattle.sha256.proofs.Blocks.{none, turn}
use Rattle.sha256.proofs.message.absorb.Goals as goal

pub returns-then-n-eq0 : goal.returns-then-n-eq0
returns-then-n-eq0 g c = none _ _ _ _ (omega arith)

pub loop-k-init : goal.loop-k-init
loop-k-init g c = (length-replicate g.row.WORDS 0, none _ _ _ _ refl)

pub loop-k-preserved : goal.loop-k-preserved
loop-k-preserved g c =
    let l = c.loop-k in
    (search rules, turn _ _ l.k _ l.x _ (grind (arith, common_steps, rows)) l.invariant.1 c.compress-x.ensures)
