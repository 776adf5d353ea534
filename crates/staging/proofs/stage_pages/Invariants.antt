use mathlib.Core.Path.{◌≡◌}
use lib.ListN.{length}
use Rattle.staging.proofs.Words.{PutTo}
use Rattle.staging.proofs.stage_pages.Given as goal

abbrev pub invariant-loop-i : goal.invariant-loop-i
invariant-loop-i l = (length l.words ≡ length l.initial.words) × PutTo l.chains l.words l.total l.i
