use Rattle.std.proofs.Common.{◌≡◌, ℕ, ◌+◌, ◌*◌, length, get_or}
use Rattle.rounds.specs.Inner.{Made}
use Rattle.rounds.proofs.schedule.schedule_at.Given as goal

abbrev pub invariant-loop-t : goal.invariant-loop-t
invariant-loop-t g l = (length l.r ≡ 64) × Made (λ (x : ℕ). get_or l.w (g.row.LANES * x + l.i) 0) l.t l.r
