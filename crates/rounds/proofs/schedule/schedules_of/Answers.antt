use Rattle.std.proofs.Common.{arith, ap, ◌∙◌, ◌*◌, ◌≡◌, ℕ}
use Rattle.rounds.proofs.Making.{made_at}
use Rattle.rounds.proofs.schedule.schedules_of.Goals as goal

pub returns : goal.returns
returns g c =
    let l = c.loop-k in
    let e : l.k ≡ 8 = omega arith in
    let n : 8 * g.row.LANES * 8 ≡ 64 * g.row.LANES = omega arith in
    made_at _ l.w (ap (λ (x : ℕ). 8 * g.row.LANES * x) e ∙ n) l.invariant
