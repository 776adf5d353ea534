use native.Mathlib.Omega.{arith}
use Rattle.row.proofs.Ways.{from_note}
use Rattle.row.proofs.fetch.way_to.Goals as goal

pub returns-then-next-eq0 : goal.returns-then-next-eq0
returns-then-next-eq0 c = c.first_of.ensures c.args.entry c.args.note

pub returns : goal.returns
returns c =
    let a = c.args in
    rw (c.entry_in-next.ensures, c.size_in.ensures) (from_note a.s.now a.page a.entry a.note (omega arith) (omega arith) (omega arith))
