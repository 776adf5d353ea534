use native.Mathlib.Omega.{arith}
use Rattle.layout.proofs.Measures.{counted_none, counted_more, counted_all}
use Rattle.layout.proofs.runs.count_entries.Goals as goal

pub loop-i-init : goal.loop-i-init
loop-i-init c =
    let a = c.args in
    let r = c.run_end-i in
    (omega arith, r.ensures.to, r.ensures.stop, λ s u. counted_none s u a.row.now a.layer r.result a.hi)

pub loop-i-preserved : goal.loop-i-preserved
loop-i-preserved c =
    let l = c.loop-i in
    let r = c.run_end-i-in-loop-i in
    let h = c.loop-i-test.true in
    (omega (arith, l.invariant.0, r.ensures.from), r.ensures.to, r.ensures.stop, λ s u. counted_more (l.invariant.3 s u) r.result h (l.invariant.2 h) r.ensures)

pub returns : goal.returns
returns c =
    let l = c.loop-i in record {
      count = λ s u. counted_all (l.invariant.3 s u) c.args.lo c.run_end-i.ensures c.loop-i-test.false;
      few = omega (arith, l.invariant.0, l.invariant.1);
    }
