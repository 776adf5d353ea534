use mathlib.Core.Path.{ap}
use mathlib.Core.Bool.{not}
use native.Mathlib.Omega.{arith}
use Rattle.index.specs.Chain.{chains_right}
use Rattle.digests.proofs.RowLoops.{all_start, chain_fits, digests_end, digests_wrong, digests_more}
use borrow.Author.Rules.{rules}
use Rattle.digests.proofs.digests_hold.Goals as goal

pub loop-i-init : goal.loop-i-init
loop-i-init c = (search rules, search rules, all_start _ _ _ chains_right)

pub chain_holds-requires : goal.chain_holds-requires
chain_holds-requires c =
    let a = c.args in
    let l = c.loop-i in
    chain_fits a.s.now a.row.now a.n l.i l.invariant.1 c.loop-i-test.true

pub returns-then-not-chain_holds : goal.returns-then-not-chain_holds
returns-then-not-chain_holds c =
    let a = c.args in
    let l = c.loop-i in
    digests_wrong a.s.now a.row.now a.n l.i l.invariant.2 c.loop-i-test.true c.chain_holds.result c.chain_holds.ensures (ap not c.if-not-chain_holds.true)

pub loop-i-preserved : goal.loop-i-preserved
loop-i-preserved c =
    let a = c.args in
    let l = c.loop-i in
    (l.invariant.0, l.invariant.1, digests_more a.s.now a.row.now a.n l.i l.invariant.2 c.loop-i-test.true c.chain_holds.result c.chain_holds.ensures (ap not c.if-not-chain_holds.false))

pub returns : goal.returns
returns c =
    let a = c.args in
    let l = c.loop-i in
    digests_end a.s.now a.row.now a.n l.i l.invariant.2 (omega (arith, c.loop-i-test))
