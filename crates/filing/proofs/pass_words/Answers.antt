use mathlib.Core.Path.{ap}
use mathlib.Core.Bool.{not}
use native.Mathlib.Omega.{arith}
use borrow.Author.Rules.{rules}
use Rattle.filing.proofs.Passing.{is_named, not_named, none_passed, one_passed, passing_stops, all_passed}
use Rattle.filing.proofs.pass_words.Goals as goal

pub loop-k-init : goal.loop-k-init
loop-k-init c =
    let a = c.args in
    (search rules, none_passed a.states.now a.sequence.now a.words.now a.total a.j a.digest.now)

pub names_digest-requires : goal.names_digest-requires
names_digest-requires c =
    let l = c.loop-k in
    (c.requires.2 l.k l.invariant.0 c.loop-k-test.true, c.requires.3)

pub returns-then-not-names_digest : goal.returns-then-not-names_digest
returns-then-not-names_digest c =
    let a = c.args in
    let l = c.loop-k in
    let test = c.names_digest in
    passing_stops a.states.now a.sequence.now a.words.now a.total a.j a.digest.now l.k l.invariant.0 l.invariant.1
    (omega arith) (not_named _ a.digest.now test.result test.ensures (ap not c.if-not-names_digest.true))

pub loop-k-preserved : goal.loop-k-preserved
loop-k-preserved c =
    let a = c.args in
    let l = c.loop-k in
    let test = c.names_digest in
    let this = is_named _ a.digest.now test.result test.ensures (ap not c.if-not-names_digest.false) in (
      search rules,
      one_passed a.states.now a.sequence.now a.words.now a.total a.j a.digest.now l.k l.invariant.0 l.invariant.1 this,
    )

pub returns : goal.returns
returns c =
    let a = c.args in
    let l = c.loop-k in
    all_passed a.states.now a.sequence.now a.words.now a.total a.j a.digest.now l.k l.invariant.0 l.invariant.1 (omega (arith, c.requires.0))
