use borrow.Author.Rules.{rules}
use native.Mathlib.Omega.{arith}
use Rattle.staging.proofs.Places.{root_start, chain_start}
use Rattle.staging.proofs.page_start.Goals as goal

pub returns-then-word-lt-FROM_CHAINS : goal.returns-then-word-lt-FROM_CHAINS
returns-then-word-lt-FROM_CHAINS c = search (rules, root_start)

pub bounds-chains-number : goal.bounds-chains-number
bounds-chains-number c = omega (arith, c.requires.chain c.if-word-lt-FROM_CHAINS.false)

pub overflow_sub-result : goal.overflow_sub-result
overflow_sub-result c = omega (arith, c.above_in.ensures, c.requires.label c.if-word-lt-FROM_CHAINS.false)

pub overflow_sub-result-2 : goal.overflow_sub-result-2
overflow_sub-result-2 c =
    omega (
      arith,
      c.above_in.ensures,
      c.page_in.ensures,
      c.requires.above c.if-word-lt-FROM_CHAINS.false,
    )

pub returns : goal.returns
returns c =
    let a = c.args in
    rw (c.page_in.ensures, c.above_in.ensures) (chain_start a.chains.now a.word c.if-word-lt-FROM_CHAINS.false)
