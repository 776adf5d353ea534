use borrow.Author.Rules.{rules}
use native.Mathlib.Omega.{arith}
use Rattle.bytestring.proofs.Tools.{bytes_of_lem}
use Rattle.tree_keys.proofs.Firsts.{no_entries, first_lost, first_located}
use Rattle.tree_keys.proofs.own_first.Goals as goal

pub returns-then-count-eq0 : goal.returns-then-count-eq0
returns-then-count-eq0 c = search (rules, no_entries)

pub returns : goal.returns
returns c =
    let slice = bytes_of_lem c.args.sequence.now (λ i h. omega (arith, c.type_inv.sequence i)) in
    search (rules, first_located, slice)

pub returns-in_default : goal.returns-in_default
returns-in_default c =
    let slice = bytes_of_lem c.args.sequence.now (λ i h. omega (arith, c.type_inv.sequence i)) in
    search (rules, first_lost, slice)
