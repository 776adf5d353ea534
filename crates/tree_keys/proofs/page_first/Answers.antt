use borrow.Author.Rules.{rules}
use native.Mathlib.Omega.{arith}
use Rattle.bytestring.proofs.Tools.{bytes_of_lem}
use Rattle.tree_keys.proofs.Starts.{first_not_there, first_there}
use Rattle.tree_keys.proofs.page_first.Goals as goal

pub returns : goal.returns
returns c =
    let slice = bytes_of_lem c.args.sequence.now (λ i h. omega (arith, c.type_inv.sequence i)) in
    search (rules, first_there, slice)

pub returns-in_default : goal.returns-in_default
returns-in_default c = search (rules, first_not_there)
