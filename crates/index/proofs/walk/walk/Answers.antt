use native.Mathlib.Omega.{arith}
use Rattle.bytestring.proofs.Tools.{bytes_of_lem}
use Rattle.index.proofs.PageSteps.{walk_says}
use borrow.Author.Rules.{rules}
use Rattle.index.proofs.walk.walk.Goals as goal

pub walk_page-requires : goal.walk_page-requires
walk_page-requires c =
    (search rules, bytes_of_lem c.args.s.now (λ i h. omega (arith, c.type_inv.s i)), search rules, search rules, search rules, search rules, search rules, search rules, search rules)

pub returns : goal.returns
returns c =
    let a = c.args in
    let w = c.walk_page in
    walk_says a.s.now a.index.now a.row.now _ w.result w.new.index w.new.row w.new.last w.ensures
