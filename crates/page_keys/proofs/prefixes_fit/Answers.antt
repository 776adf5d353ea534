use borrow.Author.Rules.{rules}
use native.Mathlib.Omega.{arith}
use Rattle.bytestring.proofs.Tools.{bytes_of_lem}
use Rattle.page_keys.proofs.Entries.{entry_inside, shares_small, size_small}
use Rattle.page_keys.proofs.Prefixes.{row_none, row_all, row_stops, row_wrong, row_more}
use Rattle.page_keys.proofs.prefixes_fit.Goals as goal

pub loop-i-init : goal.loop-i-init
loop-i-init c =
    let bytes = bytes_of_lem c.args.s.now (λ i h. omega (arith, c.type_inv.s i)) in
    (search rules, search rules, bytes, search (rules, row_none))

pub prefix_fits-requires : goal.prefix_fits-requires
prefix_fits-requires c = search (rules, entry_inside)

pub returns-then-not-prefix_fits : goal.returns-then-not-prefix_fits
returns-then-not-prefix_fits c = search (rules, row_wrong)

pub extend_key-size-requires : goal.extend_key-size-requires
extend_key-size-requires c = (search (rules, entry_inside), search (rules, shares_small), search (rules, size_small))

pub returns-in_default : goal.returns-in_default
returns-in_default c = search (rules, row_stops)

pub loop-i-preserved : goal.loop-i-preserved
loop-i-preserved c = (search rules, search rules, search rules, search (rules, row_more))

pub returns : goal.returns
returns c = search (rules, row_all)
