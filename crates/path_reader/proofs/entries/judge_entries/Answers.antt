use borrow.Author.Rules.{rules}
use native.Mathlib.Omega.{arith}
use Rattle.bytestring.proofs.Tools.{bytes_of_lem}
use Rattle.path_reader.proofs.Rows.{key_inside, shares_small, size_small, onward_start, onward_end, onward_there, onward_entry}
use Rattle.path_reader.proofs.entries.judge_entries.Goals as goal

pub loop-i-init : goal.loop-i-init
loop-i-init c =
    let s = c.args.s.now in
    let bytes = bytes_of_lem s (λ i h. omega (arith, c.type_inv.s i)) in
    search (rules, onward_start)

pub prefix_fits-fits-requires : goal.prefix_fits-fits-requires
prefix_fits-fits-requires c = search (rules, key_inside)

pub rises-rising-requires : goal.rises-rising-requires
rises-rising-requires c = search (rules, key_inside)

pub extend_key-size-requires : goal.extend_key-size-requires
extend_key-size-requires c = (search (rules, key_inside), search (rules, shares_small), search (rules, size_small))

pub loop-i-preserved : goal.loop-i-preserved
loop-i-preserved c = search (rules, onward_entry)

pub returns-in_default : goal.returns-in_default
returns-in_default c = search (rules, onward_there)

pub returns : goal.returns
returns c = search (rules, onward_end)
