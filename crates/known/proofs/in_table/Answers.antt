use borrow.Author.Rules.{rules}
use Prim.Native.Nat.{◌-◌, ◌<◌}
use native.Mathlib.Omega.{arith}
use lib.ListN.{length}
use Rattle.known.proofs.LinkTable.{seeking_begins, not_in_table, number_within, number_falls, is_in_table, seeking_goes_on}
use Rattle.known.proofs.in_table.Goals as goal

pub overflow_cast-n : goal.overflow_cast-n
overflow_cast-n c = omega (arith, c.type_inv.heads c.first_bits.result)

pub loop-n-init : goal.loop-n-init
loop-n-init c = search (rules, seeking_begins)

pub offset_bounds-words-n : goal.offset_bounds-words-n
offset_bounds-words-n c =
    let h : c.loop-n.n - 1 < length c.args.words.now = search (rules, number_within) in
    search rules

pub bounds-words-n : goal.bounds-words-n
bounds-words-n c = search (rules, number_within)

pub returns-then-same_digest : goal.returns-then-same_digest
returns-then-same_digest c = search (rules, is_in_table)

pub loop-n-smaller : goal.loop-n-smaller
loop-n-smaller c = search (rules, number_falls)

pub loop-n-preserved : goal.loop-n-preserved
loop-n-preserved c = search (rules, seeking_goes_on)

pub returns : goal.returns
returns c = search (rules, not_in_table)
