use borrow.Author.Rules.{rules}
use native.Mathlib.Omega.{arith}
use Rattle.bytestring.proofs.Tools.{bytes_of_lem}
use Rattle.tree_keys.proofs.Lasts.{page_end_lost, entries_end, page_end_lem}
use Rattle.tree_keys.proofs.walk_last.Goals as goal

pub spell_last-requires : goal.spell_last-requires
spell_last-requires c = (λ z. absurd (omega arith), search rules)

pub returns-then-count-gt0 : goal.returns-then-count-gt0
returns-then-count-gt0 c =
    let slice = bytes_of_lem c.args.sequence.now (λ i h. omega (arith, c.type_inv.sequence i)) in record {
      within = search rules;
      says = search (rules, entries_end, slice);
    }

pub spell_last-requires-2 : goal.spell_last-requires-2
spell_last-requires-2 c = ((c.read_left-left.ensures 0).within, search rules)

pub returns : goal.returns
returns c =
    let slice = bytes_of_lem c.args.sequence.now (λ i h. omega (arith, c.type_inv.sequence i)) in record {
      within = search rules;
      says = search (rules, page_end_lem, slice);
    }

pub returns-in_default : goal.returns-in_default
returns-in_default c =
    record {
      within = λ z. absurd (omega arith);
      says = search (rules, page_end_lost);
    }
