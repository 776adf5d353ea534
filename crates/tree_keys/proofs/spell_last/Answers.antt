use borrow.Author.Rules.{rules}
use native.Mathlib.Omega.{arith}
use Rattle.bytestring.proofs.Tools.{bytes_of_lem}
use Rattle.tree_keys.proofs.Lasts.{spelling_begins, spelling_ends, spelling_stops, spelling_goes_on, entry_link_within, remainder_within, few_shared, few_left}
use Rattle.tree_keys.proofs.spell_last.Goals as goal

pub loop-j-init : goal.loop-j-init
loop-j-init c =
    let slice = bytes_of_lem c.args.sequence.now (λ i h. omega (arith, c.type_inv.sequence i)) in
    (c.requires.1, search rules, c.requires.0, slice, search (rules, spelling_begins))

pub extend_key-size-requires : goal.extend_key-size-requires
extend_key-size-requires c = (search (rules, remainder_within), search (rules, few_shared), search (rules, few_left))

pub returns-in_default : goal.returns-in_default
returns-in_default c =
    record {
      within = search rules;
      says = search (rules, spelling_stops);
    }

pub loop-j-preserved : goal.loop-j-preserved
loop-j-preserved c =
    (search rules, search rules, search (rules, entry_link_within), search rules, search (rules, spelling_goes_on))

pub returns : goal.returns
returns c =
    record {
      within = search rules;
      says = search (rules, spelling_ends);
    }
