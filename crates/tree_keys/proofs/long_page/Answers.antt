use borrow.Author.Rules.{rules}
use native.Mathlib.Omega.{arith}
use Rattle.bytestring.proofs.Tools.{bytes_of_lem}
use Rattle.tree_keys.proofs.LastWays.{last_begins, last_arrived, end_leads, last_goes_on}
use Rattle.tree_keys.proofs.long_page.Goals as goal

pub loop-steps-init : goal.loop-steps-init
loop-steps-init c =
    let slice = bytes_of_lem c.args.sequence.now (λ i h. omega (arith, c.type_inv.sequence i)) in
    let pre = c.requires in
    (search rules, pre.2, search rules, slice, last_begins _ _ _ _ _ _ slice pre.1)

pub bounds-pages-c : goal.bounds-pages-c
bounds-pages-c c = omega (arith, c.requires.0.1.page_room, c.loop-steps.invariant.0)

pub returns-then-is_long : goal.returns-then-is_long
returns-then-is_long c =
    record {
      number = search rules;
      same = search (rules, last_arrived);
    }

pub returns-then-link-eq0 : goal.returns-then-link-eq0
returns-then-link-eq0 c =
    record {
      number = search rules;
      same = search (rules, last_arrived);
    }

pub linked_page-c-requires : goal.linked_page-c-requires
linked_page-c-requires c = search (rules, end_leads)

pub loop-steps-preserved : goal.loop-steps-preserved
loop-steps-preserved c = (search rules, search rules, search rules, search rules, search (rules, last_goes_on))

pub returns : goal.returns
returns c =
    record {
      number = search rules;
      same = search (rules, last_arrived);
    }
