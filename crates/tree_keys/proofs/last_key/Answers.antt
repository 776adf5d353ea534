use borrow.Author.Rules.{rules}
use mathlib.Core.Path.{◌≡◌}
use native.Mathlib.Omega.{arith}
use lib.ListN.{length}
use Rattle.bytestring.proofs.Tools.{bytes_of_lem}
use Rattle.limits.specs.Limits.{longest_key}
use Rattle.tree_keys.proofs.LastWays.{last_begins, last_too_deep, end_leads, last_own_key, last_goes_on}
use Rattle.tree_keys.proofs.last_key.Goals as goal

pub loop-steps-init : goal.loop-steps-init
loop-steps-init c =
    let slice = bytes_of_lem c.args.sequence.now (λ i h. omega (arith, c.type_inv.sequence i)) in
    let pre = c.requires in
    (search rules, pre.2, search rules, slice, last_begins _ _ _ _ _ _ slice pre.1)

pub bounds-pages-c : goal.bounds-pages-c
bounds-pages-c c = omega (arith, c.requires.0.1.page_room, c.loop-steps.invariant.0)

pub returns-then-link-eq0 : goal.returns-then-link-eq0
returns-then-link-eq0 c =
    let inv = c.loop-steps.invariant in
    let walk = c.walk_last-end in
    let room : length walk.new.last ≡ longest_key = search rules in record {
      short = search rules;
      says = last_own_key _ _ _ _ _ _ _ _ inv.4 inv.0 _ c.word_place-at.ensures _ _ walk.ensures.says inv.3 c.if-link-eq0.true room _ (λ h. grind (arith, c.min.ensures));
    }

pub linked_page-c-requires : goal.linked_page-c-requires
linked_page-c-requires c = search (rules, end_leads)

pub loop-steps-preserved : goal.loop-steps-preserved
loop-steps-preserved c = (search rules, search rules, search rules, search rules, search (rules, last_goes_on))

pub returns : goal.returns
returns c =
    record {
      short = search rules;
      says = search (rules, last_too_deep);
    }
