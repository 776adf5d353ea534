use borrow.Author.Rules.{rules}
use Prim.Native.Nat.{◌≤◌}
use native.Mathlib.Omega.{arith}
use lib.ListN.{length}
use Rattle.bytestring.proofs.Tools.{bytes_of_lem}
use Rattle.sequence.proofs.Links.{link_low, links_begin, links_end, links_stop, links_go_on}
use Rattle.sequence.proofs.note_links_after.Goals as goal

pub loop-i-init : goal.loop-i-init
loop-i-init c =
    let bytes = bytes_of_lem c.args.s.now (λ i h. omega (arith, c.type_inv.s i)) in
    (search rules, search rules, bytes, search (rules, links_begin))

pub note_link-total-requires : goal.note_link-total-requires
note_link-total-requires c =
    let l = c.loop-i in
    let low : c.in-Ok.e.link ≤ length c.args.s.now = search (rules, link_low) in
    (omega (arith, low, c.requires.0), omega (arith, c.loop-i-test.true, l.invariant.1, c.requires.1))

pub returns-in_default : goal.returns-in_default
returns-in_default c =
    record {
      few = search rules;
      noted = search (rules, links_stop);
    }

pub loop-i-preserved : goal.loop-i-preserved
loop-i-preserved c = (search rules, search rules, search rules, search (rules, links_go_on))

pub returns : goal.returns
returns c =
    record {
      few = search rules;
      noted = search (rules, links_end);
    }
