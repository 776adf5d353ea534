use borrow.Author.Rules.{rules}
use Prim.Native.Nat.{◌+◌, ◌≤◌}
use mathlib.Core.Path.{subst}
use native.Mathlib.Omega.{arith}
use Rattle.std.specs.Prelude.{Err}
use Rattle.sequence.specs.Noted.{SequenceSays}
use lib.ListN.{length}
use Rattle.sequence.proofs.Sequences.{page_ahead_lem, page_inside, left_low, sequence_begins, sequence_ends, sequence_stops, sequence_goes_on}
use Rattle.sequence.proofs.note_sequence.Goals as goal

pub loop-at-init : goal.loop-at-init
loop-at-init c = (search rules, search rules, search rules, search rules, search rules, search (rules, sequence_begins))

pub note_links_after-before-requires : goal.note_links_after-before-requires
note_links_after-before-requires c =
    let l = c.loop-at in
    let p = c.in_ok-p.p in
    let ahead : l.at + p.count + 2 ≤ p.end = search (rules, page_ahead_lem, c.in_ok-p.was) in
    let within : p.end ≤ length c.args.s.now = search (rules, page_inside, c.in_ok-p.was) in
    (search rules, omega (arith, ahead, within, l.invariant.4, c.requires))

pub note_link-count-requires : goal.note_link-count-requires
note_link-count-requires c =
    let l = c.loop-at in
    let p = c.in_ok-p.p in
    let ahead : l.at + p.count + 2 ≤ p.end = search (rules, page_ahead_lem, c.in_ok-p.was) in
    let within : p.end ≤ length c.args.s.now = search (rules, page_inside, c.in_ok-p.was) in
    let low : p.left ≤ length c.args.s.now = search (rules, left_low, c.in_ok-p.was) in
    (omega (arith, low, c.requires), omega (arith, ahead, within, l.invariant.4, c.note_links_after-before.ensures.few, c.requires))

pub loop-at-smaller : goal.loop-at-smaller
loop-at-smaller c =
    let l = c.loop-at in
    let p = c.in_ok-p.p in
    let ahead : l.at + p.count + 2 ≤ p.end = search (rules, page_ahead_lem, c.in_ok-p.was) in
    let within : p.end ≤ length c.args.s.now = search (rules, page_inside, c.in_ok-p.was) in
    omega (arith, ahead, within)

pub loop-at-preserved : goal.loop-at-preserved
loop-at-preserved c =
    let l = c.loop-at in
    let p = c.in_ok-p.p in
    let ahead : l.at + p.count + 2 ≤ p.end = search (rules, page_ahead_lem, c.in_ok-p.was) in
    let within : p.end ≤ length c.args.s.now = search (rules, page_inside, c.in_ok-p.was) in
    let few : c.note_link-count.result ≤ p.end =
    omega (arith, ahead, l.invariant.4, c.note_links_after-before.ensures.few, c.note_link-count.ensures.few) in
    (search rules, search rules, within, omega (arith, ahead, l.invariant.3), few, search (rules, sequence_goes_on, c.in_ok-p.was))

pub returns-in_err-p : goal.returns-in_err-p
returns-in_err-p c =
    let l = c.loop-at in
    let w = c.read_page in
    subst (λ r. SequenceSays c.args.s.now r l.links l.pages) {x = Err c.in_err-p.field-0.0} {y = c.from_residual.result} (search rules)
    (sequence_stops c.args.s.now l.links l.pages l.number l.count l.at l.invariant.5 c.loop-at-test.true w.result w.ensures c.in_err-p.field-0.0 c.in_err-p.was)

pub returns : goal.returns
returns c = search (rules, sequence_ends)
