use borrow.Author.Rules.{rules}
use mathlib.Core.Path.{sym}
use native.Mathlib.Omega.{arith}
use lib.Seq.{length-take-le}
use Rattle.bytestring.proofs.Tools.{bytes_of_lem}
use Rattle.row.proofs.Searching.{search_begins, search_ends, search_over, search_above, search_below, search_meets}
use Rattle.row.proofs.search.search.Goals as goal

pub loop-low-init : goal.loop-low-init
loop-low-init c =
    let bytes = bytes_of_lem c.args.s.now (λ i h. omega (arith, c.type_inv.s i)) in
    (search rules, search rules, search rules, search rules, bytes, search (rules, search_begins))

pub returns-then-size-gt-LONGEST_KEY : goal.returns-then-size-gt-LONGEST_KEY
returns-then-size-gt-LONGEST_KEY c =
    record {
      says = search (rules, search_over);
      fits = search rules;
    }

pub slice_bounds-compare-end : goal.slice_bounds-compare-end
slice_bounds-compare-end c = sym (length-take-le _ _ (search rules))

pub loop-low-preserved-in-Less : goal.loop-low-preserved-in-Less
loop-low-preserved-in-Less c =
    let l = c.loop-low in
    let narrowed = search_above _ _ _ _ _ _ l.invariant.5 l.invariant.1 l.invariant.4 l.invariant.2
    c.loop-low-test.true _ _ _ c.fetch_from-found.ensures
    (search rules) _ c.compare.ensures (search rules) in
    (search rules, search rules, search rules, search rules, search rules, narrowed)

pub returns-in-Equal : goal.returns-in-Equal
returns-in-Equal c =
    let l = c.loop-low in
    let met = search_meets _ _ _ _ _ _ l.invariant.5 l.invariant.1 l.invariant.4 l.invariant.2
    c.loop-low-test.true _ _ _ c.fetch_from-found.ensures
    (search rules) _ c.compare.ensures (search rules) in record {
      says = met;
      fits = search rules;
    }

pub loop-low-preserved : goal.loop-low-preserved
loop-low-preserved c =
    let l = c.loop-low in
    let narrowed = search_below _ _ _ _ _ _ l.invariant.5 l.invariant.1 l.invariant.4 l.invariant.2
    c.loop-low-test.true _ _ _ c.fetch_from-found.ensures
    (search rules) _ c.compare.ensures (search rules) in
    (search rules, search rules, search rules, search rules, search rules, narrowed)

pub returns : goal.returns
returns c =
    record {
      says = search (rules, search_ends);
      fits = search rules;
    }
