use borrow.Author.Rules.{rules}
use native.Mathlib.Omega.{arith}
use Rattle.bytestring.proofs.Tools.{bytes_of_lem}
use Rattle.row.proofs.Ways.{located_inside, located_shares, located_size, nearer, way_begins, no_way, way_on, way_stops, way_ends, way_breaks}
use Rattle.row.proofs.fetch.fetch_from.Goals as goal

pub loop-at-init : goal.loop-at-init
loop-at-init c =
    let bytes = bytes_of_lem c.args.s.now (λ i h. omega (arith, c.type_inv.s i)) in
    (search rules, bytes, search rules, search rules, way_begins _ _ _ _ _ c.way_to.ensures _ _ c.in-Some.is _)

pub extend_key-size-requires : goal.extend_key-size-requires
extend_key-size-requires c = (search (rules, located_inside), search (rules, located_shares), search (rules, located_size))

pub loop-at-smaller : goal.loop-at-smaller
loop-at-smaller c = search (rules, nearer)

pub loop-at-preserved : goal.loop-at-preserved
loop-at-preserved c = (search rules, search rules, search rules, search rules, search (rules, way_on))

pub returns-in_default-locate_entry : goal.returns-in_default-locate_entry
returns-in_default-locate_entry c = search (rules, way_stops)

pub extend_key-requires : goal.extend_key-requires
extend_key-requires c = (search (rules, located_inside), search (rules, located_shares), search (rules, located_size))

pub returns : goal.returns
returns c = search (rules, way_ends)

pub returns-in_default-locate_entry-2 : goal.returns-in_default-locate_entry-2
returns-in_default-locate_entry-2 c = search (rules, way_breaks)

pub returns-in_default : goal.returns-in_default
returns-in_default c = search (rules, no_way)
