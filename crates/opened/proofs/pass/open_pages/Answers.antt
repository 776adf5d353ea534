use mathlib.Core.Path.{ap}
use mathlib.Core.Bool.{not}
use borrow.Author.Rules.{rules}
use mathlib.Core.Path.{sym}
use native.Mathlib.Omega.{arith}
use lib.Seq.{length-take-le}
use Rattle.bytestring.proofs.Tools.{bytes_of_lem}
use Rattle.opened.proofs.WholePass.{index_room, may_stage, none_opened, some_opened}
use Rattle.opened.proofs.pass.open_pages.Goals as goal

pub mark_known-opens-requires : goal.mark_known-opens-requires
mark_known-opens-requires c = (search rules, search rules, omega (arith, c.requires.1.few), search rules)

pub returns-then-not-opens : goal.returns-then-not-opens
returns-then-not-opens c =
    let a = c.args in
    let w = c.requires in
    let k = c.mark_known-opens in
    let bytes = bytes_of_lem a.s.now (λ i h. omega (arith, c.type_inv.s i)) in
    let others = bytes_of_lem a.u.now (λ i h. omega (arith, c.type_inv.u i)) in
    none_opened a.s.now a.known.now a.n a.u.now a.chains.now a.index.now a.m a.count bytes others w.0 w.1 w.2 _ k.result k.ensures (ap not c.if-not-opens.true) a.row.now

pub slice_bounds-stage_kept-end-2 : goal.slice_bounds-stage_kept-end-2
slice_bounds-stage_kept-end-2 c = sym (length-take-le c.args.count c.args.index.now c.requires.2.room)

pub stage_kept-requires : goal.stage_kept-requires
stage_kept-requires c =
    let a = c.args in
    let w = c.requires in
    let k = c.mark_known-opens in
    let bytes = bytes_of_lem a.s.now (λ i h. omega (arith, c.type_inv.s i)) in
    let others = bytes_of_lem a.u.now (λ i h. omega (arith, c.type_inv.u i)) in
    (index_room a.u.now a.index.now a.count others w.2 a.row.now w.3, may_stage a.s.now a.known.now a.n a.u.now a.chains.now a.index.now a.m a.count bytes others w.0 w.1 w.2 _ k.result k.ensures (ap not c.if-not-opens.false), search rules)

pub returns : goal.returns
returns c =
    let a = c.args in
    let w = c.requires in
    let k = c.mark_known-opens in
    let bytes = bytes_of_lem a.s.now (λ i h. omega (arith, c.type_inv.s i)) in
    let others = bytes_of_lem a.u.now (λ i h. omega (arith, c.type_inv.u i)) in
    some_opened a.s.now a.known.now a.n a.u.now a.chains.now a.index.now a.m a.count bytes others w.0 w.1 w.2 _ k.result k.ensures (ap not c.if-not-opens.false) _ c.stage_kept.result c.stage_kept.ensures
