use mathlib.Core.Bool.{true, false}
use borrow.Author.Rules.{rules}
use mathlib.Core.Path.{refl, ap, ◌∙◌}
use native.Mathlib.Omega.{arith}
use lib.ListN.{length}
use Rattle.bytestring.proofs.Tools.{bytes_of_lem}
use Rattle.fips180.proofs.Laws.{length_sha256}
use Rattle.tree.specs.Table.{bytes_of_page}
use Rattle.known.proofs.Labels.{row_few}
use Rattle.opened.proofs.Parts.{some_chains, some_marks, later_marks, first_goes_on, first_known, next_goes_on, next_known, all_taken, stopped}
use Rattle.opened.proofs.pass.mark_known.Goals as goal

pub begin_marks-requires : goal.begin_marks-requires
begin_marks-requires c =
    let a = c.args in
    let others = bytes_of_lem a.u.now (λ i h. omega (arith, c.type_inv.u i)) in
    (search rules, search rules, λ i h. row_few a.u.now a.chains.now a.m i h (some_chains a.u.now a.chains.now a.m others c.requires.1))

pub take_part-requires : goal.take_part-requires
take_part-requires c =
    let a = c.args in
    let bytes = bytes_of_lem a.s.now (λ i h. omega (arith, c.type_inv.s i)) in
    let others = bytes_of_lem a.u.now (λ i h. omega (arith, c.type_inv.u i)) in
    (some_chains a.s.now a.known.now a.n bytes c.requires.0, omega arith, refl, refl, omega (arith, c.requires.3), search rules, some_marks a.u.now a.chains.now a.m _ others c.requires.1 c.begin_marks.ensures, search rules, search rules)

pub returns-in_default : goal.returns-in_default
returns-in_default c =
    let a = c.args in
    let bytes = bytes_of_lem a.s.now (λ i h. omega (arith, c.type_inv.s i)) in
    let others = bytes_of_lem a.u.now (λ i h. omega (arith, c.type_inv.u i)) in
    let p = c.take_part in
    stopped a.s.now a.known.now a.n a.u.now a.chains.now a.m c.root_digest-root.result c.root_digest-top.result _ p.ensures.next false (first_known a.s.now a.known.now a.n a.u.now a.chains.now a.m c.root_digest-root.result c.root_digest-top.result _ _ p.result c.begin_marks.ensures p.ensures c.in_default.is) c.requires.0 c.requires.1 bytes others c.root_digest-root.ensures c.root_digest-top.ensures refl

pub loop-done-init : goal.loop-done-init
loop-done-init c =
    let a = c.args in
    let p = c.take_part in
    let w = c.requires in
    let Begun-kept = c.begin_marks.auto in
    let taken-kept = p.auto in
    let fits = w.2 in
    let first = first_goes_on a.s.now a.known.now a.n a.u.now a.chains.now a.m c.root_digest-root.result c.root_digest-top.result _ _ p.result c.begin_marks.ensures p.ensures _ c.in-Some.is in
    (first.0, search rules, search rules, search rules, omega arith, ap length (c.root_digest-root.ensures w.0.tree w.0.judged) ∙ length_sha256 (bytes_of_page w.0.tree), ap length (c.root_digest-top.ensures w.1.tree w.1.judged) ∙ length_sha256 (bytes_of_page w.1.tree), first.1)

pub take_part-requires-in-loop-done : goal.take_part-requires-in-loop-done
take_part-requires-in-loop-done c =
    let a = c.args in
    let bytes = bytes_of_lem a.s.now (λ i h. omega (arith, c.type_inv.s i)) in
    let others = bytes_of_lem a.u.now (λ i h. omega (arith, c.type_inv.u i)) in
    let l = c.loop-done in
    (some_chains a.s.now a.known.now a.n bytes c.requires.0, omega arith, search rules, search rules, omega (arith, c.requires.3), search rules, later_marks a.s.now a.known.now a.n a.u.now a.chains.now a.m c.root_digest-root.result c.root_digest-top.result l.marks l.done true l.invariant.7 bytes others c.requires.0 c.requires.1, search rules, search rules)

pub returns-in_default-take_part : goal.returns-in_default-take_part
returns-in_default-take_part c =
    let a = c.args in
    let bytes = bytes_of_lem a.s.now (λ i h. omega (arith, c.type_inv.s i)) in
    let others = bytes_of_lem a.u.now (λ i h. omega (arith, c.type_inv.u i)) in
    let l = c.loop-done in
    let p = c.take_part-in-loop-done in
    stopped a.s.now a.known.now a.n a.u.now a.chains.now a.m c.root_digest-root.result c.root_digest-top.result _ p.ensures.next false (next_known a.s.now a.known.now a.n a.u.now a.chains.now a.m c.root_digest-root.result c.root_digest-top.result l.marks _ l.done p.result l.invariant.7 p.ensures c.in_default-take_part.is) c.requires.0 c.requires.1 bytes others c.root_digest-root.ensures c.root_digest-top.ensures refl

pub loop-done-smaller : goal.loop-done-smaller
loop-done-smaller c =
    let a = c.args in
    let l = c.loop-done in
    let p = c.take_part-in-loop-done in
    let on = next_goes_on a.s.now a.known.now a.n a.u.now a.chains.now a.m c.root_digest-root.result c.root_digest-top.result l.marks _ l.done p.result l.invariant.7 p.ensures _ c.in-Some-take_part.is in
    omega (arith, on.1 (omega arith), on.0)

pub loop-done-preserved : goal.loop-done-preserved
loop-done-preserved c =
    let a = c.args in
    let l = c.loop-done in
    let p = c.take_part-in-loop-done in
    let on = next_goes_on a.s.now a.known.now a.n a.u.now a.chains.now a.m c.root_digest-root.result c.root_digest-top.result l.marks _ l.done p.result l.invariant.7 p.ensures _ c.in-Some-take_part.is in
    (on.0, search rules, search rules, search rules, search rules, search rules, search rules, on.2)

pub returns : goal.returns
returns c =
    let a = c.args in
    let bytes = bytes_of_lem a.s.now (λ i h. omega (arith, c.type_inv.s i)) in
    let others = bytes_of_lem a.u.now (λ i h. omega (arith, c.type_inv.u i)) in
    let l = c.loop-done in
    all_taken a.s.now a.known.now a.n a.u.now a.chains.now a.m c.root_digest-root.result c.root_digest-top.result l.marks l.done true l.invariant.7 c.requires.0 c.requires.1 bytes others c.root_digest-root.ensures c.root_digest-top.ensures (omega arith)
