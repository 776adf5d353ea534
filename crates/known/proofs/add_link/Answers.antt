use borrow.Author.Rules.{rules}
use mathlib.Core.Path.{◌≡◌, ap, ◌∙◌}
use native.Mathlib.Omega.{arith}
use lib.ListN.{take, drop}
use Rattle.known.specs.Known.{first_bits}
use Rattle.bytestring.proofs.Tools.{part_is}
use Rattle.known.proofs.LinkTable.{link_fits, no_link_added, link_added}
use Rattle.known.proofs.add_link.Goals as goal

pub returns-then-at-eq0 : goal.returns-then-at-eq0
returns-then-at-eq0 c = search (rules, no_link_added)

pub overflow_add-at : goal.overflow_add-at
overflow_add-at c =
    let a = c.args in
    let h = link_fits a.s.now a.at c.requires.2 c.if-at-eq0.false in
    omega arith

pub slice_bounds-first_bits-end : goal.slice_bounds-first_bits-end
slice_bounds-first_bits-end c = search (rules, link_fits)

pub link_word-requires : goal.link_word-requires
link_word-requires c =
    let a = c.args in
    let h = link_fits a.s.now a.at c.requires.2 c.if-at-eq0.false in
    omega (arith, c.requires.0.places)

pub returns : goal.returns
returns c =
    let a = c.args in
    let pre = c.requires in
    let bits : c.first_bits-bits.result ≡ first_bits (take 32 (drop a.at a.s.now)) =
    c.first_bits-bits.ensures.0 ∙ ap first_bits (part_is a.s.now a.at 32) in
    link_added a.s.now a.heads.now a.words.now a.count a.at c.first_bits-bits.result _ pre.0 pre.1 pre.2 c.if-at-eq0.false bits c.first_bits-bits.ensures.1 c.link_word.ensures
