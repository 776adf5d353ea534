use mathlib.Core.Path.{ap}
use mathlib.Core.Bool.{not}
use native.Mathlib.Omega.{arith}
use Rattle.labels.proofs.Labels.{chain_is, label_stands}
use Rattle.labels.proofs.label_of.Goals as goal

pub slice_bounds-there-count : goal.slice_bounds-there-count
slice_bounds-there-count c =
    let labelled = c.requires.pages c.in_ok-i.i (chain_is _ _ _ c.find_chain.ensures _ c.in_ok-i.was) in
    omega (arith, labelled.ahead, c.end_in-to.ensures, c.page_in-from.ensures)

pub slice_bounds-there-start : goal.slice_bounds-there-start
slice_bounds-there-start c =
    let labelled = c.requires.pages c.in_ok-i.i (chain_is _ _ _ c.find_chain.ensures _ c.in_ok-i.was) in
    omega (arith, labelled.ahead, c.end_in-to.ensures, c.page_in-from.ensures)

pub slice_bounds-there-end : goal.slice_bounds-there-end
slice_bounds-there-end c =
    let labelled = c.requires.pages c.in_ok-i.i (chain_is _ _ _ c.find_chain.ensures _ c.in_ok-i.was) in
    omega (arith, labelled.within, c.end_in-to.ensures, c.page_in-from.ensures)

pub returns : goal.returns
returns c =
    let labelled = c.requires.pages c.in_ok-i.i (chain_is _ _ _ c.find_chain.ensures _ c.in_ok-i.was) in
    label_stands _ _ _ _ _ _ _ _ _ labelled c.link_in.ensures c.if-link_in-eq0.false c.page_in-from.ensures c.end_in-to.ensures
    c.same_bytes.ensures (ap not c.if-not-same_bytes.false) c.last_label.ensures
