use mathlib.Core.Path.{subst}
use native.Mathlib.Omega.{arith}
use Rattle.keeping.specs.Inner.{PassedOver}
use Rattle.keeping.proofs.Adding.{step_passes, step_goes_on, step_shares, next_places}
use Rattle.keeping.proofs.step.Goals as goal

pub returns-then-is_passed_over : goal.returns-then-is_passed_over
returns-then-is_passed_over c =
    let a = c.args in
    step_passes c.requires.to_keep.0 a.progress c.requires.to_keep.1 a.out.now
    (subst (PassedOver a.marks.now a.n a.progress.i) c.if-is_passed_over.true c.is_passed_over.ensures)
    c.past_page.result c.past_page.ensures

pub add_part-requires : goal.add_part-requires
add_part-requires c =
    let a = c.args in
    let rows = c.requires.to_keep.1 in
    let given = c.requires.to_keep.0 in
    let kept = subst (PassedOver a.marks.now a.n a.progress.i) c.if-is_passed_over.false c.is_passed_over.ensures in record {
      in_string = (
        next_places given a.progress rows a.out.now _ kept c.next_part-part.ensures a.out.now,
        omega (arith, rows.low, rows.pages, rows.words, given.few_pages, given.few_words),
      );
      last_in_string = c.requires.last_in_string;
    }

pub go_on-requires : goal.go_on-requires
go_on-requires c =
    let pre = c.requires.to_keep in
    (omega (arith, pre.1.pages, pre.0.few_pages), omega (arith, pre.1.words, pre.0.few_words))

pub returns : goal.returns
returns c =
    let v = c.add_part in
    let a = c.args in
    let kept = subst (PassedOver a.marks.now a.n a.progress.i) c.if-is_passed_over.false c.is_passed_over.ensures in
    step_goes_on c.requires.to_keep.0 a.progress c.requires.to_keep.1 a.out.now _ kept c.next_part-part.ensures _
    v.result v.ensures c.in_ok-end.end c.in_ok-end.was c.go_on.result c.go_on.ensures

pub returns-in_err-end : goal.returns-in_err-end
returns-in_err-end c =
    let v = c.add_part in
    let a = c.args in
    let kept = subst (PassedOver a.marks.now a.n a.progress.i) c.if-is_passed_over.false c.is_passed_over.ensures in
    rw c.from_residual.ensures (step_shares c.requires.to_keep.0 a.progress c.requires.to_keep.1 a.out.now _ kept c.next_part-part.ensures _
    v.result v.ensures c.in_err-end.was)
