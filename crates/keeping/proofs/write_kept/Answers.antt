use mathlib.Core.Path.{refl, subst, ◌∙◌}
use native.Mathlib.Omega.{arith}
use Rattle.keeping.specs.Inner.{StepSays}
use Rattle.keeping.proofs.Places.{sequence_start}
use Rattle.keeping.proofs.Parts.{if_some}
use Rattle.keeping.proofs.Ending.{nothing_written, written_shares, written_whole, written_short}
use Rattle.keeping.proofs.write_kept.Goals as goal

pub overflow_add-total : goal.overflow_add-total
overflow_add-total c = omega (arith, c.requires.few_pages, c.requires.few_words)

pub loop-turn-init : goal.loop-turn-init
loop-turn-init c =
    let a = c.args in (
      refl,
      refl,
      refl,
      record { pages = omega arith; words = omega arith; begins = sequence_start a.sequence.now; low = omega arith },
      λ raws f. nothing_written raws a.sequence.now a.marks.now a.n a.register.now a.root_end a.chains.now a.words.now a.m a.out.now,
    )

pub step-requires : goal.step-requires
step-requires c =
    let i = c.loop-turn.invariant in
    let l = c.loop-turn in record {
      to_keep = (c.requires, i.3, omega (arith, i.1, i.2, c.loop-turn-test.true));
      last_in_string = if_some l.progress.last (λ t e. ((i.4 _ c.requires.filed.1).last t e).stands.places);
    }

pub shape_of-out-in_default : goal.shape_of-out-in_default
shape_of-out-in_default c = c.step.auto.out ∙ c.loop-turn.invariant.0

pub returns-in_default : goal.returns-in_default
returns-in_default c =
    let a = c.args in
    let l = c.loop-turn in
    let v = c.step in
    let says = subst
    (λ r. StepSays a.states.now a.sequence.now a.labels.now a.marks.now a.n a.register.now a.root_end a.chains.now
    a.words.now a.m l.progress l.out r v.new.out)
    c.in_default.is v.ensures in
    λ raws qs f q.
    written_shares a.marks.now f q a.out.now v.new.out (says raws a.out.now f (l.invariant.4 raws f))
    (v.auto.out ∙ l.invariant.0)

pub loop-turn-preserved : goal.loop-turn-preserved
loop-turn-preserved c =
    let a = c.args in
    let l = c.loop-turn in
    let v = c.step in
    let says = subst
    (λ r. StepSays a.states.now a.sequence.now a.labels.now a.marks.now a.n a.register.now a.root_end a.chains.now
    a.words.now a.m l.progress l.out r v.new.out)
    c.in-Some.is v.ensures in (
      v.auto.out ∙ l.invariant.0,
      omega (arith, says.1, l.invariant.1),
      l.invariant.2,
      says.0,
      λ raws f. says.2 raws a.out.now f l.invariant.0 (l.invariant.4 raws f),
    )

pub shape_of-out-then-out-progress : goal.shape_of-out-then-out-progress
shape_of-out-then-out-progress c = c.loop-turn.invariant.0

pub returns-then-out-progress : goal.returns-then-out-progress
returns-then-out-progress c =
    let a = c.args in
    let l = c.loop-turn in
    let rows = l.invariant.3 in
    λ raws qs f q. written_short a.marks.now f q a.out.now l.progress l.out (l.invariant.4 raws f)
    (omega (arith, c.loop-turn-test, l.invariant.1, l.invariant.2, rows.pages, rows.words))
    (omega (arith, c.loop-turn-test, l.invariant.1, l.invariant.2, rows.pages, rows.words))
    (omega (arith, c.if-out-progress.true, l.invariant.0)) l.invariant.0

pub shape_of-out : goal.shape_of-out
shape_of-out c = c.loop-turn.invariant.0

pub returns : goal.returns
returns c =
    let a = c.args in
    let l = c.loop-turn in
    let rows = l.invariant.3 in
    λ raws qs f q. written_whole a.marks.now f q a.out.now l.progress l.out (l.invariant.4 raws f)
    (omega (arith, c.loop-turn-test, l.invariant.1, l.invariant.2, rows.pages, rows.words))
    (omega (arith, c.loop-turn-test, l.invariant.1, l.invariant.2, rows.pages, rows.words))
    (omega (arith, c.if-out-progress.false, l.invariant.0))
