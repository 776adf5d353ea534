use mathlib.Core.Path.{ap, sym, ◌∙◌}
use mathlib.Core.Bool.{not}
use borrow.Author.Rules.{rules}
use native.Mathlib.Omega.{arith}
use Rattle.states_reader.specs.Inner.{root_digest}
use Rattle.states_reader.proofs.Judging.{is_mine, not_mine, no_others, own_left_out, others_more, others_end, root_right, root_wrong}
use Rattle.states_reader.proofs.reached.judge_others.Goals as goal

pub loop-i-init : goal.loop-i-init
loop-i-init c =
    let a = c.args in
    let none = no_others a.states.now a.sequence.now a.roots.now a.n a.own a.pages.now c.requires.0.unnoted in
    (search rules, search rules, search rules, search rules, search rules, none, c.requires.1)

pub loop-i-preserved-then-eq : goal.loop-i-preserved-then-eq
loop-i-preserved-then-eq c =
    let l = c.loop-i in
    let skipped = own_left_out l.invariant.5 (is_mine c.args.own l.i (sym c.eq.ensures ∙ c.if-eq.true)) in
    (search rules, search rules, search rules, search rules, search rules, skipped, l.invariant.6)

pub offset_bounds-roots-i : goal.offset_bounds-roots-i
offset_bounds-roots-i c = omega (arith, c.requires.0.room)

pub bounds-roots-i : goal.bounds-roots-i
bounds-roots-i c = omega (arith, c.requires.0.room, c.loop-i-test.true)

pub judge_word-requires : goal.judge_word-requires
judge_word-requires c =
    let l = c.loop-i in
    let h = c.loop-i-test.true in
    (l.invariant.6, c.requires.0.named l.i h, c.requires.0.there l.i h, search rules)

pub returns-then-not-judge_word : goal.returns-then-not-judge_word
returns-then-not-judge_word c =
    let a = c.args in
    let l = c.loop-i in (
      l.i,
      c.loop-i-test.true,
      root_wrong a.states.now a.sequence.now a.labels.now a.n (root_digest a.states.now a.sequence.now a.roots.now l.i) 1
          l.pages l.counts c.judge_word.result c.judge_word.new.pages c.judge_word.new.counts
          c.judge_word.new.keys c.judge_word.new.tags c.judge_word.new.last
          c.judge_word.ensures (ap not c.if-not-judge_word.true),
    )

pub loop-i-preserved : goal.loop-i-preserved
loop-i-preserved c =
    let a = c.args in
    let l = c.loop-i in
    let w = root_right a.states.now a.sequence.now a.labels.now a.n (root_digest a.states.now a.sequence.now a.roots.now l.i) 1
    l.pages l.counts c.judge_word.result c.judge_word.new.pages c.judge_word.new.counts
    c.judge_word.new.keys c.judge_word.new.tags c.judge_word.new.last
    c.judge_word.ensures (ap not c.if-not-judge_word.false) in
    let more = others_more l.invariant.5 w.0 (not_mine c.args.own l.i (sym c.eq.ensures ∙ c.if-eq.false)) in
    let kept = c.judge_word.auto in (
      omega (arith, kept, l.invariant.0),
      omega (arith, kept, l.invariant.1),
      omega (arith, kept, l.invariant.2),
      omega (arith, kept, l.invariant.3),
      omega (arith, kept, l.invariant.4),
      more,
      w.1,
    )

pub returns : goal.returns
returns c =
    let a = c.args in
    let l = c.loop-i in
    others_end a.states.now a.sequence.now a.labels.now a.roots.now a.count a.own a.n
    l.invariant.5 l.invariant.6 (omega arith) (omega (arith, c.loop-i-test))
