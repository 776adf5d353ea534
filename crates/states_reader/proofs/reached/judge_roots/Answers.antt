use mathlib.Core.Path.{ap}
use mathlib.Core.Bool.{not}
use borrow.Author.Rules.{rules}
use mathlib.Core.Path.{refl}
use native.Mathlib.Omega.{arith}
use Rattle.bytestring.proofs.Tools.{bytes_of_lem}
use Rattle.std.proofs.lemmas.Option.{MatchOption-at_some}
use Rattle.states_reader.proofs.Judging.{zeros_summed, others_right, others_wrong, without_own, own_says}
use Rattle.states_reader.proofs.reached.judge_roots.Goals as goal

pub judge_others-requires : goal.judge_others-requires
judge_others-requires c = (c.requires.0, zeros_summed c.requires.0 89241 16384 64 256 refl refl refl refl)

pub returns-then-not-judge_others : goal.returns-then-not-judge_others
returns-then-not-judge_others c =
    let a = c.args in
    others_wrong a.states.now a.sequence.now a.labels.now a.roots.now a.count a.own a.n c.judge_others.result
    c.judge_others.new.pages c.judge_others.new.counts
    c.judge_others.new.keys c.judge_others.new.tags
    c.judge_others.new.last c.judge_others.ensures (ap not c.if-not-judge_others.true)

pub returns-in_default : goal.returns-in_default
returns-in_default c =
    let a = c.args in
    let bytes = bytes_of_lem a.sequence.now (λ i h. omega (arith, c.type_inv.sequence i)) in
    let w = others_right a.states.now a.sequence.now a.labels.now a.roots.now a.count a.own a.n c.judge_others.result
    c.judge_others.new.pages c.judge_others.new.counts
    c.judge_others.new.keys c.judge_others.new.tags
    c.judge_others.new.last c.judge_others.ensures (ap not c.if-not-judge_others.false) in
    without_own bytes w.0 w.1.summings c.in_default.is

pub judge_word-requires : goal.judge_word-requires
judge_word-requires c =
    let a = c.args in
    let w = others_right a.states.now a.sequence.now a.labels.now a.roots.now a.count a.own a.n c.judge_others.result
    c.judge_others.new.pages c.judge_others.new.counts
    c.judge_others.new.keys c.judge_others.new.tags
    c.judge_others.new.last c.judge_others.ensures (ap not c.if-not-judge_others.false) in
    let mine = c.in-Some.position in
    let within = MatchOption-at_some _ _ mine c.in-Some.is c.requires.1 in
    (w.1, c.requires.0.named mine within, c.requires.0.there mine within, search rules)

pub returns : goal.returns
returns c =
    let a = c.args in
    let bytes = bytes_of_lem a.sequence.now (λ i h. omega (arith, c.type_inv.sequence i)) in
    let w = others_right a.states.now a.sequence.now a.labels.now a.roots.now a.count a.own a.n c.judge_others.result
    c.judge_others.new.pages c.judge_others.new.counts
    c.judge_others.new.keys c.judge_others.new.tags
    c.judge_others.new.last c.judge_others.ensures (ap not c.if-not-judge_others.false) in
    own_says a.states.now a.sequence.now a.labels.now a.roots.now a.count a.own a.n bytes w.0 w.1.summings
    c.in-Some.position c.in-Some.is (MatchOption-at_some _ _ c.in-Some.position c.in-Some.is c.requires.1) c.judge_word.result
    c.judge_word.new.pages c.judge_word.new.counts c.judge_word.new.keys
    c.judge_word.new.tags c.judge_word.new.last
    c.judge_word.ensures
