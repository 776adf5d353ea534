use borrow.Author.Rules.{rules}
use mathlib.Core.Path.{ap}
use mathlib.Core.Bool.{not}
use native.Mathlib.Omega.{arith}
use Rattle.states_reader.proofs.Verdicts.{is_indexed, is_unindexed, is_noted, is_unnoted, states_hold_right, states_hold_wrong}
use Rattle.states_reader.proofs.judge_states.Goals as goal

pub states_hold-requires : goal.states_hold-requires
states_hold-requires c =
    let a = c.args in
    let index = c.index_states.new.index in
    let accepted = is_indexed a.states.now index c.index_states.result c.index_states.ensures _ c.in_ok-count.was in
    let noted = is_noted a.sequence.now c.note_pages.new.words c.note_pages.new.pages c.note_pages.result c.note_pages.ensures _ _ c.in_ok-n.was in
    (accepted, noted, omega (arith, c.requires.1, c.note_pages.auto), omega (arith, c.requires.2, c.note_pages.auto))

pub returns-then-not-states_hold : goal.returns-then-not-states_hold
returns-then-not-states_hold c =
    let a = c.args in
    let index = c.index_states.new.index in
    states_hold_wrong a.states.now a.sequence.now a.key.now index _ _ c.states_hold.new.labels
    c.states_hold.new.pages c.states_hold.result c.states_hold.ensures (ap not c.if-not-states_hold.true)

pub returns : goal.returns
returns c =
    let a = c.args in
    let index = c.index_states.new.index in
    states_hold_right a.states.now a.sequence.now a.key.now index _ _ c.states_hold.new.labels
    c.states_hold.new.pages c.states_hold.result c.states_hold.ensures (ap not c.if-not-states_hold.false)

pub returns-in_err-n : goal.returns-in_err-n
returns-in_err-n c =
    let a = c.args in
    let index = c.index_states.new.index in
    let accepted = is_indexed a.states.now index c.index_states.result c.index_states.ensures _ c.in_ok-count.was in
    search (rules, is_unnoted a.sequence.now c.note_pages.new.words c.note_pages.new.pages c.note_pages.result c.note_pages.ensures accepted _ c.in_err-n.was)

pub returns-in_err-count : goal.returns-in_err-count
returns-in_err-count c =
    let a = c.args in
    search (
      rules,
      is_unindexed a.states.now c.index_states.new.index c.index_states.result c.index_states.ensures a.sequence.now _
          c.in_err-count.was,
    )
