use mathlib.Core.Path.{ap}
use mathlib.Core.Bool.{not}
use borrow.Author.Rules.{rules}
use native.Mathlib.Omega.{arith}
use Rattle.bytestring.proofs.Tools.{bytes_of_lem}
use Rattle.row.proofs.Memories.{fresh_zeros}
use Rattle.states_reader.proofs.Noting.{no_roots, register_short, record_places, key_lawful, value_there, wrong_collection, wrong_codec, roots_more, roots_end}
use Rattle.states_reader.proofs.roots.note_roots.Goals as goal

pub loop-i-init : goal.loop-i-init
loop-i-init c =
    let a = c.args in
    let none = no_roots a.states.now a.index.now a.count a.words.now a.m a.roots.now in
    (search rules, search rules, search rules, search rules, search (rules, fresh_zeros), none)

pub offset_bounds-index-i : goal.offset_bounds-index-i
offset_bounds-index-i c = omega (arith, c.requires.0.room)

pub bounds-index-i : goal.bounds-index-i
bounds-index-i c = omega (arith, c.requires.0.room, c.loop-i-test.true)

pub recall-found-requires : goal.recall-found-requires
recall-found-requires c =
    let bytes = bytes_of_lem c.args.states.now (λ i h. omega (arith, c.type_inv.states i)) in
    let l = c.loop-i in
    let short = register_short c.requires.0 bytes in
    (short, short, record_places c.requires.0 bytes l.i c.loop-i-test.true, l.invariant.4, search rules, search rules)

pub is_state_key-requires : goal.is_state_key-requires
is_state_key-requires c =
    let bytes = bytes_of_lem c.args.states.now (λ i h. omega (arith, c.type_inv.states i)) in
    key_lawful c.requires.0 bytes c.loop-i.i c.loop-i-test.true c.recall-found.ensures

pub returns-then-not-is_state_key : goal.returns-then-not-is_state_key
returns-then-not-is_state_key c =
    let bytes = bytes_of_lem c.args.states.now (λ i h. omega (arith, c.type_inv.states i)) in
    let a = c.args in
    let l = c.loop-i in
    wrong_collection bytes l.i c.loop-i-test.true c.recall-found.ensures c.is_state_key.ensures
    a.words.now a.m l.roots l.words (ap not c.if-not-is_state_key.true)

pub returns-then-codec_at-ne-DAG_CBOR : goal.returns-then-codec_at-ne-DAG_CBOR
returns-then-codec_at-ne-DAG_CBOR c =
    let bytes = bytes_of_lem c.args.states.now (λ i h. omega (arith, c.type_inv.states i)) in
    let a = c.args in
    let l = c.loop-i in
    wrong_codec bytes l.i c.loop-i-test.true c.recall-found.ensures c.is_state_key.ensures
    a.words.now a.m l.roots l.words (ap not c.if-not-is_state_key.false) c.codec_at.ensures c.if-codec_at-ne-DAG_CBOR.true

pub overflow_cast-word : goal.overflow_cast-word
overflow_cast-word c =
    let bytes = bytes_of_lem c.args.states.now (λ i h. omega (arith, c.type_inv.states i)) in
    let there = value_there c.requires.0 bytes c.loop-i.i c.loop-i-test.true c.recall-found.ensures in
    omega (arith, register_short c.requires.0 bytes, there)

pub overflow_add-word : goal.overflow_add-word
overflow_add-word c =
    let bytes = bytes_of_lem c.args.states.now (λ i h. omega (arith, c.type_inv.states i)) in
    let there = value_there c.requires.0 bytes c.loop-i.i c.loop-i-test.true c.recall-found.ensures in
    omega (arith, register_short c.requires.0 bytes, there)

pub offset_bounds-roots-i : goal.offset_bounds-roots-i
offset_bounds-roots-i c = omega (arith, c.requires.1, c.loop-i-test.true)

pub bounds-roots-i : goal.bounds-roots-i
bounds-roots-i c = omega (arith, c.requires.1, c.loop-i-test.true)

pub overflow_add-words : goal.overflow_add-words
overflow_add-words c = omega (arith, c.requires.2, c.loop-i-test.true)

pub offset_bounds-words-m : goal.offset_bounds-words-m
offset_bounds-words-m c = omega (arith, c.requires.2, c.loop-i-test.true)

pub bounds-words-m : goal.bounds-words-m
bounds-words-m c = omega (arith, c.requires.2, c.loop-i-test.true)

pub loop-i-preserved : goal.loop-i-preserved
loop-i-preserved c =
    let bytes = bytes_of_lem c.args.states.now (λ i h. omega (arith, c.type_inv.states i)) in
    let a = c.args in
    let l = c.loop-i in
    let r = c.recall-found in
    let more = roots_more bytes l.i c.loop-i-test.true r.ensures c.is_state_key.ensures
    a.words.now a.m l.roots l.words (ap not c.if-not-is_state_key.false) c.codec_at.ensures (omega (arith, c.if-codec_at-ne-DAG_CBOR.false)) l.invariant.5
    (omega (arith, c.requires.1)) (omega (arith, c.requires.2)) in (
      search rules,
      search rules,
      omega (arith, r.auto, l.invariant.2),
      omega (arith, r.auto, l.invariant.3),
      r.ensures.remembers,
      more,
    )

pub returns : goal.returns
returns c =
    let l = c.loop-i in
    roots_end l.invariant.5 (omega arith) (omega (arith, c.loop-i-test))
