use native.Mathlib.Omega.{arith}
use Rattle.key.proofs.Laws.{lawful_length, layer_le}
use Rattle.page_writer.proofs.Sizes.{length_first}
use Rattle.row_words.proofs.WordLaws.{entry_short, part_length, single_is}
use Rattle.row_words.proofs.single.Goals as goal

pub write_page_start-at-requires : goal.write_page_start-at-requires
write_page_start-at-requires c = (omega arith, omega (arith, length_first 1 (omega arith)))

pub slice_bounds-write_entry-count : goal.slice_bounds-write_entry-count
slice_bounds-write_entry-count c = omega (arith, length_first 1 (omega arith))

pub slice_bounds-write_entry-start : goal.slice_bounds-write_entry-start
slice_bounds-write_entry-start c = omega (arith, length_first 1 (omega arith))

pub write_entry-requires : goal.write_entry-requires
write_entry-requires c =
    let key = c.args.key.now in
    let short = lawful_length key c.requires.0 in
    let room = part_length c.write_page_start-at.new.out c.write_page_start-at.result in
    (short, omega (arith, entry_short key short, room, length_first 1 (omega arith)))

pub record_word-requires : goal.record_word-requires
record_word-requires c =
    let y = c.layer_of-layer in
    (omega arith, omega (arith, length_first 1 (omega arith)), omega (arith, layer_le c.args.key.now, y.ensures))

pub returns : goal.returns
returns c =
    let a = c.args in
    let w = c.write_page_start-at in
    let e = c.write_entry in
    let y = c.layer_of-layer in
    rw c.second_word.ensures (single_is a.key.now a.value a.page.now c.requires.0 c.requires.1 w.result w.ensures.count w.new.out e.new.out w.ensures.output e.ensures.output y.result c.record_word.result y.ensures c.record_word.ensures)
