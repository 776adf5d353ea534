use native.Mathlib.Omega.{arith}
use Rattle.page_writer.proofs.Sizes.{shares_fit}
use Rattle.page_writer.proofs.Writers.{entry_parts_length, entry_written}
use borrow.Author.Rules.{rules}
use Rattle.page_writer.proofs.write_entry.Goals as goal

pub write_entry_start-at-requires : goal.write_entry_start-at-requires
write_entry_start-at-requires c =
    let b = c.shared_count-shares in
    let a = c.args in
    (search rules, search (rules, shares_fit), omega (arith, entry_parts_length a.previous.now a.key.now a.link b.result b.ensures))

pub slice_bounds-write_entry_end-count : goal.slice_bounds-write_entry_end-count
slice_bounds-write_entry_end-count c =
    let b = c.shared_count-shares in
    let a = c.args in
    omega (arith, entry_parts_length a.previous.now a.key.now a.link b.result b.ensures)

pub slice_bounds-write_entry_end-start : goal.slice_bounds-write_entry_end-start
slice_bounds-write_entry_end-start c =
    let b = c.shared_count-shares in
    let a = c.args in
    omega (arith, entry_parts_length a.previous.now a.key.now a.link b.result b.ensures)

pub write_entry_end-requires : goal.write_entry_end-requires
write_entry_end-requires c =
    let b = c.shared_count-shares in
    let a = c.args in
    omega (arith, entry_parts_length a.previous.now a.key.now a.link b.result b.ensures)

pub overflow_add-result : goal.overflow_add-result
overflow_add-result c =
    let b = c.shared_count-shares in
    let a = c.args in
    omega (arith, entry_parts_length a.previous.now a.key.now a.link b.result b.ensures)

pub returns : goal.returns
returns c =
    let b = c.shared_count-shares in
    let a = c.args in record {
      output = search (rules, entry_written);
      count = omega (arith, entry_parts_length a.previous.now a.key.now a.link b.result b.ensures);
    }
