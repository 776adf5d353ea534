use Prim.Native.Nat.{◌*◌}
use mathlib.Core.Path.{sym, ap, ◌∙◌}
use lib.Seq.{length-take-le}
use Rattle.std.specs.Prelude.{Ok}
use Rattle.tree.specs.Table.{tree_of_set, table_of}
use Rattle.row.specs.Row.{records_of}
use Rattle.labels.proofs.Labels.{each_labelled}
use Rattle.writer.proofs.Whole.{used_length, WrittenInto, row_written, len_small, len_fits, answer_is, output_is, no_answer, no_output}
use Rattle.writer.proofs.write_table.Goals as goal

pub slice_bounds-labels-end : goal.slice_bounds-labels-end
slice_bounds-labels-end c = sym (length-take-le (2 * c.args.first_count) c.args.first_chains.now c.requires.1.room)

pub slice_bounds-others-end : goal.slice_bounds-others-end
slice_bounds-others-end c = sym (length-take-le (2 * c.args.second_count) c.args.second_chains.now c.requires.2.room)

pub slice_bounds-write_pages-end-2 : goal.slice_bounds-write_pages-end-2
slice_bounds-write_pages-end-2 c =
    let used = c.used-room in
    sym (used_length c.args.out.now used.result used.ensures)

pub write_pages-requires : goal.write_pages-requires
write_pages-requires c =
    let given = c.requires in
    (given.0, each_labelled given.1, each_labelled given.2)

pub returns-in_default : goal.returns-in_default
unfolding table_of
returns-in_default c =
    let w : WrittenInto (tree_of_set (records_of c.args.s.now c.args.u.now c.args.row.now c.args.n)) c.args.out.now c.used-room.result c.write_pages.new.out c.write_pages.result = row_written c.requires.0 c.top_layer-top.result (c.top_layer-top.ensures c.args.s.now c.args.u.now) c.used-room.ensures c.write_pages.auto.out c.write_pages.ensures in
    record {
      answer = c.refuse.ensures.answer ∙ no_answer w c.in_default.is;
      output = c.refuse.ensures.output ∙ no_output w c.in_default.is;
    }

pub finish-requires : goal.finish-requires
finish-requires c =
    let w : WrittenInto (tree_of_set (records_of c.args.s.now c.args.u.now c.args.row.now c.args.n)) c.args.out.now c.used-room.result c.write_pages.new.out c.write_pages.result = row_written c.requires.0 c.top_layer-top.result (c.top_layer-top.ensures c.args.s.now c.args.u.now) c.used-room.ensures c.write_pages.auto.out c.write_pages.ensures in
    (len_fits w c.in-Some.is, len_small w c.in-Some.is)

pub returns : goal.returns
unfolding table_of
returns c =
    let w : WrittenInto (tree_of_set (records_of c.args.s.now c.args.u.now c.args.row.now c.args.n)) c.args.out.now c.used-room.result c.write_pages.new.out c.write_pages.result = row_written c.requires.0 c.top_layer-top.result (c.top_layer-top.ensures c.args.s.now c.args.u.now) c.used-room.ensures c.write_pages.auto.out c.write_pages.ensures in
    let end = c.finish in record {
      answer = ap Ok end.ensures.count ∙ answer_is w c.in-Some.is;
      output = end.ensures.output ∙ output_is w c.in-Some.is;
    }
