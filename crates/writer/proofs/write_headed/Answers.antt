use Prim.Native.Nat.{◌*◌}
use mathlib.Core.Path.{sym, ap, ◌∙◌}
use Rattle.std.specs.Prelude.{Ok}
use native.Mathlib.Omega.{arith}
use lib.Seq.{length-take-le}
use Rattle.tree.specs.Table.{tree_of_set, table_of}
use Rattle.row.specs.Row.{records_of}
use Rattle.row.proofs.Rows.{records_length}
use Rattle.labels.proofs.Labels.{each_labelled}
use Rattle.layout.proofs.RowRecords.{row_top, row_top_small}
use Rattle.writer.proofs.Whole.{used_length, WrittenInto, row_written, len_small, len_fits, root_fits, output_is, no_output}
use Rattle.writer.proofs.Heads.{head_kept, head_moved}
use Rattle.writer.proofs.write_headed.Goals as goal

pub slice_bounds-labels-end : goal.slice_bounds-labels-end
slice_bounds-labels-end c = sym (length-take-le (2 * c.args.first_count) c.args.first_chains.now c.requires.1.room)

pub slice_bounds-others-end : goal.slice_bounds-others-end
slice_bounds-others-end c = sym (length-take-le (2 * c.args.second_count) c.args.second_chains.now c.requires.2.room)

pub slice_bounds-write_pages-end-2 : goal.slice_bounds-write_pages-end-2
slice_bounds-write_pages-end-2 c =
    let used = c.used-room in
    sym (used_length c.args.out.now used.result used.ensures)

pub write_pages-requires : goal.write_pages-requires
write_pages-requires c =
    let given = c.requires in
    (given.0, each_labelled given.1, each_labelled given.2)

pub returns-in_default : goal.returns-in_default
unfolding table_of
returns-in_default c =
    let into : WrittenInto (tree_of_set (records_of c.args.s.now c.args.u.now c.args.row.now c.args.n)) c.args.out.now c.used-room.result c.write_pages.new.out c.write_pages.result = row_written c.requires.0 c.top_layer-top.result (c.top_layer-top.ensures c.args.s.now c.args.u.now) c.used-room.ensures c.write_pages.auto.out c.write_pages.ensures in
    let a = c.args in
    let none = c.in_default.is in record {
      headed = c.refuse_headed.ensures.headed ∙ head_kept (records_of a.s.now a.u.now a.row.now a.n) a.head into none;
      output = c.refuse_headed.ensures.output ∙ no_output into none;
    }

pub slice_bounds-written_digest-end : goal.slice_bounds-written_digest-end
slice_bounds-written_digest-end c =
    let into : WrittenInto (tree_of_set (records_of c.args.s.now c.args.u.now c.args.row.now c.args.n)) c.args.out.now c.used-room.result c.write_pages.new.out c.write_pages.result = row_written c.requires.0 c.top_layer-top.result (c.top_layer-top.ensures c.args.s.now c.args.u.now) c.used-room.ensures c.write_pages.auto.out c.write_pages.ensures in
    root_fits into c.in-Some.is

pub slice_bounds-written_digest-end-2 : goal.slice_bounds-written_digest-end-2
slice_bounds-written_digest-end-2 c =
    let into : WrittenInto (tree_of_set (records_of c.args.s.now c.args.u.now c.args.row.now c.args.n)) c.args.out.now c.used-room.result c.write_pages.new.out c.write_pages.result = row_written c.requires.0 c.top_layer-top.result (c.top_layer-top.ensures c.args.s.now c.args.u.now) c.used-room.ensures c.write_pages.auto.out c.write_pages.ensures in
    sym (length-take-le _ _ (root_fits into c.in-Some.is))

pub written_digest-digest-requires : goal.written_digest-digest-requires
written_digest-digest-requires c =
    let given = c.requires in
    (each_labelled given.1, each_labelled given.2, given.0.room, given.3)

pub overflow_cast-count : goal.overflow_cast-count
overflow_cast-count c = omega (arith, c.requires.0.few)

pub overflow_cast-layer : goal.overflow_cast-layer
overflow_cast-layer c =
    let top = c.top_layer-top in
    omega (arith, row_top_small c.requires.0 top.result (top.ensures c.args.s.now c.args.u.now))

pub finish-len-requires : goal.finish-len-requires
finish-len-requires c =
    let into : WrittenInto (tree_of_set (records_of c.args.s.now c.args.u.now c.args.row.now c.args.n)) c.args.out.now c.used-room.result c.write_pages.new.out c.write_pages.result = row_written c.requires.0 c.top_layer-top.result (c.top_layer-top.ensures c.args.s.now c.args.u.now) c.used-room.ensures c.write_pages.auto.out c.write_pages.ensures in
    let w = into in
    let fits = c.in-Some.is in
    (len_fits w fits, len_small w fits)

pub returns : goal.returns
unfolding table_of
returns c =
    let into : WrittenInto (tree_of_set (records_of c.args.s.now c.args.u.now c.args.row.now c.args.n)) c.args.out.now c.used-room.result c.write_pages.new.out c.write_pages.result = row_written c.requires.0 c.top_layer-top.result (c.top_layer-top.ensures c.args.s.now c.args.u.now) c.used-room.ensures c.write_pages.auto.out c.write_pages.ensures in
    let a = c.args in
    let top = c.top_layer-top in
    let fits = c.in-Some.is in record {
      headed = head_moved (records_of a.s.now a.u.now a.row.now a.n) a.head into fits (ap Ok c.finish-len.ensures.count) (sym (records_length a.s.now a.u.now a.row.now a.n c.requires.0.room))
          (row_top c.requires.0 top.result (top.ensures a.s.now a.u.now)) c.written_digest-digest.ensures;
      output = c.finish-len.ensures.output ∙ output_is into fits;
    }
