use borrow.Author.Rules.{rules}
use Prim.Native.Nat.{ℕ}
use mathlib.Core.Path.{subst}
use mathlib.Core.List.{List}
use native.Mathlib.Omega.{arith}
use Rattle.summing.specs.Summed.{RootSays}
use mathlib.Core.Bool.{false≢true}
use Prim.Native.Nat.{◌+◌, ◌-◌}
use lib.ListN.{take, drop}
use Rattle.bytestring.proofs.Tools.{bytes_of_lem}
use Rattle.key.proofs.Laws.{layer_le}
use Rattle.summing.proofs.Entries.{entry_located}
use Rattle.summing.proofs.Roots.{root_underway, root_keeps, kept_also, root_stops, root_no_entry, root_alone, root_reached, root_known, root_entry_there, root_long, root_tree}
use Rattle.summing.proofs.judge_root.Goals as goal

pub returns-then-p-ne0 : goal.returns-then-p-ne0
returns-then-p-ne0 c =
    let a = c.args in
    let pre = c.requires in
    let u = root_underway a.states.now a.sequence.now a.labels.now a.pages.now a.counts.now a.n a.keys.now a.tags.now a.last.now
    (bytes_of_lem a.sequence.now (λ i h. omega (arith, c.type_inv.sequence i))) pre.0.0 pre.0.1 pre.0.2 pre.3 pre.4 in record {
      says = root_no_entry u pre.1 pre.2 c.word_place-place.result c.word_place-place.ensures c.read_page.result c.read_page.ensures c.in-Ok.p c.in-Ok.is c.if-p-eq0.true (omega (arith, c.if-p-ne0));
      keeps = λ raws w h. absurd (false≢true h);
    }

pub note_page-requires : goal.note_page-requires
note_page-requires c =
    let pre = c.requires in
    let filed = pre.0.1 in (
      omega (arith, filed.filed.page_room, pre.1),
      omega (arith, filed.room, pre.1),
      omega (arith, c.word_place-place.ensures),
      omega arith,
      pre.2,
      omega arith,
    )

pub returns-then-note-eq0 : goal.returns-then-note-eq0
returns-then-note-eq0 c =
    let a = c.args in
    let pre = c.requires in
    let u = root_underway a.states.now a.sequence.now a.labels.now a.pages.now a.counts.now a.n a.keys.now a.tags.now a.last.now
    (bytes_of_lem a.sequence.now (λ i h. omega (arith, c.type_inv.sequence i))) pre.0.0 pre.0.1 pre.0.2 pre.3 pre.4 in record {
      says = root_alone u pre.1 pre.2 c.word_place-place.result c.word_place-place.ensures c.read_page.result c.read_page.ensures c.in-Ok.p c.in-Ok.is c.if-p-eq0.true (omega (arith, c.if-p-ne0)) (omega (arith, c.if-note-eq0.true, c.word_note-note.ensures)) c.note_page.new.pages c.note_page.new.counts c.note_page.ensures;
      keeps = λ raws w h. root_keeps a.states.now a.sequence.now a.labels.now a.pages.now a.counts.now a.n a.keys.now a.tags.now u.kept raws w;
    }

pub returns-else-note-eq0 : goal.returns-else-note-eq0
returns-else-note-eq0 c =
    let a = c.args in
    let pre = c.requires in
    let u = root_underway a.states.now a.sequence.now a.labels.now a.pages.now a.counts.now a.n a.keys.now a.tags.now a.last.now
    (bytes_of_lem a.sequence.now (λ i h. omega (arith, c.type_inv.sequence i))) pre.0.0 pre.0.1 pre.0.2 pre.3 pre.4 in record {
      says = root_reached u pre.1 pre.2 c.word_place-place.result c.word_place-place.ensures c.read_page.result c.read_page.ensures c.in-Ok.p c.in-Ok.is c.if-p-eq0.true (omega (arith, c.if-p-ne0)) (λ z. omega (arith, z, c.if-note-eq0.false, c.word_note-note.ensures));
      keeps = λ raws w h. root_keeps a.states.now a.sequence.now a.labels.now a.pages.now a.counts.now a.n a.keys.now a.tags.now u.kept raws w;
    }

pub returns-then-note-gt0 : goal.returns-then-note-gt0
returns-then-note-gt0 c =
    let a = c.args in
    let pre = c.requires in
    let u = root_underway a.states.now a.sequence.now a.labels.now a.pages.now a.counts.now a.n a.keys.now a.tags.now a.last.now
    (bytes_of_lem a.sequence.now (λ i h. omega (arith, c.type_inv.sequence i))) pre.0.0 pre.0.1 pre.0.2 pre.3 pre.4 in record {
      says = root_known u pre.1 pre.2 c.word_place-place.result c.word_place-place.ensures c.read_page.result c.read_page.ensures c.in-Ok.p c.in-Ok.is c.if-p-eq0.false (omega (arith, c.if-note-gt0.true, c.word_note-note.ensures));
      keeps = λ raws w h. root_keeps a.states.now a.sequence.now a.labels.now a.pages.now a.counts.now a.n a.keys.now a.tags.now u.kept raws w;
    }

pub returns-then-size-gt-LONGEST_KEY : goal.returns-then-size-gt-LONGEST_KEY
returns-then-size-gt-LONGEST_KEY c =
    let a = c.args in
    let pre = c.requires in
    let u = root_underway a.states.now a.sequence.now a.labels.now a.pages.now a.counts.now a.n a.keys.now a.tags.now a.last.now
    (bytes_of_lem a.sequence.now (λ i h. omega (arith, c.type_inv.sequence i))) pre.0.0 pre.0.1 pre.0.2 pre.3 pre.4 in
    let found = entry_located c.locate_entry.ensures c.in-Ok-locate_entry.is in record {
      says = root_long u pre.1 pre.2 c.word_place-place.result c.word_place-place.ensures c.read_page.result c.read_page.ensures c.in-Ok.p c.in-Ok.is c.if-p-eq0.false c.in-Ok-locate_entry.e found (omega (arith, c.if-size-gt-LONGEST_KEY.true));
      keeps = λ raws w h. absurd (false≢true h);
    }

pub overflow_add-to : goal.overflow_add-to
overflow_add-to c =
    let found = entry_located c.locate_entry.ensures c.in-Ok-locate_entry.is in
    omega (arith, found.inside, found.within, c.requires.0.1.filed.short)

pub slice_bounds-layer_of-end : goal.slice_bounds-layer_of-end
slice_bounds-layer_of-end c =
    let found = entry_located c.locate_entry.ensures c.in-Ok-locate_entry.is in
    omega (arith, found.inside, found.within)

pub judge_tree-requires : goal.judge_tree-requires
judge_tree-requires c =
    let a = c.args in
    let pre = c.requires in
    let u = root_underway a.states.now a.sequence.now a.labels.now a.pages.now a.counts.now a.n a.keys.now a.tags.now a.last.now
    (bytes_of_lem a.sequence.now (λ i h. omega (arith, c.type_inv.sequence i))) pre.0.0 pre.0.1 pre.0.2 pre.3 pre.4 in
    (u, pre.1, omega (arith, c.layer_of-layer.ensures, layer_le (take (c.in-Ok-locate_entry.e.remainder + c.in-Ok-locate_entry.e.size - c.in-Ok-locate_entry.e.remainder) (drop c.in-Ok-locate_entry.e.remainder a.sequence.now))), pre.2)

pub returns : goal.returns
returns c =
    let a = c.args in
    let pre = c.requires in
    let u = root_underway a.states.now a.sequence.now a.labels.now a.pages.now a.counts.now a.n a.keys.now a.tags.now a.last.now
    (bytes_of_lem a.sequence.now (λ i h. omega (arith, c.type_inv.sequence i))) pre.0.0 pre.0.1 pre.0.2 pre.3 pre.4 in
    let found = entry_located c.locate_entry.ensures c.in-Ok-locate_entry.is in
    let t = c.judge_tree in record {
      says = subst (λ (x : List ℕ). RootSays a.states.now a.sequence.now a.labels.now a.pages.now a.counts.now a.n a.i a.mark t.result t.new.pages x) {x = t.new.written.counts.now} (search rules)
          (root_tree u pre.1 pre.2 c.word_place-place.result c.word_place-place.ensures c.read_page.result c.read_page.ensures c.in-Ok.p c.in-Ok.is c.if-p-eq0.false c.in-Ok-locate_entry.e found c.layer_of-layer.result c.layer_of-layer.ensures t.result t.new.pages t.new.written.counts.now t.ensures.says);
      keeps = λ raws w h.
          kept_also {keys = t.new.written.keys.now} {tags = t.new.written.tags.now} (search rules) (search rules)
          (root_keeps a.states.now a.sequence.now a.labels.now a.pages.now a.counts.now a.n t.new.written.keys.now t.new.written.tags.now (t.ensures.keeps h) raws w);
    }

pub returns-in_default-locate_entry : goal.returns-in_default-locate_entry
returns-in_default-locate_entry c =
    let a = c.args in
    let pre = c.requires in
    let u = root_underway a.states.now a.sequence.now a.labels.now a.pages.now a.counts.now a.n a.keys.now a.tags.now a.last.now
    (bytes_of_lem a.sequence.now (λ i h. omega (arith, c.type_inv.sequence i))) pre.0.0 pre.0.1 pre.0.2 pre.3 pre.4 in
    absurd (root_entry_there u pre.1 pre.2 c.word_place-place.result c.word_place-place.ensures c.read_page.result c.read_page.ensures c.in-Ok.p c.in-Ok.is c.if-p-eq0.false c.locate_entry.result _ c.locate_entry.ensures c.in_default-locate_entry.is)

pub returns-in_default : goal.returns-in_default
returns-in_default c =
    let a = c.args in
    let pre = c.requires in
    let u = root_underway a.states.now a.sequence.now a.labels.now a.pages.now a.counts.now a.n a.keys.now a.tags.now a.last.now
    (bytes_of_lem a.sequence.now (λ i h. omega (arith, c.type_inv.sequence i))) pre.0.0 pre.0.1 pre.0.2 pre.3 pre.4 in
    absurd (root_stops u pre.1 pre.2 c.word_place-place.result c.word_place-place.ensures c.read_page.result c.read_page.ensures _ c.in_default.is)
