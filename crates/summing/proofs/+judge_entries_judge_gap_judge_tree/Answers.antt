use mathlib.Core.Path.{ap, refl}
use mathlib.Core.Bool.{not}
use mathlib.Core.Logic.{inl, inr}
use Rattle.summing.specs.Inner.{raws_in}
use Rattle.summing.proofs.Gaps.{gap_empty, gap_leads, gap_too_low, gap_no_tree, gap_filed, gap_counted, gap_no_rise, gap_too_many, gap_whole, gap_underway}
use Rattle.summing.proofs.Entries.{entry_located, underway_last, entries_begin, entries_end, entry_found, entries_too_many, key_asked, key_fails, entry_gap_fails, entry_asks, entries_go_on}
use Rattle.summing.proofs.Trees.{tree_known, tree_stops, tree_bare, left_asked, tree_no_gap, left_underway, entries_asked, tree_no_entries, tree_few, tree_kept, tree_whole}
use native.Mathlib.Omega.{arith}
use borrow.Author.Rules.{rules}
use Rattle.summing.proofs.+judge_entries_judge_gap_judge_tree.Goals as goal
use Rattle.summing.proofs.+judge_entries_judge_gap_judge_tree.Goals.{judge_tree-else-note-gt0-via-then-note-gt0+else-note-le-DEEPEST, judge_tree-else-note-gt0-via-else-note-gt0, judge_tree-else-entries-eq0-via-then-entries-eq0+else-left-eq0, judge_tree-else-entries-eq0-via-else-entries-eq0}

pub judge_entries-loop-i-init : goal.judge_entries-loop-i-init
judge_entries-loop-i-init t c =
    (search rules, record { counts = refl; keys = refl; tags = refl; last = refl; counts_length = refl; keys_length = refl; tags_length = refl; last_length = refl }, entries_begin c.args.start _ c.requires.0 c.requires.1 (search rules))

pub judge_entries-returns-then-count-ge-MOST-clause-told : goal.judge_entries-returns-then-count-ge-MOST-clause-told
judge_entries-returns-then-count-ge-MOST-clause-told t c =
    let l = c.loop-i.invariant.2 in
    let more = c.loop-i-test.true in
    let e = c.in-Ok.e in
    let found = entry_located c.locate_entry.ensures c.in-Ok.is in
    entries_too_many l more e found (omega (arith, c.if-count-ge-MOST.true))

pub judge_entries-take_key-requires : goal.judge_entries-take_key-requires
judge_entries-take_key-requires t c =
    let l = c.loop-i.invariant.2 in
    let more = c.loop-i-test.true in
    let e = c.in-Ok.e in
    let found = entry_located c.locate_entry.ensures c.in-Ok.is in
    key_asked l more e found

pub judge_entries-returns-in_err-size-clause-told : goal.judge_entries-returns-in_err-size-clause-told
judge_entries-returns-in_err-size-clause-told t c =
    let l = c.loop-i.invariant.2 in
    let more = c.loop-i-test.true in
    let e = c.in-Ok.e in
    let found = entry_located c.locate_entry.ensures c.in-Ok.is in
    let k = c.take_key in
    rw c.from_residual.ensures (key_fails l more e found k.result k.new.buffer k.new.last k.ensures c.in_err-size.was)

pub judge_entries-judge_gap-requires : goal.judge_entries-judge_gap-requires
judge_entries-judge_gap-requires t c =
    let l = c.loop-i.invariant.2 in
    let more = c.loop-i-test.true in
    let e = c.in-Ok.e in
    let found = entry_located c.locate_entry.ensures c.in-Ok.is in
    let k = c.take_key in (
      omega (arith, c.decreases),
      (
        underway_last l.under k.new.last (omega (arith, k.auto)),
        entry_asks l more e found k.result k.new.buffer k.new.last k.ensures c.in_ok-size.size c.in_ok-size.was
            (omega (arith, k.auto, l.room)) (omega (arith, k.auto, l.under.room)) (omega (arith, c.if-count-ge-MOST)),
      ),
    )

pub judge_entries-loop-i-preserved : goal.judge_entries-loop-i-preserved
judge_entries-loop-i-preserved t c =
    let l = c.loop-i.invariant.2 in
    let more = c.loop-i-test.true in
    let e = c.in-Ok.e in
    let found = entry_located c.locate_entry.ensures c.in-Ok.is in
    let k = c.take_key in
    let g = c.judge_gap in (
      omega (arith, g.auto, c.loop-i.invariant.0),
      record { counts = search rules; keys = search rules; tags = search rules; last = search rules; counts_length = omega (arith, c.judge_gap.ensures.same, c.take_key.auto, c.loop-i.invariant.1); keys_length = omega (arith, c.judge_gap.ensures.same, c.take_key.auto, c.loop-i.invariant.1); tags_length = omega (arith, c.judge_gap.ensures.same, c.take_key.auto, c.loop-i.invariant.1); last_length = omega (arith, c.judge_gap.ensures.same, c.take_key.auto, c.loop-i.invariant.1) },
      entries_go_on l more e found k.result k.new.buffer k.new.last k.ensures c.in_ok-size.size c.in_ok-size.was
          (omega (arith, k.auto, l.room)) (omega (arith, k.auto, l.under.room))
          g.result c.in_ok-cur.cur g.new.pages g.new.written.counts.now g.new.written.keys.now g.new.written.tags.now
          g.new.written.last.now g.ensures.told c.in_ok-cur.was,
    )

pub judge_entries-returns-in_err-cur-clause-told : goal.judge_entries-returns-in_err-cur-clause-told
judge_entries-returns-in_err-cur-clause-told t c =
    let l = c.loop-i.invariant.2 in
    let more = c.loop-i-test.true in
    let e = c.in-Ok.e in
    let found = entry_located c.locate_entry.ensures c.in-Ok.is in
    let k = c.take_key in
    let g = c.judge_gap in
    rw c.from_residual-in_err-cur.ensures (entry_gap_fails l more e found k.result k.new.buffer k.new.last k.ensures c.in_ok-size.size c.in_ok-size.was
    (omega (arith, k.auto, l.room)) (omega (arith, k.auto, l.under.room))
    g.result g.new.pages g.new.written.counts.now g.new.written.keys.now g.new.written.tags.now
    g.new.written.last.now g.ensures.told c.in_err-cur.was)

pub judge_entries-returns-in_default : goal.judge_entries-returns-in_default
judge_entries-returns-in_default t c =
    absurd (entry_found c.loop-i.invariant.2 c.loop-i-test.true c.locate_entry.result _ c.locate_entry.ensures c.in_default.is)

pub judge_entries-returns-clause-told : goal.judge_entries-returns-clause-told
judge_entries-returns-clause-told t c =
    entries_end c.loop-i.invariant.2 (omega (arith, c.loop-i-test))

pub judge_gap-returns-then-link-eq0-clause-told : goal.judge_gap-returns-then-link-eq0-clause-told
judge_gap-returns-then-link-eq0-clause-told t c =
    gap_empty c.requires.0 c.requires.1 c.if-link-eq0.true

pub judge_gap-returns-then-layer-eq0-clause-told : goal.judge_gap-returns-then-layer-eq0-clause-told
judge_gap-returns-then-layer-eq0-clause-told t c =
    gap_too_low c.requires.0 c.requires.1 c.if-link-eq0.false c.if-layer-eq0.true

pub judge_gap-linked_page-c-requires : goal.judge_gap-linked_page-c-requires
judge_gap-linked_page-c-requires t c = gap_leads c.requires.0 c.requires.1 c.if-link-eq0.false

pub judge_gap-judge_tree-requires : goal.judge_gap-judge_tree-requires
judge_gap-judge_tree-requires t c =
    (omega (arith, c.decreases, c.if-layer-eq0), (c.requires.0, c.linked_page-c.ensures.number, omega (arith, c.requires.1.low), c.requires.1.marked))

pub judge_gap-returns-then-not-judge_tree-clause-told : goal.judge_gap-returns-then-not-judge_tree-clause-told
judge_gap-returns-then-not-judge_tree-clause-told t c =
    let w = c.judge_tree in
    gap_no_tree c.requires.0 c.requires.1 c.if-link-eq0.false c.if-layer-eq0.false c.linked_page-c.result c.linked_page-c.ensures
    w.result w.new.pages w.new.written.counts.now w.ensures.says (ap not c.if-not-judge_tree.true)

pub judge_gap-first_follows-requires : goal.judge_gap-first_follows-requires
judge_gap-first_follows-requires t c =
    let w = c.judge_tree in (
      (
        raws_in c.args.judging.now.sequence.now,
        gap_filed c.requires.0 c.requires.1 c.if-link-eq0.false c.if-layer-eq0.false c.linked_page-c.result c.linked_page-c.ensures
            w.result w.new.pages w.new.written.counts.now w.ensures.says (ap not c.if-not-judge_tree.false),
      ),
      c.linked_page-c.ensures.number,
      omega (arith, c.requires.0.summings.filed.short),
    )

pub judge_gap-returns-then-not-first_follows-clause-told : goal.judge_gap-returns-then-not-first_follows-clause-told
judge_gap-returns-then-not-first_follows-clause-told t c =
    let w = c.judge_tree in
    gap_no_rise c.requires.0 c.requires.1 c.if-link-eq0.false c.if-layer-eq0.false c.linked_page-c.result c.linked_page-c.ensures
    w.result w.new.pages w.new.written.counts.now w.ensures.says (ap not c.if-not-judge_tree.false)
    c.first_follows.result c.first_follows.ensures (ap not c.if-not-first_follows.true)

pub judge_gap-offset_bounds-written-c : goal.judge_gap-offset_bounds-written-c
judge_gap-offset_bounds-written-c t c =
    let w = c.judge_tree in
    let k = gap_counted c.requires.0 c.requires.1 c.if-link-eq0.false c.if-layer-eq0.false c.linked_page-c.result c.linked_page-c.ensures
    w.result w.new.pages w.new.written.counts.now w.ensures.says (ap not c.if-not-judge_tree.false) in
    omega (arith, k, w.auto, w.ensures.same)

pub judge_gap-bounds-written-c : goal.judge_gap-bounds-written-c
judge_gap-bounds-written-c t c =
    let w = c.judge_tree in
    gap_counted c.requires.0 c.requires.1 c.if-link-eq0.false c.if-layer-eq0.false c.linked_page-c.result c.linked_page-c.ensures
    w.result w.new.pages w.new.written.counts.now w.ensures.says (ap not c.if-not-judge_tree.false)

pub judge_gap-returns-then-sum-gt-MOST-clause-told : goal.judge_gap-returns-then-sum-gt-MOST-clause-told
judge_gap-returns-then-sum-gt-MOST-clause-told t c =
    let w = c.judge_tree in
    gap_too_many c.requires.0 c.requires.1 c.if-link-eq0.false c.if-layer-eq0.false c.linked_page-c.result c.linked_page-c.ensures
    w.result w.new.pages w.new.written.counts.now w.ensures.says (ap not c.if-not-judge_tree.false) (omega (arith, c.if-sum-gt-MOST.true))

pub judge_gap-kept_last_key-length-requires : goal.judge_gap-kept_last_key-length-requires
judge_gap-kept_last_key-length-requires t c =
    let w = c.judge_tree in (
      (
        raws_in c.args.judging.now.sequence.now,
        gap_filed c.requires.0 c.requires.1 c.if-link-eq0.false c.if-layer-eq0.false c.linked_page-c.result c.linked_page-c.ensures
            w.result w.new.pages w.new.written.counts.now w.ensures.says (ap not c.if-not-judge_tree.false),
        w.ensures.keeps (c.if-not-judge_tree.false),
      ),
      c.linked_page-c.ensures.number,
      omega (arith, w.auto, w.ensures.same, c.requires.0.places),
      omega (arith, w.auto, w.ensures.same, c.requires.0.room),
    )

pub judge_gap-returns-clause-told : goal.judge_gap-returns-clause-told
judge_gap-returns-clause-told t c =
    let w = c.judge_tree in
    let under = c.requires.0 in
    let asked = c.requires.1 in
    let to = c.linked_page-c in
    let z = c.kept_last_key-length in
    let filed = gap_filed under asked c.if-link-eq0.false c.if-layer-eq0.false to.result to.ensures
    w.result w.new.pages w.new.written.counts.now w.ensures.says (ap not c.if-not-judge_tree.false) in
    rw c.from.ensures (gap_whole under asked c.if-link-eq0.false c.if-layer-eq0.false to.result to.ensures
    w.result w.new.pages w.new.written.counts.now w.ensures.says (ap not c.if-not-judge_tree.false)
    c.first_follows.result c.first_follows.ensures (ap not c.if-not-first_follows.false) (omega (arith, c.if-sum-gt-MOST))
    z.new.keys z.new.tags z.new.last z.result z.ensures.says
    (gap_underway under asked c.if-link-eq0.false c.if-layer-eq0.false to.result to.ensures
    w.result w.new.pages w.new.written.counts.now w.ensures.says (ap not c.if-not-judge_tree.false)
    z.new.keys z.new.tags z.new.last
    (z.ensures.keeps (raws_in c.args.judging.now.sequence.now) filed (w.ensures.keeps (c.if-not-judge_tree.false)))
    (omega (arith, z.auto, w.auto, w.ensures.same)) (omega (arith, z.auto, w.auto, w.ensures.same))))

pub judge_tree-returns-then-note-le-DEEPEST-clause-says : goal.judge_tree-returns-then-note-le-DEEPEST-clause-says
judge_tree-returns-then-note-le-DEEPEST-clause-says t c =
    let u = c.requires in
    tree_known u.0 u.1 u.2 u.3 c.word_note-note.result c.word_note-note.ensures (omega (arith, c.if-note-gt0)) (omega (arith, c.if-note-le-DEEPEST))

pub judge_tree-returns-then-note-le-DEEPEST-clause-keeps : goal.judge_tree-returns-then-note-le-DEEPEST-clause-keeps
judge_tree-returns-then-note-le-DEEPEST-clause-keeps t c =
    let u = c.requires in
    λ h. u.0.kept

pub judge_tree-returns-then-left-eq0-clause-says : goal.judge_tree-returns-then-left-eq0-clause-says
judge_tree-returns-then-left-eq0-clause-says t c =
    let u = c.requires in
    tree_bare u.0 u.1 u.2 u.3 c.word_place-place.result c.word_place-place.ensures c.read_page.result c.read_page.ensures
    c.in-Ok.p c.in-Ok.is c.if-entries-eq0.true c.if-left-eq0.true

pub judge_tree-judge_gap-requires : goal.judge_tree-judge_gap-requires
judge_tree-judge_gap-requires t c =
    let u = c.requires in (
      omega (arith, c.decreases),
      (
        u.0,
        left_asked u.0 u.1 u.2 u.3 c.word_place-place.result c.word_place-place.ensures c.read_page.result c.read_page.ensures
            c.in-Ok.p c.in-Ok.is c.args.judging.now.states.now,
      ),
    )

pub judge_tree-judge_entries-requires : goal.judge_tree-judge_entries-requires
judge_tree-judge_entries-requires t c =
    let u = c.requires in
    let g = c.judge_gap in (
      omega (arith, c.decreases),
      (
        left_underway u.0 u.1 u.2 u.3 c.word_place-place.result c.word_place-place.ensures c.read_page.result c.read_page.ensures
            c.in-Ok.p c.in-Ok.is
            g.result g.new.pages g.new.written.counts.now g.new.written.keys.now g.new.written.tags.now
            g.new.written.last.now g.ensures.told c.in-Some.start c.in-Some.is,
        entries_asked u.0 u.1 u.2 u.3 c.word_place-place.result c.word_place-place.ensures c.read_page.result c.read_page.ensures
            c.in-Ok.p c.in-Ok.is
            g.result g.new.pages g.new.written.counts.now g.new.written.keys.now g.new.written.tags.now
            g.new.written.last.now g.ensures.told c.in-Some.start c.in-Some.is,
      ),
    )

pub judge_tree-overflow_add-layer : goal.judge_tree-overflow_add-layer
judge_tree-overflow_add-layer t c = omega (arith, c.requires)

pub judge_tree-note_page-requires : goal.judge_tree-note_page-requires
judge_tree-note_page-requires t c =
    let u = c.requires in
    let g = c.judge_gap in
    let z = c.judge_entries in
    let few = tree_few u.0 u.1 u.2 u.3 c.word_place-place.result c.word_place-place.ensures c.read_page.result c.read_page.ensures
    c.in-Ok.p c.in-Ok.is
    g.result g.new.pages g.new.written.counts.now g.new.written.keys.now g.new.written.tags.now
    g.new.written.last.now g.ensures.told c.in-Some.start c.in-Some.is
    z.result z.new.pages z.new.written.counts.now z.new.written.keys.now z.new.written.tags.now
    z.new.written.last.now z.ensures.told c.in-Some-judge_entries.sum c.in-Some-judge_entries.is in (
      omega (arith, g.auto, g.ensures.same, z.auto, z.ensures.same, u.0.summings.filed.page_room, u.1),
      omega (arith, g.auto, g.ensures.same, z.auto, z.ensures.same, u.0.summings.room, u.1),
      omega (arith, c.word_place-place.ensures),
      omega (arith, u.2),
      u.3,
      few,
    )

pub judge_tree-returns-clause-says : goal.judge_tree-returns-clause-says
judge_tree-returns-clause-says t c =
    let u = c.requires in
    let g = c.judge_gap in
    let z = c.judge_entries in
    tree_whole u.0 u.1 u.2 u.3 c.word_place-place.result c.word_place-place.ensures c.read_page.result c.read_page.ensures
    c.in-Ok.p c.in-Ok.is
    g.result g.new.pages g.new.written.counts.now g.new.written.keys.now g.new.written.tags.now
    g.new.written.last.now g.ensures.told c.in-Some.start c.in-Some.is
    z.result z.new.pages z.new.written.counts.now z.new.written.keys.now z.new.written.tags.now
    z.new.written.last.now z.ensures.told c.in-Some-judge_entries.sum c.in-Some-judge_entries.is
    (elim c.else-entries-eq0.branch [ judge_tree-else-entries-eq0-via-then-entries-eq0+else-left-eq0 w ↦ inl (w.if-entries-eq0.true, w.if-left-eq0.false) | judge_tree-else-entries-eq0-via-else-entries-eq0 w ↦ inr w.if-entries-eq0.false ])
    (elim c.else-note-gt0.branch [ judge_tree-else-note-gt0-via-then-note-gt0+else-note-le-DEEPEST w ↦ λ k. omega (arith, w.if-note-le-DEEPEST.false, c.word_note-note.ensures) | judge_tree-else-note-gt0-via-else-note-gt0 w ↦ λ k. absurd (omega (arith, w.if-note-gt0.false, c.word_note-note.ensures)) ])
    c.note_page.new.pages c.note_page.new.counts c.note_page.ensures

pub judge_tree-returns-clause-keeps : goal.judge_tree-returns-clause-keeps
judge_tree-returns-clause-keeps t c =
    let u = c.requires in
    let g = c.judge_gap in
    let z = c.judge_entries in
    λ h. tree_kept u.0 u.1 u.2 u.3 c.word_place-place.result c.word_place-place.ensures c.read_page.result c.read_page.ensures
    c.in-Ok.p c.in-Ok.is
    g.result g.new.pages g.new.written.counts.now g.new.written.keys.now g.new.written.tags.now
    g.new.written.last.now g.ensures.told c.in-Some.start c.in-Some.is
    z.result z.new.pages z.new.written.counts.now z.new.written.keys.now z.new.written.tags.now
    z.new.written.last.now z.ensures.told c.in-Some-judge_entries.sum c.in-Some-judge_entries.is

pub judge_tree-returns-in_default-judge_entries-clause-says : goal.judge_tree-returns-in_default-judge_entries-clause-says
judge_tree-returns-in_default-judge_entries-clause-says t c =
    let u = c.requires in
    let g = c.judge_gap in
    let z = c.judge_entries in
    tree_no_entries u.0 u.1 u.2 u.3 c.word_place-place.result c.word_place-place.ensures c.read_page.result c.read_page.ensures
    c.in-Ok.p c.in-Ok.is
    g.result g.new.pages g.new.written.counts.now g.new.written.keys.now g.new.written.tags.now
    g.new.written.last.now g.ensures.told c.in-Some.start c.in-Some.is
    z.result z.new.pages z.new.written.counts.now z.new.written.keys.now z.new.written.tags.now
    z.new.written.last.now z.ensures.told c.in_default-judge_entries.is

pub judge_tree-returns-in_default-judge_gap-clause-says : goal.judge_tree-returns-in_default-judge_gap-clause-says
judge_tree-returns-in_default-judge_gap-clause-says t c =
    let u = c.requires in
    let g = c.judge_gap in
    tree_no_gap u.0 u.1 u.2 u.3 c.word_place-place.result c.word_place-place.ensures c.read_page.result c.read_page.ensures
    c.in-Ok.p c.in-Ok.is
    g.result g.new.pages g.new.written.counts.now g.new.written.keys.now g.new.written.tags.now
    g.new.written.last.now g.ensures.told c.in_default-judge_gap.is

pub judge_tree-returns-in_default-clause-says : goal.judge_tree-returns-in_default-clause-says
judge_tree-returns-in_default-clause-says t c =
    let u = c.requires in
    tree_stops u.0 u.1 u.2 u.3 c.word_place-place.result c.word_place-place.ensures c.read_page.result c.read_page.ensures
    _ c.in_default.is
