use Prim.Native.Nat.{◌+◌, ◌<◌}
use mathlib.Core.Path.{refl, subst}
use native.Mathlib.Omega.{arith}
use lib.ListN.{length}
use lib.Dec.{eqb}
use borrow.Author.Rules.{rules}
use Rattle.std.specs.Prelude.{Ok, Err}
use Rattle.index.specs.Walk.{EntriesSay, PageSays}
use Rattle.index.proofs.EntrySteps.{located_is, page_is, entries_are, onward_start, onward_end, onward_there, onward_record, onward_none, onward_page, onward_stopped}
use Rattle.index.proofs.PageSteps.{too_deep, deep_end, page_stops, page_none, page_left, left_stopped, page_bare, page_on, page_far, entries_counted, least_of}
use Rattle.index.proofs.walk.+walk_entries_walk_page.Goals as goal

pub walk_entries-loop-i-init : goal.walk_entries-loop-i-init
walk_entries-loop-i-init t c =
    let a = c.args in
    (search rules, search rules, search rules, onward_start a.s.now a.index.now a.row.now a.last.now a.level a.page a.first a.n a.st _ (search rules) (search rules) (search rules) (search rules) (search rules))

pub walk_entries-prefix_fits-fits-requires : goal.walk_entries-prefix_fits-fits-requires
walk_entries-prefix_fits-fits-requires t c =
    let found = located_is c.args.s.now c.loop-i.at c.locate_entry.ensures c.in_ok-e.was in
    omega (arith, found.inside, found.within)

pub walk_entries-extend_key-size-requires : goal.walk_entries-extend_key-size-requires
walk_entries-extend_key-size-requires t c =
    let found = located_is c.args.s.now c.loop-i.at c.locate_entry.ensures c.in_ok-e.was in
    (omega (arith, found.inside, found.within), found.shares, found.size)

pub walk_entries-loop-i-preserved-then-link-eq0 : goal.walk_entries-loop-i-preserved-then-link-eq0
walk_entries-loop-i-preserved-then-link-eq0 t c =
    let a = c.args in
    let l = c.loop-i in
    let more = c.loop-i-test.true in
    let e = c.in_ok-e.e in
    let found = located_is a.s.now l.at c.locate_entry.ensures c.in_ok-e.was in
    let f = c.prefix_fits-fits in
    let k = c.extend_key-size in
    let g = c.take_record-one in
    (omega (arith, g.auto, l.invariant), omega (arith, l.invariant), omega (arith, g.auto, l.invariant), onward_none l.invariant.3 more c.requires.1 e found f.result f.ensures.says f.ensures.short k.new.buffer k.result k.ensures g.new.index g.new.last g.result g.ensures (omega (arith, k.auto, l.invariant.3.room)) c.if-link-eq0.true)

pub walk_entries-overflow_add-level : goal.walk_entries-overflow_add-level
walk_entries-overflow_add-level t c = omega (arith, c.requires)

pub walk_entries-walk_page-requires : goal.walk_entries-walk_page-requires
walk_entries-walk_page-requires t c =
    let a = c.args in
    let l = c.loop-i in
    let more = c.loop-i-test.true in
    let e = c.in_ok-e.e in
    let found = located_is a.s.now l.at c.locate_entry.ensures c.in_ok-e.was in
    let f = c.prefix_fits-fits in
    let k = c.extend_key-size in
    let g = c.take_record-one in
    let o = onward_record l.invariant.3 more c.requires.1 e found f.result f.ensures.says f.ensures.short k.new.buffer k.result k.ensures g.new.index g.new.last g.result g.ensures in
    let pre = c.requires in (
      omega (arith, o, l.invariant.3, pre),
      (
        omega (arith, pre),
        pre.1,
        omega (arith, g.auto, l.invariant, pre),
        omega (arith, o, l.invariant.3),
        omega (arith, o, l.invariant.3, more),
        omega (arith, o, l.invariant.3),
        omega (arith, pre),
        omega arith,
        omega (arith, found.ends.link (omega (arith, c.if-link-eq0)), found.ends.value, found.within),
      ),
    )

pub walk_entries-loop-i-smaller : goal.walk_entries-loop-i-smaller
walk_entries-loop-i-smaller t c = omega (arith, c.loop-i-test)

pub walk_entries-loop-i-preserved : goal.walk_entries-loop-i-preserved
walk_entries-loop-i-preserved t c =
    let a = c.args in
    let l = c.loop-i in
    let more = c.loop-i-test.true in
    let e = c.in_ok-e.e in
    let found = located_is a.s.now l.at c.locate_entry.ensures c.in_ok-e.was in
    let f = c.prefix_fits-fits in
    let k = c.extend_key-size in
    let g = c.take_record-one in
    let w = c.walk_page in
    (omega (arith, w.auto, g.auto, l.invariant), omega (arith, w.auto, l.invariant), omega (arith, w.auto, g.auto, l.invariant), onward_page l.invariant.3 more c.requires.1 e found f.result f.ensures.says f.ensures.short k.new.buffer k.result k.ensures g.new.index g.new.last g.result g.ensures (omega (arith, k.auto, l.invariant.3.room)) c.if-link-eq0.false w.new.index w.new.row w.new.last w.result c.in_ok-next.next w.ensures c.in_ok-next.was)

pub walk_entries-returns-in_err-next : goal.walk_entries-returns-in_err-next
walk_entries-returns-in_err-next t c =
    let a = c.args in
    let l = c.loop-i in
    let more = c.loop-i-test.true in
    let e = c.in_ok-e.e in
    let found = located_is a.s.now l.at c.locate_entry.ensures c.in_ok-e.was in
    let f = c.prefix_fits-fits in
    let k = c.extend_key-size in
    let g = c.take_record-one in
    let w = c.walk_page in
    subst (λ r. EntriesSay c.args.s.now c.args.index.now c.args.row.now c.args.last.now c.args.level c.args.page c.args.first c.args.n c.args.st r w.new.index w.new.row w.new.last) {x = Err c.in_err-next.field-0.0} {y = c.from_residual-in_err-next.result} (search rules)
    (onward_stopped l.invariant.3 more c.requires.1 e found f.result f.ensures.says f.ensures.short k.new.buffer k.result k.ensures g.new.index g.new.last g.result g.ensures c.if-link-eq0.false w.new.index w.new.row w.new.last w.result c.in_err-next.field-0.0 w.ensures c.in_err-next.was)

pub walk_entries-returns-in_err-e : goal.walk_entries-returns-in_err-e
walk_entries-returns-in_err-e t c =
    subst (λ r. EntriesSay c.args.s.now c.args.index.now c.args.row.now c.args.last.now c.args.level c.args.page c.args.first c.args.n c.args.st r c.loop-i.index c.loop-i.row c.loop-i.last) {x = Err c.in_err-e.field-0.0} {y = c.from_residual.result} (search rules)
    (onward_there c.loop-i.invariant.3 c.loop-i-test.true c.requires.1 c.locate_entry.result c.in_err-e.field-0.0 c.locate_entry.ensures c.in_err-e.was)

pub walk_entries-returns : goal.walk_entries-returns
walk_entries-returns t c = onward_end c.loop-i.invariant.3 (omega (arith, c.loop-i-test))

pub walk_page-returns-then-at-s : goal.walk_page-returns-then-at-s
walk_page-returns-then-at-s t c =
    let a = c.args in
    too_deep a.s.now a.level a.link a.above a.index.now a.row.now a.last.now a.st c.if-level-ge-DEEPEST.true c.if-at-s.true

pub walk_page-returns-then-level-ge-DEEPEST : goal.walk_page-returns-then-level-ge-DEEPEST
walk_page-returns-then-level-ge-DEEPEST t c =
    let a = c.args in
    deep_end a.s.now a.level a.link a.above a.index.now a.row.now a.last.now a.st c.if-level-ge-DEEPEST.true (omega (arith, c.if-at-s))

pub walk_page-returns-then-left-eq0 : goal.walk_page-returns-then-left-eq0
walk_page-returns-then-left-eq0 t c =
    let a = c.args in
    let pre = c.requires in
    let low : a.level < 129 = omega (arith, c.if-level-ge-DEEPEST) in
    let p = c.in_ok-p.p in
    let here = page_is a.s.now a.st.next c.read_page.ensures c.in_ok-p.was in
    let o = c.take_page-cur.ensures in
    let cur = c.take_page-cur.result in
    page_bare a.s.now a.index.now a.row.now a.last.now a.level a.link a.above a.st cur p pre.1 low here o c.if-n-eq0.true c.if-left-eq0.true

pub walk_page-walk_page-requires : goal.walk_page-walk_page-requires
walk_page-walk_page-requires t c =
    let a = c.args in
    let pre = c.requires in
    let low : a.level < 129 = omega (arith, c.if-level-ge-DEEPEST) in
    let p = c.in_ok-p.p in
    let here = page_is a.s.now a.st.next c.read_page.ensures c.in_ok-p.was in
    let o = c.take_page-cur.ensures in
    let cur = c.take_page-cur.result in
    let left = here.left (omega (arith, c.if-left-eq0)) in (
      omega (arith, o.next, here.whole, pre),
      (
        omega (arith, pre),
        pre.1,
        omega (arith, pre),
        omega (arith, o.next, here.whole.within),
        omega (arith, o.next, o.count, here.whole.ahead, pre),
        omega (arith, o.next, o.chains, here.whole.ahead, pre),
        omega (arith, low),
        rw c.chain_above-pages.ensures (least_of (eqb a.link 0) 0 (a.above + 1) (a.level + 1) (omega arith) (omega (arith, pre))),
        rw c.chain_link-to.ensures (least_of (eqb a.link 0) p.left a.link (length a.s.now) (omega (arith, left, here.whole.within)) (omega (arith, pre))),
      ),
    )

pub walk_page-returns-then-n-eq0 : goal.walk_page-returns-then-n-eq0
walk_page-returns-then-n-eq0 t c =
    let a = c.args in
    let pre = c.requires in
    let low : a.level < 129 = omega (arith, c.if-level-ge-DEEPEST) in
    let p = c.in_ok-p.p in
    let here = page_is a.s.now a.st.next c.read_page.ensures c.in_ok-p.was in
    let o = c.take_page-cur.ensures in
    let cur = c.take_page-cur.result in
    let w = c.walk_page in
    page_on a.s.now a.index.now a.row.now a.last.now a.level a.link a.above a.st cur p pre.1 low here o c.if-n-eq0.true c.if-left-eq0.false c.chain_link-to.result c.chain_above-pages.result c.chain_link-to.ensures c.chain_above-pages.ensures w.result w.new.index w.new.row w.new.last w.ensures

pub walk_page-walk_entries-requires : goal.walk_page-walk_entries-requires
walk_page-walk_entries-requires t c =
    let a = c.args in
    let pre = c.requires in
    let low : a.level < 129 = omega (arith, c.if-level-ge-DEEPEST) in
    let p = c.in_ok-p.p in
    let here = page_is a.s.now a.st.next c.read_page.ensures c.in_ok-p.was in
    let o = c.take_page-cur.ensures in
    let cur = c.take_page-cur.result in
    let n = c.enter-entered.ensures in (
      omega (arith, n, o.next, here.whole, pre),
      (
        omega (arith, pre),
        pre.1,
        omega (arith, pre),
        omega (arith, n, o.next, here.whole.within),
        omega (arith, n, o.next, o.count, here.start.ahead, here.row.ahead, here.inside, pre),
        omega (arith, n, o.next, o.chains, here.whole.ahead, pre),
        omega (arith, low),
        omega (arith, pre),
        here.start.within,
      ),
    )

pub walk_page-leave-requires : goal.walk_page-leave-requires
walk_page-leave-requires t c =
    let a = c.args in
    let pre = c.requires in
    let low : a.level < 129 = omega (arith, c.if-level-ge-DEEPEST) in
    let p = c.in_ok-p.p in
    let here = page_is a.s.now a.st.next c.read_page.ensures c.in_ok-p.was in
    let o = c.take_page-cur.ensures in
    let cur = c.take_page-cur.result in
    let n = c.enter-entered in
    let w = c.walk_entries in
    let counted = entries_counted a.s.now a.index.now a.row.now a.last.now a.level a.st.next p.first p.count n.result w.new.index w.new.row w.new.last w.result here.row.entries p.past cur.chains cur.count here.row.reads (omega (arith, n.ensures)) (omega (arith, n.ensures)) w.ensures c.in_ok-walked.walked c.in_ok-walked.was in (
      omega (arith, pre),
      omega (arith, pre),
      omega (arith, pre, low),
      omega (arith, here.whole.within, pre),
      omega (arith, o.chains, pre),
      counted.0,
      counted.1,
    )

pub walk_page-returns-then-left-eq0-2 : goal.walk_page-returns-then-left-eq0-2
walk_page-returns-then-left-eq0-2 t c =
    let a = c.args in
    let pre = c.requires in
    let low : a.level < 129 = omega (arith, c.if-level-ge-DEEPEST) in
    let p = c.in_ok-p.p in
    let here = page_is a.s.now a.st.next c.read_page.ensures c.in_ok-p.was in
    let o = c.take_page-cur.ensures in
    let cur = c.take_page-cur.result in
    let n = c.enter-entered in
    let w = c.walk_entries in
    page_none a.s.now a.index.now a.row.now a.last.now a.level a.link a.above a.st cur p pre.1 low here o n.result n.ensures c.if-n-eq0.false c.if-left-eq0-2.true (Ok c.in_ok-walked.walked) w.new.index w.new.row w.new.last c.leave.new.row
    (entries_are a.s.now a.index.now a.row.now a.last.now a.level a.st.next p.first p.count n.result w.new.index w.new.row w.new.last w.ensures c.in_ok-walked.was) c.leave.ensures

pub walk_page-returns-in_err-walked : goal.walk_page-returns-in_err-walked
walk_page-returns-in_err-walked t c =
    let a = c.args in
    let pre = c.requires in
    let low : a.level < 129 = omega (arith, c.if-level-ge-DEEPEST) in
    let p = c.in_ok-p.p in
    let here = page_is a.s.now a.st.next c.read_page.ensures c.in_ok-p.was in
    let o = c.take_page-cur.ensures in
    let cur = c.take_page-cur.result in
    let n = c.enter-entered in
    let w = c.walk_entries in
    subst (λ r. PageSays a.s.now a.index.now a.row.now a.last.now a.level a.link a.above a.st r w.new.index w.new.row w.new.last) {x = Err c.in_err-walked.field-0.0} {y = c.from_residual-in_err-walked.result} (search rules)
    (page_none a.s.now a.index.now a.row.now a.last.now a.level a.link a.above a.st cur p pre.1 low here o n.result n.ensures c.if-n-eq0.false c.if-left-eq0-2.true (Err c.in_err-walked.field-0.0) w.new.index w.new.row w.new.last w.new.row
    (entries_are a.s.now a.index.now a.row.now a.last.now a.level a.st.next p.first p.count n.result w.new.index w.new.row w.new.last w.ensures c.in_err-walked.was) refl)

pub walk_page-walk_page-requires-2 : goal.walk_page-walk_page-requires-2
walk_page-walk_page-requires-2 t c =
    let a = c.args in
    let pre = c.requires in
    let low : a.level < 129 = omega (arith, c.if-level-ge-DEEPEST) in
    let p = c.in_ok-p.p in
    let here = page_is a.s.now a.st.next c.read_page.ensures c.in_ok-p.was in
    let o = c.take_page-cur.ensures in
    let cur = c.take_page-cur.result in
    let n = c.enter-entered.ensures in
    let left = here.left (omega (arith, c.if-left-eq0-2)) in (
      omega (arith, n, o.next, here.whole, pre),
      (
        omega (arith, pre),
        pre.1,
        omega (arith, pre),
        omega (arith, n, o.next, here.whole.within),
        omega (arith, n, o.next, o.count, here.whole.ahead, pre),
        omega (arith, n, o.next, o.chains, here.whole.ahead, pre),
        omega (arith, low),
        omega arith,
        omega (arith, left, here.whole.within),
      ),
    )

pub walk_page-walk_entries-requires-2 : goal.walk_page-walk_entries-requires-2
walk_page-walk_entries-requires-2 t c =
    let a = c.args in
    let pre = c.requires in
    let low : a.level < 129 = omega (arith, c.if-level-ge-DEEPEST) in
    let p = c.in_ok-p.p in
    let here = page_is a.s.now a.st.next c.read_page.ensures c.in_ok-p.was in
    let o = c.take_page-cur.ensures in
    let cur = c.take_page-cur.result in
    let n = c.enter-entered in
    let w = c.walk_page-2 in
    let far = page_far a.s.now a.index.now a.row.now a.last.now (a.level + 1) p.left n.result w.new.index w.new.row w.new.last w.result c.in_ok-next.next c.if-left-eq0-2.false (omega (arith, here.left (omega (arith, c.if-left-eq0-2)), here.whole.within)) w.ensures c.in_ok-next.was in (
      omega (arith, far, n.ensures, o.next, here.whole, pre),
      (
        omega (arith, pre),
        pre.1,
        omega (arith, w.auto, pre),
        omega (arith, far, n.ensures, o.next, here.whole.within),
        omega (arith, far, n.ensures, o.next, o.count, here.start.ahead, here.row.ahead, here.inside, pre),
        omega (arith, far, n.ensures, o.next, o.chains, here.whole.ahead, pre),
        omega (arith, low),
        omega (arith, pre),
        here.start.within,
      ),
    )

pub walk_page-leave-requires-2 : goal.walk_page-leave-requires-2
walk_page-leave-requires-2 t c =
    let a = c.args in
    let pre = c.requires in
    let low : a.level < 129 = omega (arith, c.if-level-ge-DEEPEST) in
    let p = c.in_ok-p.p in
    let here = page_is a.s.now a.st.next c.read_page.ensures c.in_ok-p.was in
    let o = c.take_page-cur.ensures in
    let cur = c.take_page-cur.result in
    let n = c.enter-entered in
    let w = c.walk_page-2 in
    let far = page_far a.s.now a.index.now a.row.now a.last.now (a.level + 1) p.left n.result w.new.index w.new.row w.new.last w.result c.in_ok-next.next c.if-left-eq0-2.false (omega (arith, here.left (omega (arith, c.if-left-eq0-2)), here.whole.within)) w.ensures c.in_ok-next.was in
    let z = c.walk_entries-2 in
    let counted = entries_counted a.s.now w.new.index w.new.row w.new.last a.level a.st.next p.first p.count c.in_ok-next.next z.new.index z.new.row z.new.last z.result here.row.entries p.past cur.chains cur.count here.row.reads (omega (arith, far, n.ensures)) (omega (arith, far, n.ensures)) z.ensures c.in_ok-walked-2.walked c.in_ok-walked-2.was in (
      omega (arith, pre),
      omega (arith, pre),
      omega (arith, pre, low),
      omega (arith, here.whole.within, pre),
      omega (arith, o.chains, pre),
      counted.0,
      counted.1,
    )

pub walk_page-returns : goal.walk_page-returns
walk_page-returns t c =
    let a = c.args in
    let pre = c.requires in
    let low : a.level < 129 = omega (arith, c.if-level-ge-DEEPEST) in
    let p = c.in_ok-p.p in
    let here = page_is a.s.now a.st.next c.read_page.ensures c.in_ok-p.was in
    let o = c.take_page-cur.ensures in
    let cur = c.take_page-cur.result in
    let n = c.enter-entered in
    let w = c.walk_page-2 in
    let z = c.walk_entries-2 in
    page_left a.s.now a.index.now a.row.now a.last.now a.level a.link a.above a.st cur p pre.1 low here o n.result n.ensures c.if-n-eq0.false c.if-left-eq0-2.false w.new.index w.new.row w.new.last w.result c.in_ok-next.next w.ensures c.in_ok-next.was (Ok c.in_ok-walked-2.walked) z.new.index z.new.row z.new.last c.leave-2.new.row
    (entries_are a.s.now w.new.index w.new.row w.new.last a.level a.st.next p.first p.count c.in_ok-next.next z.new.index z.new.row z.new.last z.ensures c.in_ok-walked-2.was) c.leave-2.ensures

pub walk_page-returns-in_err-walked-2 : goal.walk_page-returns-in_err-walked-2
walk_page-returns-in_err-walked-2 t c =
    let a = c.args in
    let pre = c.requires in
    let low : a.level < 129 = omega (arith, c.if-level-ge-DEEPEST) in
    let p = c.in_ok-p.p in
    let here = page_is a.s.now a.st.next c.read_page.ensures c.in_ok-p.was in
    let o = c.take_page-cur.ensures in
    let cur = c.take_page-cur.result in
    let n = c.enter-entered in
    let w = c.walk_page-2 in
    let z = c.walk_entries-2 in
    subst (λ r. PageSays a.s.now a.index.now a.row.now a.last.now a.level a.link a.above a.st r z.new.index z.new.row z.new.last) {x = Err c.in_err-walked-2.field-0.0} {y = c.from_residual-in_err-walked-2.result} (search rules)
    (page_left a.s.now a.index.now a.row.now a.last.now a.level a.link a.above a.st cur p pre.1 low here o n.result n.ensures c.if-n-eq0.false c.if-left-eq0-2.false w.new.index w.new.row w.new.last w.result c.in_ok-next.next w.ensures c.in_ok-next.was (Err c.in_err-walked-2.field-0.0) z.new.index z.new.row z.new.last z.new.row
    (entries_are a.s.now w.new.index w.new.row w.new.last a.level a.st.next p.first p.count c.in_ok-next.next z.new.index z.new.row z.new.last z.ensures c.in_err-walked-2.was) refl)

pub walk_page-returns-in_err-next : goal.walk_page-returns-in_err-next
walk_page-returns-in_err-next t c =
    let a = c.args in
    let pre = c.requires in
    let low : a.level < 129 = omega (arith, c.if-level-ge-DEEPEST) in
    let p = c.in_ok-p.p in
    let here = page_is a.s.now a.st.next c.read_page.ensures c.in_ok-p.was in
    let o = c.take_page-cur.ensures in
    let cur = c.take_page-cur.result in
    let n = c.enter-entered in
    let w = c.walk_page-2 in
    subst (λ r. PageSays a.s.now a.index.now a.row.now a.last.now a.level a.link a.above a.st r w.new.index w.new.row w.new.last) {x = Err c.in_err-next.field-0.0} {y = c.from_residual-in_err-next.result} (search rules)
    (left_stopped a.s.now a.index.now a.row.now a.last.now a.level a.link a.above a.st cur p pre.1 low here o n.result n.ensures c.if-n-eq0.false c.if-left-eq0-2.false w.new.index w.new.row w.new.last w.result c.in_err-next.field-0.0 w.ensures c.in_err-next.was)

pub walk_page-returns-in_err-p : goal.walk_page-returns-in_err-p
walk_page-returns-in_err-p t c =
    let a = c.args in
    subst (λ r. PageSays a.s.now a.index.now a.row.now a.last.now a.level a.link a.above a.st r a.index.now a.row.now a.last.now) {x = Err c.in_err-p.field-0.0} {y = c.from_residual.result} (search rules)
    (page_stops a.s.now a.level a.link a.above a.index.now a.row.now a.last.now a.st c.read_page.result c.in_err-p.field-0.0 (omega (arith, c.if-level-ge-DEEPEST)) c.read_page.ensures c.in_err-p.was)
