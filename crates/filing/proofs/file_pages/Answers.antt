use mathlib.Core.Path.{ap}
use mathlib.Core.Bool.{not}
use borrow.Author.Rules.{rules}
use Prim.Native.Nat.{ℕ, ◌<◌}
use mathlib.Core.List.{List}
use native.Mathlib.Omega.{arith}
use lib.ListN.{length, get_or, set, length-set}
use Rattle.filing.proofs.Passing.{is_named, not_named}
use Rattle.filing.proofs.Filing.{none_filed, standing_pages, in_strings, same_rest, goes_ahead, one_filed, no_word_left, must_be_named, filing_ends}
use Rattle.filing.proofs.file_pages.Goals as goal

pub loop-i-init : goal.loop-i-init
loop-i-init c =
    let a = c.args in
    (search rules, search rules, search rules, λ g. none_filed a.states.now a.sequence.now a.words.now a.total g.raws)

pub returns-then-total-j : goal.returns-then-total-j
returns-then-total-j c g =
    let l = c.loop-i in
    λ m. no_word_left g l.words l.i l.j (l.invariant.3 g) m c.loop-i-test.true c.if-total-j.true

pub hash_page-digest-requires : goal.hash_page-digest-requires
hash_page-digest-requires c = (standing_pages c.requires, c.loop-i-test.true)

pub offset_bounds-words-j : goal.offset_bounds-words-j
offset_bounds-words-j c = omega (arith, c.requires.room)

pub bounds-words-j : goal.bounds-words-j
bounds-words-j c = omega (arith, c.requires.room)

pub names_digest-requires : goal.names_digest-requires
names_digest-requires c =
    let pre = c.requires in
    let l = c.loop-i in
    (in_strings pre l.words l.j (l.invariant.3 pre).rest l.j (omega arith) (omega arith), search rules)

pub returns-then-not-names_digest : goal.returns-then-not-names_digest
returns-then-not-names_digest c g =
    let l = c.loop-i in
    let page = c.hash_page-digest in
    let test = c.names_digest in
    let other = not_named _ _ test.result test.ensures (ap not c.if-not-names_digest.true) in
    λ m. must_be_named g l.words l.i l.j (l.invariant.3 g) m c.loop-i-test.true (omega arith)
    page.result (page.ensures (standing_pages g)) other

pub offset_bounds-words-i : goal.offset_bounds-words-i
offset_bounds-words-i c = omega (arith, c.requires.room)

pub bounds-words-i : goal.bounds-words-i
bounds-words-i c = omega (arith, c.requires.room)

pub pass_words-j-requires : goal.pass_words-j-requires
pass_words-j-requires c =
    let pre = c.requires in
    let l = c.loop-i in
    let there : l.i < length l.words = omega (arith, pre.room) in
    let labels : List ℕ = set l.words l.i (get_or l.words l.j 0) in
    let rest = same_rest pre l.words l.i l.j (l.invariant.3 pre) l.invariant.0 there in (
      l.invariant.1,
      omega (arith, pre.room, length-set l.words l.i (get_or l.words l.j 0)),
      in_strings pre labels l.j rest,
      search rules,
    )

pub loop-i-preserved : goal.loop-i-preserved
loop-i-preserved c =
    let pre = c.requires in
    let l = c.loop-i in
    let page = c.hash_page-digest in
    let test = c.names_digest in
    let past = c.pass_words-j in
    let there : l.i < length l.words = omega (arith, pre.room) in
    let right = is_named _ _ test.result test.ensures (ap not c.if-not-names_digest.false) in
    let more : l.j < c.args.total = omega arith in
    let ahead = goes_ahead pre l.words l.i l.j (l.invariant.3 pre) l.invariant.0 there more
    page.result (page.ensures (standing_pages pre)) right past.result past.ensures in (
      omega (arith, ahead),
      past.ensures.within,
      omega (arith, length-set l.words l.i (get_or l.words l.j 0)),
      λ g. one_filed g l.words l.i l.j (l.invariant.3 g) l.invariant.0 there more
          page.result (page.ensures (standing_pages g)) right past.result past.ensures,
    )

pub returns : goal.returns
returns c g =
    let l = c.loop-i in
    filing_ends g l.words l.i l.j (l.invariant.3 g) (omega arith) l.invariant.0 l.invariant.1 l.invariant.2
