use mathlib.Core.Path.{ap}
use mathlib.Core.Bool.{not}
use Prim.Native.Nat.{◌+◌, ◌≤◌}
use mathlib.Core.Path.{◌≡◌}
use native.Mathlib.Omega.{arith}
use lib.ListN.{length}
use Rattle.bytestring.proofs.Tools.{bytes_of_lem}
use Rattle.summing.specs.Inner.{raws_in}
use Rattle.states_reader.proofs.Noting.{noting_right, noting_wrong}
use Rattle.states_reader.proofs.Sorting.{filing_right, filing_wrong}
use Rattle.states_reader.proofs.Judging.{judged_right, judged_wrong}
use Rattle.states_reader.proofs.Holding.{few_records, few_words_lem, words_fit, not_passing, state_wrong, unsorted, not_matched, root_wrong, rooted, hold_says}
use Rattle.states_reader.proofs.states_hold.Goals as goal

pub note_roots-requires : goal.note_roots-requires
note_roots-requires c =
    let a = c.args in
    let g = c.requires in
    let states = bytes_of_lem a.states.now (λ i h. omega (arith, c.type_inv.states i)) in
    let sequence = bytes_of_lem a.sequence.now (λ i h. omega (arith, c.type_inv.sequence i)) in
    (g.0, omega (arith, few_records g.0 g.1 states sequence g.2 g.3), words_fit g.0 g.1 states sequence g.2 g.3)

pub returns-then-not-note_roots : goal.returns-then-not-note_roots
returns-then-not-note_roots c =
    let a = c.args in
    let g = c.requires in
    let states = bytes_of_lem a.states.now (λ i h. omega (arith, c.type_inv.states i)) in
    let sequence = bytes_of_lem a.sequence.now (λ i h. omega (arith, c.type_inv.sequence i)) in
    not_passing g.0 g.1 states sequence g.2 g.3 (state_wrong g.0 g.1 states sequence g.2 g.3
    (noting_wrong a.states.now a.index.now a.count a.labels.now a.m c.note_roots.result c.note_roots.new.roots c.note_roots.new.words
    c.note_roots.ensures (ap not c.if-not-note_roots.true) g.0))

pub overflow_add-m : goal.overflow_add-m
overflow_add-m c =
    let a = c.args in
    let g = c.requires in
    let states = bytes_of_lem a.states.now (λ i h. omega (arith, c.type_inv.states i)) in
    let sequence = bytes_of_lem a.sequence.now (λ i h. omega (arith, c.type_inv.sequence i)) in
    omega (arith, few_words_lem g.0 g.1 states sequence g.2 g.3)

pub file_links-requires : goal.file_links-requires
file_links-requires c =
    let a = c.args in
    let g = c.requires in
    let states = bytes_of_lem a.states.now (λ i h. omega (arith, c.type_inv.states i)) in
    let sequence = bytes_of_lem a.sequence.now (λ i h. omega (arith, c.type_inv.sequence i)) in
    let roots = c.note_roots.new.roots in
    let words = c.note_roots.new.words in
    let noted = noting_right a.states.now a.index.now a.count a.labels.now a.m c.note_roots.result roots words
    c.note_roots.ensures (ap not c.if-not-note_roots.false) g.0 in
    let size : length words ≡ length a.labels.now = omega (arith, c.note_roots.auto) in
    let room : a.count ≤ length roots = omega (arith, few_records g.0 g.1 states sequence g.2 g.3, c.note_roots.auto) in
    unsorted g.0 g.1 states sequence g.2 g.3 noted size room

pub returns-then-not-file_links : goal.returns-then-not-file_links
returns-then-not-file_links c =
    let a = c.args in
    let g = c.requires in
    let states = bytes_of_lem a.states.now (λ i h. omega (arith, c.type_inv.states i)) in
    let sequence = bytes_of_lem a.sequence.now (λ i h. omega (arith, c.type_inv.sequence i)) in
    let roots = c.note_roots.new.roots in
    let words = c.note_roots.new.words in
    let noted = noting_right a.states.now a.index.now a.count a.labels.now a.m c.note_roots.result roots words
    c.note_roots.ensures (ap not c.if-not-note_roots.false) g.0 in
    let size : length words ≡ length a.labels.now = omega (arith, c.note_roots.auto) in
    let room : a.count ≤ length roots = omega (arith, few_records g.0 g.1 states sequence g.2 g.3, c.note_roots.auto) in
    let labels = c.file_links.new.words in
    not_passing g.0 g.1 states sequence g.2 g.3 (not_matched g.0 g.1 states sequence g.2 g.3 noted size room
    (filing_wrong a.states.now a.sequence.now words (a.m + a.count) a.pages.now a.n (raws_in a.sequence.now)
    c.file_links.result labels c.file_links.ensures (ap not c.if-not-file_links.true)))

pub judge_roots-requires : goal.judge_roots-requires
judge_roots-requires c =
    let a = c.args in
    let g = c.requires in
    let states = bytes_of_lem a.states.now (λ i h. omega (arith, c.type_inv.states i)) in
    let sequence = bytes_of_lem a.sequence.now (λ i h. omega (arith, c.type_inv.sequence i)) in
    let roots = c.note_roots.new.roots in
    let words = c.note_roots.new.words in
    let noted = noting_right a.states.now a.index.now a.count a.labels.now a.m c.note_roots.result roots words
    c.note_roots.ensures (ap not c.if-not-note_roots.false) g.0 in
    let size : length words ≡ length a.labels.now = omega (arith, c.note_roots.auto) in
    let room : a.count ≤ length roots = omega (arith, few_records g.0 g.1 states sequence g.2 g.3, c.note_roots.auto) in
    let labels = c.file_links.new.words in
    let filed = filing_right a.states.now a.sequence.now words (a.m + a.count) a.pages.now a.n (raws_in a.sequence.now)
    c.file_links.result labels c.file_links.ensures (ap not c.if-not-file_links.false) in
    (rooted g.0 g.1 states sequence g.2 g.3 noted size room filed, c.own_position-own.ensures.within)

pub returns-then-not-judge_roots : goal.returns-then-not-judge_roots
returns-then-not-judge_roots c =
    let a = c.args in
    let g = c.requires in
    let states = bytes_of_lem a.states.now (λ i h. omega (arith, c.type_inv.states i)) in
    let sequence = bytes_of_lem a.sequence.now (λ i h. omega (arith, c.type_inv.sequence i)) in
    let roots = c.note_roots.new.roots in
    let words = c.note_roots.new.words in
    let noted = noting_right a.states.now a.index.now a.count a.labels.now a.m c.note_roots.result roots words
    c.note_roots.ensures (ap not c.if-not-note_roots.false) g.0 in
    let size : length words ≡ length a.labels.now = omega (arith, c.note_roots.auto) in
    let room : a.count ≤ length roots = omega (arith, few_records g.0 g.1 states sequence g.2 g.3, c.note_roots.auto) in
    let labels = c.file_links.new.words in
    let filed = filing_right a.states.now a.sequence.now words (a.m + a.count) a.pages.now a.n (raws_in a.sequence.now)
    c.file_links.result labels c.file_links.ensures (ap not c.if-not-file_links.false) in
    let after = c.judge_roots.new.pages in
    not_passing g.0 g.1 states sequence g.2 g.3 (root_wrong g.0 g.1 states sequence g.2 g.3 noted size room
    (judged_wrong a.states.now a.sequence.now labels roots a.count c.own_position-own.result a.n
    c.judge_roots.result after c.judge_roots.ensures (ap not c.if-not-judge_roots.true)))

pub all_noted-requires : goal.all_noted-requires
all_noted-requires c = omega (arith, c.requires.1.few, c.requires.3)

pub returns : goal.returns
returns c =
    let a = c.args in
    let g = c.requires in
    let states = bytes_of_lem a.states.now (λ i h. omega (arith, c.type_inv.states i)) in
    let sequence = bytes_of_lem a.sequence.now (λ i h. omega (arith, c.type_inv.sequence i)) in
    let roots = c.note_roots.new.roots in
    let words = c.note_roots.new.words in
    let noted = noting_right a.states.now a.index.now a.count a.labels.now a.m c.note_roots.result roots words
    c.note_roots.ensures (ap not c.if-not-note_roots.false) g.0 in
    let size : length words ≡ length a.labels.now = omega (arith, c.note_roots.auto) in
    let room : a.count ≤ length roots = omega (arith, few_records g.0 g.1 states sequence g.2 g.3, c.note_roots.auto) in
    let labels = c.file_links.new.words in
    let filed = filing_right a.states.now a.sequence.now words (a.m + a.count) a.pages.now a.n (raws_in a.sequence.now)
    c.file_links.result labels c.file_links.ensures (ap not c.if-not-file_links.false) in
    let after = c.judge_roots.new.pages in
    let judged = judged_right a.states.now a.sequence.now labels roots a.count c.own_position-own.result a.n
    c.judge_roots.result after c.judge_roots.ensures (ap not c.if-not-judge_roots.false) in
    hold_says g.0 g.1 states sequence g.2 g.3 noted size room filed a.key.now c.own_position-own.result c.own_position-own.ensures.says judged
    c.all_noted.result c.all_noted.ensures
