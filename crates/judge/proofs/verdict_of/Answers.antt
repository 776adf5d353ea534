use mathlib.Core.Path.{ap}
use mathlib.Core.Bool.{not}
use native.Mathlib.Omega.{arith}
use Rattle.bytestring.proofs.Tools.{bytes_of_lem}
use Rattle.judge.proofs.Verdicts.{row_room, row_chained, bytes_follow, too_many_records, wrong_prefix, unlawful_key, not_rising, not_filled, walked_depths, not_level, wrong_digest, accepted_all}
use Rattle.judge.proofs.verdict_of.Goals as goal

pub returns-then-st-s : goal.returns-then-st-s
returns-then-st-s c =
    let a = c.args in
    let pre = c.requires in
    let bytes = bytes_of_lem a.s.now (λ i h. omega (arith, c.type_inv.s i)) in
    bytes_follow a.s.now a.index.now a.row.now a.st bytes pre.0 pre.3 c.if-st-s.true

pub returns-then-st-gt-MOST : goal.returns-then-st-gt-MOST
returns-then-st-gt-MOST c =
    let a = c.args in
    let pre = c.requires in
    let bytes = bytes_of_lem a.s.now (λ i h. omega (arith, c.type_inv.s i)) in
    too_many_records a.s.now a.index.now a.row.now a.st bytes pre.0 pre.3 (omega (arith, c.if-st-s)) c.if-st-gt-MOST.true

pub prefixes_right-requires : goal.prefixes_right-requires
prefixes_right-requires c =
    let pre = c.requires in
    let bytes = bytes_of_lem c.args.s.now (λ i h. omega (arith, c.type_inv.s i)) in
    row_room bytes pre.3 (omega (arith, c.if-st-gt-MOST)) pre.2

pub returns-then-not-prefixes_right : goal.returns-then-not-prefixes_right
returns-then-not-prefixes_right c =
    let a = c.args in
    let pre = c.requires in
    let bytes = bytes_of_lem a.s.now (λ i h. omega (arith, c.type_inv.s i)) in
    wrong_prefix a.s.now a.index.now a.row.now a.st bytes pre.0 pre.3 (omega (arith, c.if-st-s)) (omega (arith, c.if-st-gt-MOST)) c.prefixes_right.result c.prefixes_right.ensures (ap not c.if-not-prefixes_right.true)

pub returns-then-not-st : goal.returns-then-not-st
returns-then-not-st c =
    let a = c.args in
    let pre = c.requires in
    let bytes = bytes_of_lem a.s.now (λ i h. omega (arith, c.type_inv.s i)) in
    unlawful_key a.s.now a.index.now a.row.now a.st bytes pre.0 pre.3 (omega (arith, c.if-st-s)) (omega (arith, c.if-st-gt-MOST)) c.prefixes_right.result c.prefixes_right.ensures (ap not c.if-not-prefixes_right.false) c.if-not-st.true

pub returns-then-not-st-2 : goal.returns-then-not-st-2
returns-then-not-st-2 c =
    let a = c.args in
    let pre = c.requires in
    let bytes = bytes_of_lem a.s.now (λ i h. omega (arith, c.type_inv.s i)) in
    not_rising a.s.now a.index.now a.row.now a.st bytes pre.0 pre.3 (omega (arith, c.if-st-s)) (omega (arith, c.if-st-gt-MOST)) c.prefixes_right.result c.prefixes_right.ensures (ap not c.if-not-prefixes_right.false) c.if-not-st.false c.if-not-st-2.true

pub returns-then-not-st-3 : goal.returns-then-not-st-3
returns-then-not-st-3 c =
    let a = c.args in
    let pre = c.requires in
    let bytes = bytes_of_lem a.s.now (λ i h. omega (arith, c.type_inv.s i)) in
    not_filled a.s.now a.index.now a.row.now a.st bytes pre.0 pre.3 (omega (arith, c.if-st-s)) (omega (arith, c.if-st-gt-MOST)) c.prefixes_right.result c.prefixes_right.ensures (ap not c.if-not-prefixes_right.false) c.if-not-st.false c.if-not-st-2.false c.if-not-st-3.true

pub note_layers-requires : goal.note_layers-requires
note_layers-requires c =
    let a = c.args in
    let pre = c.requires in
    let bytes = bytes_of_lem a.s.now (λ i h. omega (arith, c.type_inv.s i)) in
    walked_depths a.s.now a.index.now a.row.now a.st bytes pre.0 pre.3 (omega (arith, c.if-st-s)) (omega (arith, c.if-st-gt-MOST)) c.prefixes_right.result c.prefixes_right.ensures (ap not c.if-not-prefixes_right.false) c.if-not-st.false c.if-not-st-2.false c.if-not-st-3.false pre.1

pub returns-then-not-note_layers : goal.returns-then-not-note_layers
returns-then-not-note_layers c =
    let a = c.args in
    let pre = c.requires in
    let bytes = bytes_of_lem a.s.now (λ i h. omega (arith, c.type_inv.s i)) in
    let y = c.note_layers in
    not_level a.s.now a.index.now a.row.now a.st bytes pre.0 pre.3 (omega (arith, c.if-st-s)) (omega (arith, c.if-st-gt-MOST)) c.prefixes_right.result c.prefixes_right.ensures (ap not c.if-not-prefixes_right.false) c.if-not-st.false c.if-not-st-2.false c.if-not-st-3.false pre.1 y.result y.new.index y.ensures (ap not c.if-not-note_layers.true)

pub digests_hold-requires : goal.digests_hold-requires
digests_hold-requires c =
    let pre = c.requires in
    let bytes = bytes_of_lem c.args.s.now (λ i h. omega (arith, c.type_inv.s i)) in
    row_chained pre.3 (row_room bytes pre.3 (omega (arith, c.if-st-gt-MOST)) pre.2) (omega (arith, c.if-st-gt-MOST))

pub returns-then-not-digests_hold : goal.returns-then-not-digests_hold
returns-then-not-digests_hold c =
    let a = c.args in
    let pre = c.requires in
    let bytes = bytes_of_lem a.s.now (λ i h. omega (arith, c.type_inv.s i)) in
    let y = c.note_layers in
    let z = c.digests_hold in
    wrong_digest a.s.now a.index.now a.row.now a.st bytes pre.0 pre.3 (omega (arith, c.if-st-s)) (omega (arith, c.if-st-gt-MOST)) c.prefixes_right.result c.prefixes_right.ensures (ap not c.if-not-prefixes_right.false) c.if-not-st.false c.if-not-st-2.false c.if-not-st-3.false pre.1 y.result y.new.index y.ensures (ap not c.if-not-note_layers.false) pre.2 z.result z.ensures (ap not c.if-not-digests_hold.true)

pub returns : goal.returns
returns c =
    let a = c.args in
    let pre = c.requires in
    let bytes = bytes_of_lem a.s.now (λ i h. omega (arith, c.type_inv.s i)) in
    let y = c.note_layers in
    let z = c.digests_hold in
    accepted_all a.s.now a.index.now a.row.now a.st bytes pre.0 pre.3 (omega (arith, c.if-st-s)) (omega (arith, c.if-st-gt-MOST)) c.prefixes_right.result c.prefixes_right.ensures (ap not c.if-not-prefixes_right.false) c.if-not-st.false c.if-not-st-2.false c.if-not-st-3.false pre.1 y.result y.new.index y.ensures (ap not c.if-not-note_layers.false) pre.2 z.result z.ensures y.auto.index (ap not c.if-not-digests_hold.false)
