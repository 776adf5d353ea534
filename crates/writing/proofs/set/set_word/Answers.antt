use native.Mathlib.Omega.{arith}
use mathlib.Core.Path.{refl}
use Rattle.bytestring.proofs.Tools.{bytes_of_lem}
use Rattle.reading.proofs.Answering.{position_within}
use Rattle.writing.proofs.Setting.{old_within, new_within, found_set, absent_within, absent_many, absent_set}
use borrow.Author.Rules.{rules}
use Rattle.writing.proofs.set.set_word.Goals as goal

pub offset_bounds-index-position : goal.offset_bounds-index-position
offset_bounds-index-position c = search (rules, position_within c.requires.accepted _ _ c.requires.searched _ _ c.in-Ok.is, c.requires.accepted.room)

pub bounds-index-position : goal.bounds-index-position
bounds-index-position c = omega (arith, position_within c.requires.accepted _ _ c.requires.searched _ _ c.in-Ok.is, c.requires.accepted.room)

pub word_of-requires : goal.word_of-requires
word_of-requires c =
    let bytes = bytes_of_lem c.args.s.now (λ i h. omega (arith, c.type_inv.s i)) in
    let pre = c.requires in
    let e = c.in-Ok.is in
    (old_within bytes pre _ _ e, new_within bytes pre _ _ e _ _ _ c.fetch_from-other.ensures)

pub offset_bounds-index-position-in-Ok : goal.offset_bounds-index-position-in-Ok
offset_bounds-index-position-in-Ok c = search (rules, position_within c.requires.accepted _ _ c.requires.searched _ _ c.in-Ok.is, c.requires.accepted.room)

pub bounds-index-position-in-Ok : goal.bounds-index-position-in-Ok
bounds-index-position-in-Ok c = omega (arith, position_within c.requires.accepted _ _ c.requires.searched _ _ c.in-Ok.is, c.requires.accepted.room)

pub returns-then-n-ge-MOST : goal.returns-then-n-ge-MOST
returns-then-n-ge-MOST c =
    let bytes = bytes_of_lem c.args.s.now (λ i h. omega (arith, c.type_inv.s i)) in
    absent_many bytes c.requires _ c.in-Err.is _ c.if-n-ge-MOST.true

pub insert_word-requires : goal.insert_word-requires
insert_word-requires c =
    let bytes = bytes_of_lem c.args.s.now (λ i h. omega (arith, c.type_inv.s i)) in
    (absent_within bytes c.requires _ c.in-Err.is, c.requires.room c.if-n-ge-MOST.false)

pub returns-in-Ok : goal.returns-in-Ok
returns-in-Ok c =
    let bytes = bytes_of_lem c.args.s.now (λ i h. omega (arith, c.type_inv.s i)) in
    found_set bytes c.requires _ _ c.in-Ok.is _ _ _ c.fetch_from-other.ensures _ _ c.word_of.ensures _ refl

pub returns-else-n-ge-MOST : goal.returns-else-n-ge-MOST
returns-else-n-ge-MOST c =
    let bytes = bytes_of_lem c.args.s.now (λ i h. omega (arith, c.type_inv.s i)) in
    absent_set bytes c.requires _ c.in-Err.is _ _ c.if-n-ge-MOST.false c.insert_word.auto.row c.insert_word.ensures
