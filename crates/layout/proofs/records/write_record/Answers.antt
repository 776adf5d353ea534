use mathlib.Core.Path.{sym, ◌∙◌}
use borrow.Author.Tests.{leb-true}
use Rattle.layout.proofs.Holding.{held_length, key_room, entry_refused, entry_written}
use Rattle.layout.proofs.records.write_record.Goals as goal

pub slice_bounds-fits_after-end-2 : goal.slice_bounds-fits_after-end-2
slice_bounds-fits_after-end-2 c = held_length c.requires.1

pub fits_after-requires : goal.fits_after-requires
fits_after-requires c = (c.recall-found.ensures.room, c.recall-found.ensures.short)

pub shape_of-keys-then-not-fits_after : goal.shape_of-keys-then-not-fits_after
shape_of-keys-then-not-fits_after c = c.recall-found.auto.keys

pub shape_of-notes-then-not-fits_after : goal.shape_of-notes-then-not-fits_after
shape_of-notes-then-not-fits_after c = c.recall-found.auto.notes

pub returns-then-not-fits_after : goal.returns-then-not-fits_after
returns-then-not-fits_after c =
    let a = c.args in
    let r = c.recall-found in
    let fits = c.fits_after in
    entry_refused c.requires.1 r.ensures r.auto.notes a.link a.out.now fits.result (rw c.is_some.ensures at fits.ensures) c.if-not-fits_after.true

pub slice_bounds-write_after-end-2 : goal.slice_bounds-write_after-end-2
slice_bounds-write_after-end-2 c = held_length c.requires.1

pub write_after-len-requires : goal.write_after-len-requires
write_after-len-requires c =
    let r = c.recall-found in
    let fits = c.fits_after in
    (r.ensures.room, r.ensures.short, leb-true _ _ (sym (rw c.is_some.ensures at fits.ensures) ∙ c.if-not-fits_after.false))

pub hold-requires : goal.hold-requires
hold-requires c = (c.recall-found.ensures.room, key_room c.requires.1 c.recall-found.ensures c.recall-found.auto.notes)

pub shape_of-keys : goal.shape_of-keys
shape_of-keys c = c.recall-found.auto.keys

pub shape_of-notes : goal.shape_of-notes
shape_of-notes c = c.recall-found.auto.notes

pub returns : goal.returns
returns c =
    let a = c.args in
    let r = c.recall-found in
    let fits = c.fits_after in
    let value = c.value_of-value in
    let wrote = c.write_after-len in
    entry_written c.requires.1 r.ensures r.auto.notes a.link a.out.now fits.result (rw c.is_some.ensures at fits.ensures)
    value.result _ _ wrote.result c.if-not-fits_after.false (value.ensures r.ensures.within ∙ r.ensures.val) wrote.ensures.output wrote.ensures.count c.hold.ensures
