use borrow.Author.Rules.{rules}
use Prim.Native.Nat.{ℕ, ◌+◌, ◌*◌, ◌-◌, ◌<◌}
use mathlib.Core.Path.{◌≡◌}
use native.Mathlib.Omega.{arith}
use lib.ListN.{length}
use Rattle.row.proofs.Memories.{next_small, size_small, recalled}
use Rattle.row.proofs.recall.recall.Goals as goal

pub note_word-requires : goal.note_word-requires
note_word-requires c =
    let p = c.requires in
    let slot : ℕ = c.args.base + c.slot_of.result in
    let room : slot < length c.args.notes.now = omega (arith, p, c.slot_of.ensures) in
    let whole : 256 * slot + 256 - 256 * slot ≡ 256 = omega arith in
    let f = c.fetch_of-found.ensures in
    (next_small p.2 p.3 room _ whole _ c.note_for-note.ensures _ _ f p.0 p.1, size_small p.2 p.3 room _ whole _ c.note_for-note.ensures _ _ f)

pub returns : goal.returns
returns c =
    let p = c.requires in
    let slot : ℕ = c.args.base + c.slot_of.result in
    let room : slot < length c.args.notes.now = omega (arith, p, c.slot_of.ensures) in
    let whole : 256 * slot + 256 - 256 * slot ≡ 256 = omega arith in
    recalled p.2 p.3 room _ whole _ c.note_for-note.ensures _ _ c.fetch_of-found.ensures (search rules) _ c.note_word.ensures
