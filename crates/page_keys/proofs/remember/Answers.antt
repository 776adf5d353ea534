use native.Mathlib.Omega.{arith}
use mathlib.Core.Path.{sym}
use lib.Seq.{length-take-le}
use borrow.Author.Rules.{rules}
use Rattle.page_keys.proofs.Buffers.{room_for_last, remembered}
use Rattle.page_keys.proofs.remember.Goals as goal

pub returns-then-buffer-size : goal.returns-then-buffer-size
returns-then-buffer-size c h = absurd (omega arith)

pub slice_bounds-write_bytes-end : goal.slice_bounds-write_bytes-end
slice_bounds-write_bytes-end c = sym (length-take-le _ _ (search rules))

pub write_bytes-requires : goal.write_bytes-requires
write_bytes-requires c = search (rules, room_for_last)

pub returns : goal.returns
returns c h = search (rules, remembered)
