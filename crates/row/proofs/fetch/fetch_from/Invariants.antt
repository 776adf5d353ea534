use Prim.Native.Nat.{◌-◌}
use mathlib.Core.Path.{◌≡◌}
use lib.ListN.{length}
use Rattle.bytestring.specs.Bytes.{Bytes}
use Rattle.word.specs.Word.{page_in, entry_in}
use Rattle.row.specs.Fetch.{OnTheWay}
use Rattle.row.proofs.fetch.fetch_from.Given as goal

abbrev pub invariant-loop-at : goal.invariant-loop-at
invariant-loop-at l =
    (length l.buffer ≡ length l.initial.buffer) × Bytes l.s × (l.page ≡ page_in l.word) × (l.entry ≡ entry_in l.word) × OnTheWay l.s l.page l.entry l.note l.initial.buffer l.at l.buffer l.size

abbrev pub decreases-loop-at : goal.decreases-loop-at
decreases-loop-at l = length l.s - l.at
