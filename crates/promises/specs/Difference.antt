-- The difference of a first and a second register.
use Rattle.std.specs.Prelude.{ℕ, Bool, false, cond, List, [], ◌∷◌, length}
use Rattle.std.proofs.Math.Option.{Option, none, some}
use Rattle.bytestring.specs.Bytes.{equal}
use Rattle.tree.specs.Record.{Record, records}
use Rattle.tree.specs.Table.{SpeltTree}
use Rattle.tree.specs.Judge.{due, Verdict, refused, accepted, judge}
use Rattle.promises.specs.Map.{find}
use Rattle.promises.specs.Pages.{pages_of, opened_pages, in_pages}
use Rattle.promises.specs.Outcome.{sizes}
use Rattle.promises.specs.Counted.{CountedOutcome, stopped, settle_counted}

-- Whether a set holds a record, key and value.
unfoldable pub is_value_there : Option (List ℕ) → List ℕ → Bool
is_value_there none v = false
is_value_there (some w) v = equal w v

unfoldable pub holds : List Record → Record → Bool
holds m r = is_value_there (find r.key m) r.val

-- The records that a set does not hold.
unfoldable pub lacking : List Record → List Record → List Record
lacking m [] = []
lacking m (r ∷ rs) =
    let later : List Record = lacking m rs in
    cond (holds m r) later (r ∷ later)

-- The answer is the register of all records in opened pages that the first does not hold, and the number of opened pages.
unfoldable pub difference_records : SpeltTree → SpeltTree → List Record
difference_records first second = lacking (records first) (in_pages (opened_pages (pages_of first) second))

-- The first is judged through before the second; then come the resulting count and the output.
unfoldable pub difference_verdicts : Verdict → Verdict → ℕ → CountedOutcome
difference_verdicts (refused r) v room = stopped r
difference_verdicts (accepted t) (refused r) room = stopped r
difference_verdicts (accepted t) (accepted u) room =
    settle_counted (due (sizes (difference_records t u) room)) (difference_records t u) (length (opened_pages (pages_of t) u))

unfoldable pub difference_outcome : List ℕ → List ℕ → ℕ → CountedOutcome
difference_outcome s u room = difference_verdicts (judge s) (judge u) room
