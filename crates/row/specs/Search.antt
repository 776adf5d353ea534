-- What the search for a key and the counts beside it say: contracts inside the library cite it, and no public contract does.
use Rattle.std.specs.Prelude.{ℕ, suc, ◌≤◌, ◌<◌, ◌≡◌, Bool, cond, not, List, [], ◌∷◌, length, get_or, Result, Ok, Err}
use Rattle.std.proofs.Math.Option.{Option, none, some}
use Rattle.key.specs.Key.{less}
use Rattle.index.specs.Slot.{slots}
use Rattle.index.specs.Walk.{Indexes}
use Rattle.tree.specs.Record.{Record, records}
use Rattle.tree.specs.Table.{SpeltTree}
use Rattle.tree.specs.Judge.{accepted, judge}
use Rattle.tree.specs.Place.{places}
use Rattle.row.specs.Row.{nothing}
use Rattle.promises.specs.Outcome.{place_of}

abbrev pub place_found : Result (ℕ × ℕ) ℕ → Option ℕ
place_found (Ok (position, place)) = some place
place_found (Err position) = none

abbrev pub key_at : List Record → ℕ → List ℕ
key_at rs i = (get_or rs i nothing).key

-- How many records at the front have keys that pass a test.
unfoldable pub count_front : (List ℕ → Bool) → List Record → ℕ
count_front test [] = 0
count_front test (x ∷ m) =
    let more : ℕ = suc (count_front test m) in
    cond (test x.key) more 0

-- How many have a key less than k, and how many a key not greater than k.
abbrev pub count_below : List ℕ → List Record → ℕ
count_below k rs = count_front (λ key. less key k) rs

abbrev pub count_up_to : List ℕ → List Record → ℕ
count_up_to k rs = count_front (λ key. not (less k key)) rs

-- At the position found stands a record with the key; where there is none, the position is the number of records before the key.
abbrev pub PositionIs : List ℕ → List Record → Result (ℕ × ℕ) ℕ → Type 0
PositionIs k rs (Ok (position, place)) = (position < length rs) × (key_at rs position ≡ k) × (position ≡ count_below k rs)
PositionIs k rs (Err position) = (position ≡ count_below k rs) × (position ≡ count_up_to k rs)

-- In the index of an accepted register the place of the key's value is found, and the position of its record.
unfoldable pub SearchSays : List ℕ → List ℕ → ℕ → List ℕ → Result (ℕ × ℕ) ℕ → Type 0
SearchSays s index count k r =
    (t : SpeltTree) → judge s ≡ accepted t → count ≡ length (records t) → Indexes index (slots 0 0 t)
    → (place_found r ≡ place_of k (records t) (places 0 t)) × PositionIs k (records t) r

-- Whatever the register and the index hold, the position is within the words searched.
abbrev pub PositionFits : ℕ → Result (ℕ × ℕ) ℕ → Type 0
PositionFits count (Ok (position, place)) = position < count
PositionFits count (Err position) = position ≤ count

-- In the index of an accepted register r is what `counted` gives of the records.
unfoldable pub CountSays : (List Record → ℕ) → List ℕ → List ℕ → ℕ → ℕ → Type 0
CountSays counted s index count r =
    (t : SpeltTree) → judge s ≡ accepted t → count ≡ length (records t) → Indexes index (slots 0 0 t) → r ≡ counted (records t)
