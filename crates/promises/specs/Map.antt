-- The sorted map: a set of records, written as the list of its records in key order, and what the calls do to it.
use Rattle.std.specs.Prelude.{ℕ, zero, suc, Bool, true, false, cond, ◌&&◌, ◌||◌, List, [], ◌∷◌, take}
use Rattle.std.proofs.Math.Option.{Option, none, some}
use Rattle.bytestring.specs.Bytes.{equal}
use Rattle.value.specs.Value.{value_digest}
use Rattle.key.specs.Key.{less}
use Rattle.tree.specs.Record.{Record}

-- The value under a key.
unfoldable pub find : List ℕ → List Record → Option (List ℕ)
find k [] = none
find k (x ∷ m) =
    let later : Option (List ℕ) = find k m in
    cond (less k x.key) none (cond (less x.key k) later (some x.val))

unfoldable pub is_there : {A : Type 0} → Option A → Bool
is_there none = false
is_there (some a) = true

-- The record r in its place; where its key is there already, `choose` takes the value from the one there and the new one.
unfoldable pub insert : (List ℕ → List ℕ → List ℕ) → Record → List Record → List Record
insert choose r [] = r ∷ []
insert choose r (x ∷ m) =
    let later : List Record = insert choose r m in
    cond (less r.key x.key) (r ∷ x ∷ m)
    (cond (less x.key r.key) (x ∷ later)
    (record { key = x.key; val = choose x.val r.val } ∷ m))

-- Put sets a key's value.
unfoldable pub put : Record → List Record → List Record
put r m = insert (λ old new. new) r m

-- The order of values: by their digests and, where these are equal, by the codecs, their first bytes.
unfoldable pub less_value : List ℕ → List ℕ → Bool
less_value v w = less (value_digest v) (value_digest w) || (equal (value_digest v) (value_digest w) && less (take 1 v) (take 1 w))

-- The greater of two values.
unfoldable pub greater : List ℕ → List ℕ → List ℕ
greater v w = cond (less_value v w) w v

-- Join puts the record, but keeps the greater of two values.
unfoldable pub join : Record → List Record → List Record
join r m = insert greater r m

-- Remove takes the record away.
unfoldable pub remove : List ℕ → List Record → List Record
remove k [] = []
remove k (x ∷ m) =
    let later : List Record = remove k m in
    cond (less k x.key) (x ∷ m) (cond (less x.key k) (x ∷ later) m)

-- Merge joins all records of the second into the first.
unfoldable pub merge : List Record → List Record → List Record
merge m [] = m
merge m (r ∷ rs) = merge (join r m) rs

-- The greater of what a key finds in two sets.
unfoldable pub greater_found : Option (List ℕ) → Option (List ℕ) → Option (List ℕ)
greater_found none w = w
greater_found (some v) none = some v
greater_found (some v) (some w) = some (greater v w)

-- What a key finds in a second set where a first has another value under it, or none; and nothing otherwise.
unfoldable pub only_in_second : Option (List ℕ) → Option (List ℕ) → Option (List ℕ)
only_in_second v none = none
only_in_second none (some w) = some w
only_in_second (some v) (some w) = cond (equal v w) none (some w)

-- The records whose keys pass a test.
unfoldable pub whose : (List ℕ → Bool) → List Record → List Record
whose test [] = []
whose test (x ∷ m) =
    let later : List Record = whose test m in
    cond (test x.key) (x ∷ later) later

-- The n-th record in key order, n from 0.
unfoldable pub nth : ℕ → List Record → Option Record
nth n [] = none
nth zero (r ∷ m) = some r
nth (suc n) (r ∷ m) = nth n m
