-- The drawer screen: the records of a collection, eight to a screen, and what the call for a screen answers and writes.
use Rattle.std.specs.Prelude.{ℕ, ◌+◌, ◌*◌, ◌/◌, Bool, cond, ◌&&◌, List, [], ◌∷◌, eqb, ltb, leb, length, take, drop}
use Rattle.answer.specs.declared.Refusal.TheVariants.{UnlawfulKey, NoSuchScreen}
use Rattle.bytestring.specs.Bytes.{equal}
use Rattle.key.specs.Key.{collection, all_ordinary}
use Rattle.tree.specs.Record.{Record, records}
use Rattle.tree.specs.Judge.{Test, due, Verdict, refused, accepted, judge}
use Rattle.promises.specs.Map.{whose}
use Rattle.promises.specs.Outcome.{room_test}
use Rattle.promises.specs.Counted.{CountedOutcome, stopped, settle_counted}

-- ---- collections
-- A collection name is the part before the slash in some lawful key: 1 to 254 ordinary bytes, since a slash and one byte must still fit.
abbrev pub longest_collection : ℕ
longest_collection = 254

unfoldable pub is_collection_name : List ℕ → Bool
is_collection_name c = leb 1 (length c) && leb (length c) longest_collection && all_ordinary c

-- The records of a collection, in key order: those whose keys have its name before the slash.
abbrev pub is_in : List ℕ → List ℕ → Bool
is_in c key = equal (collection key) c

abbrev pub of_collection : List ℕ → List Record → List Record
of_collection c rs = whose (is_in c) rs

-- ---- screens
-- A screen has room for eight records.
abbrev pub per_screen : ℕ
per_screen = 8

-- The number of screens: the record count over 8, rounded up, and 1 for none.
unfoldable pub screens : ℕ → ℕ
screens count = cond (eqb count 0) 1 ((count + 7) / per_screen)

-- A screen holds the records that begin at 8 times its number.
unfoldable pub on_screen : ℕ → List Record → List Record
on_screen n rs = take per_screen (drop (per_screen * n) rs)

-- ---- the call
-- The screen number, then the output. The count is no test: a screen has no more records than its register.
abbrev pub screen_tests : ℕ → List Record → ℕ → List Test
screen_tests n rs room = (NoSuchScreen, ltb n (screens (length rs))) ∷ room_test (on_screen n rs) room ∷ []

-- The collection name comes before them. The number of screens is answered beside the table's length.
unfoldable pub screen_verdict : Verdict → List ℕ → ℕ → ℕ → CountedOutcome
screen_verdict (refused r) c n room = stopped r
screen_verdict (accepted t) c n room =
    let rs : List Record = of_collection c (records t) in
    settle_counted (due ((UnlawfulKey, is_collection_name c) ∷ screen_tests n rs room)) (on_screen n rs) (screens (length rs))

unfoldable pub screen_outcome : List ℕ → List ℕ → ℕ → ℕ → CountedOutcome
screen_outcome s c n room = screen_verdict (judge s) c n room
