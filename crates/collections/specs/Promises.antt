-- What is promised of screens. Each promise is a statement; its proof has the same name in proofs/.
use Rattle.std.specs.Prelude.{ℕ, zero, suc, ◌*◌, ◌≤◌, ◌<◌, ◌≡◌, true, cond, List, [], ◌++◌, length}
use Rattle.std.proofs.Math.Option.{none, some}
use Rattle.bytestring.specs.Bytes.{ByteString, equal}
use Rattle.answer.specs.Answer.{encoded_of_two, said_of_two, taken_apart_in_two}
use Rattle.key.specs.Key.{collection}
use Rattle.tree.specs.Record.{Record}
use Rattle.tree.specs.Table.{table_of}
use Rattle.tree.specs.Judge.{rising}
use Rattle.promises.specs.Map.{find}
use Rattle.promises.specs.Counted.{counted, counted_answer}
use Rattle.promises.specs.Register.{RegisterOf}
use Rattle.collections.specs.Screen.{per_screen, of_collection, screens, on_screen, screen_outcome}
use Rattle.collections.specs.Order.{CollectionName, ShortOrdinary, screen_reply, ScreenOrder}

-- Collection names are the strings of 1 to 254 ordinary bytes.
abbrev pub CollectionNames : Type 0
CollectionNames = (c : List ℕ) → (CollectionName c → ShortOrdinary c) × (ShortOrdinary c → CollectionName c)

-- The call is refused in the order of checks, and writes the screen otherwise.
abbrev pub ScreenReplies : Type 0
ScreenReplies =
    (s c : ByteString) (n room : ℕ) → ScreenOrder s.list c.list n room (screen_reply s.list c.list n room)

-- Its answer as one number comes apart into its two values, or the number of its refusal.
abbrev pub ScreenComesApart : Type 0
ScreenComesApart =
    (s c : ByteString) (n room : ℕ)
    → taken_apart_in_two (encoded_of_two (counted_answer (screen_outcome s.list c.list n room)))
    ≡ said_of_two (counted_answer (screen_outcome s.list c.list n room))

-- The records of a collection are in key order, and each key that has its name before the slash finds in them what it finds in the register,
-- every other key nothing.
abbrev pub CollectionFinds : Type 0
CollectionFinds =
    (s : ByteString) (rs : List Record) → RegisterOf s.list rs → (c : List ℕ)
    → (rising (of_collection c rs) ≡ true)
    × ((key : List ℕ) → find key (of_collection c rs) ≡ cond (equal (collection key) c) (find key rs) none)

-- The number of screens is the least, from 1 on, that has room for all records.
abbrev pub ScreensSuffice : Type 0
ScreensSuffice =
    (count : ℕ) → (1 ≤ screens count) × (count ≤ per_screen * screens count)
    × ((n : ℕ) → 1 ≤ n → count ≤ per_screen * n → screens count ≤ n)

-- The screens before the n-th, one after the other.
unfoldable pub screens_before : ℕ → List Record → List Record
screens_before zero rs = []
screens_before (suc n) rs = screens_before n rs ++ on_screen n rs

-- All screens of a collection, one after the other, are the collection in key order.
abbrev pub ScreensInTurn : Type 0
ScreensInTurn = (rs : List Record) → screens_before (screens (length rs)) rs ≡ rs

-- Each record of a collection stands on exactly one of its screens: there its key finds its value, and on every other screen nothing. No other
-- record stands on any.
pub record OnOneScreen (rs : List Record) (key val : List ℕ) : Type 0 where
  pub number : ℕ
  pub exists : number < screens (length rs)
  pub shown : find key (on_screen number rs) ≡ some val
  pub nowhere_else : (n : ℕ) → (n ≡ number → ⊥) → find key (on_screen n rs) ≡ none

abbrev pub EachRecordOnce : Type 0
EachRecordOnce =
    (s : ByteString) (rs : List Record) → RegisterOf s.list rs → (key val : List ℕ) → find key rs ≡ some val
    → OnOneScreen (of_collection (collection key) rs) key val

abbrev pub NoOtherRecord : Type 0
NoOtherRecord =
    (s : ByteString) (rs : List Record) → RegisterOf s.list rs → (c key : List ℕ) (n : ℕ)
    → (find key rs ≡ none → find key (on_screen n (of_collection c rs)) ≡ none)
    × ((collection key ≡ c → ⊥) → find key (on_screen n (of_collection c rs)) ≡ none)

-- Each screen of an accepted register is accepted as the register of its records, and 65,536 bytes are room for it.
abbrev pub longest_screen : ℕ
longest_screen = 65536

abbrev pub ScreensAccepted : Type 0
ScreensAccepted =
    (s : ByteString) (rs : List Record) → RegisterOf s.list rs → (c : List ℕ) (n : ℕ)
    → RegisterOf (table_of (on_screen n (of_collection c rs))) (on_screen n (of_collection c rs))
    × (length (table_of (on_screen n (of_collection c rs))) ≤ longest_screen)

-- So in an output of that length every screen of a collection is shown: the call writes the register of its records and answers the number of
-- screens.
abbrev pub EveryScreenIsShown : Type 0
EveryScreenIsShown =
    (s : ByteString) (rs : List Record) → RegisterOf s.list rs → (c : List ℕ) → CollectionName c
    → (n : ℕ) → n < screens (length (of_collection c rs)) → (room : ℕ) → longest_screen ≤ room
    → screen_outcome s.list c n room
    ≡ counted (table_of (on_screen n (of_collection c rs))) (screens (length (of_collection c rs)))
