-- What the walk over a register's pages says.
use Rattle.page_reader.specs.declared.Stop.{Stop}
use Rattle.std.specs.Prelude.{ℕ, zero, suc, ◌+◌, ◌-◌, ◌*◌, ◌≤◌, ◌<◌, ◌≡◌, Bool, true, false, not, ◌&&◌, List, [], ◌∷◌, ◌++◌, length, drop, get_or, set, Result, Ok, Err}
use Rattle.limits.specs.Limits.{deepest, most}
use Rattle.key.specs.Key.{lawful}
use Rattle.key.specs.Layer.{layer_of}
use Rattle.page.specs.Reading.{Read, read, times}
use Rattle.page.specs.Page.{RawEntry, entry as entry_at}
use Rattle.page_reader.specs.Place.{read_stop}
use Rattle.page_reader.specs.declared.PageAt.{PageAt}
use Rattle.page_keys.specs.Buffer.{HoldsKey, LastIs}
use Rattle.tree.specs.Tree.{page, empty, under, end, entry}
use Rattle.tree.specs.Table.{SpeltTree, read_tree, read_from}
use Rattle.tree.specs.Judge.{prefixes_right, prefixes_right_from}
use Rattle.word.specs.Word.{page_in, entry_in, layer_in, from_second, RecordWord, SpanWord}
use Rattle.index.specs.Slot.{Slot, slots, slots_from, key_of, lawful_slots, rising_after, last_after, bare, filled, filled_from}
use Rattle.index.specs.Chain.{Chain, chains, chains_from, LabelsAt, ChainsAt}
use Rattle.index.specs.declared.walk.WalkState.{WalkState}

-- ---- the index: a word for each record
-- The word of a slot, as the walk notes it and as it is when the layers are known. A register with a key that is not lawful is refused before.
abbrev pub DepthWord : ℕ → Slot → Type 0
DepthWord w x = RecordWord w x.page x.entry x.depth

pub record WordOf (w : ℕ) (x : Slot) : Type 0 where
  pub page : page_in w ≡ x.page
  pub entry : entry_in w ≡ x.entry
  pub layer : lawful (key_of x) ≡ true → layer_in w ≡ layer_of (key_of x)
  pub first : w < from_second

pub blank : Slot
blank = record { depth = 0; page = 0; entry = 0; value = 0; item = record { key = []; val = [] } }

-- The index holds such words of a row of slots, as many as it has room for.
unfoldable pub HoldsWords : (ℕ → Slot → Type 0) → List ℕ → List Slot → Type 0
HoldsWords Word index xs = (i : ℕ) → i < length xs → i < length index → Word (get_or index i 0) (get_or xs i blank)

abbrev pub Indexes : List ℕ → List Slot → Type 0
Indexes index xs = HoldsWords WordOf index xs

-- ---- tests on pages that only the walk makes
-- A linked page has an entry or a left link; the root has an entry or no left link.
unfoldable pub page_holds : ℕ → ℕ → ℕ → Bool
page_holds zero zero zero = true
page_holds zero zero (suc left) = false
page_holds zero (suc count) left = true
page_holds (suc link) zero zero = false
page_holds (suc link) zero (suc left) = true
page_holds (suc link) (suc count) left = true

-- The same of a page that was read.
unfoldable pub holding : ℕ → SpeltTree → Bool
holding zero (page empty es) = true
holding zero (page (under d p) end) = false
holding zero (page (under d p) (entry e g es)) = true
holding (suc link) t = not (bare t)

-- ---- words noted
-- One more word, where there is room.
pub record Noted (index : List ℕ) (k page entry depth : ℕ) (index' : List ℕ) : Type 0 where
  pub room : k < length index → (w : ℕ) × (index' ≡ set index k w) × RecordWord w page entry depth
  pub full : length index ≤ k → index' ≡ index

-- The words of one more chain, where there is room.
pub record ChainNoted (row : List ℕ) (k at link above to from records below : ℕ) (row' : List ℕ) : Type 0 where
  pub room : 2 * k + 1 < length row
      → (w v : ℕ) × (row' ≡ set (set row (2 * k) w) (2 * k + 1) v) × RecordWord w at link above × SpanWord v to from records below
  pub full : length row ≤ 2 * k + 1 → row' ≡ row

-- ---- one step of the walk
-- From the state st, the index, the row of chains and the key of the record before, the walk passed these slots and chains, and the pages it
-- passed hold these tests. The test of prefixes may fail where they are right, but not hold where one is wrong.
pub record Moved (s index row last : List ℕ) (xs : List Slot) (cs : List Chain) (rightPrefixes full : Bool) (st st' : WalkState) (index' row' last' : List ℕ) : Type 0 where
  pub ahead : st.next ≤ st'.next
  pub within : st'.next ≤ length s
  pub count : st'.count ≡ st.count + length xs
  pub chain_count : st'.chains ≡ st.chains + length cs
  pub prefixes : st'.prefixes ≡ true → (st.prefixes ≡ true) × (rightPrefixes ≡ true)
  pub fill : st'.filled ≡ (st.filled && full)
  pub lawful : st'.lawful ≡ (st.lawful && lawful_slots xs)
  pub rising : (k : List ℕ) → lawful_slots xs ≡ true → LastIs last st.last k → st'.rising ≡ (st.rising && rising_after k xs)
  pub latest : (k : List ℕ) → lawful_slots xs ≡ true → LastIs last st.last k → LastIs last' st'.last (last_after k xs)
  pub indexed : (before : List Slot) → length before ≡ st.count → HoldsWords DepthWord index before → HoldsWords DepthWord index' (before ++ xs)
  pub room : length row' ≡ length row
  pub kept : (i : ℕ) → i < 2 * st.chains → get_or row' i 0 ≡ get_or row i 0
  pub chained : st'.count ≤ most → ChainsAt s row' st.chains cs

-- What was read is a T, by the reading p.
pub record WalkedWhole {T : Type 0} (s index row last : List ℕ) (slack : ℕ) (p : Read T) (slots_of : T → List Slot) (chainsOf : T → List Chain) (prefixes fill : T → Bool) (st st' : WalkState) (index' row' last' : List ℕ) : Type 0 where
  pub what : T
  pub reads : p ≡ read what (drop st'.next s)
  pub few : length (slots_of what) + st.next ≤ st'.next + slack
  pub few_chains : length (chainsOf what) + st.next ≤ st'.next
  pub moved : Moved s index row last (slots_of what) (chainsOf what) (prefixes what) (fill what) st st' index' row' last'

abbrev pub PartWalked : {T : Type 0} → List ℕ → List ℕ → List ℕ → List ℕ → ℕ → Read T → (T → List Slot) → (T → List Chain) → (T → Bool) → (T → Bool) → WalkState → Result WalkState Stop → List ℕ → List ℕ → List ℕ → Type 0
PartWalked s index row last slack p slots_of chainsOf prefixes fill st (Ok st') index' row' last' = WalkedWhole s index row last slack p slots_of chainsOf prefixes fill st st' index' row' last'
PartWalked s index row last slack p slots_of chainsOf prefixes fill st (Err stop) index' row' last' = p ≡ read_stop stop

-- The walk over the page at st.next, which stands `level` deep, and over all pages below it. The link at `link` leads to the first of the
-- chain that the page belongs to, and `above` pages of it have no entries.
unfoldable pub PageSays : List ℕ → List ℕ → List ℕ → List ℕ → ℕ → ℕ → ℕ → WalkState → Result WalkState Stop → List ℕ → List ℕ → List ℕ → Type 0
PageSays s index row last level link above st r index' row' last' =
    (labels : List (List ℕ)) → length labels - 1 ≡ above → LabelsAt s link (st.next - 47 * above) labels st.next
    → PartWalked s index row last 0 (read_tree (deepest - level) (drop st.next s)) (slots level st.next) (chains st.count st.next labels)
    prefixes_right (λ t. holding link t && filled t) st r index' row' last'

-- The walk over the n entries from `first` on in the page at `pg`, and over all pages below them.
unfoldable pub EntriesSay : List ℕ → List ℕ → List ℕ → List ℕ → ℕ → ℕ → ℕ → ℕ → WalkState → Result WalkState Stop → List ℕ → List ℕ → List ℕ → Type 0
EntriesSay s index row last level pg first n st r index' row' last' =
    (es : List RawEntry) (past : ℕ) → times n entry_at (drop first s) ≡ read es (drop past s)
    → PartWalked s index row last n (read_from (read_tree (deepest - suc level)) es (drop st.next s)) (slots_from level pg first st.next [])
    (chains_from st.count st.next) (prefixes_right_from []) filled_from st r index' row' last'

-- One record was taken: its slot is x, whose key the buffer holds, and its prefix is right where `fits` says so.
unfoldable pub Taken : List ℕ → List ℕ → ℕ → ℕ → ℕ → List ℕ → ℕ → Bool → WalkState → WalkState → List ℕ → List ℕ → Type 0
Taken index last level pg at buffer size fits st st' index' last' =
    (s row : List ℕ) → st.next ≤ length s → (x : Slot) → x.depth ≡ level → x.page ≡ pg → x.entry ≡ at → HoldsKey buffer size (key_of x)
    → (right : Bool) → (fits ≡ true → right ≡ true) → Moved s index row last (x ∷ []) [] right true st st' index' row last'

-- The test of a page as a whole was taken in; what follows it begins where it ends.
pub record PageTaken (link : ℕ) (p : PageAt) (st st' : WalkState) : Type 0 where
  pub next : st'.next ≡ p.end
  pub count : st'.count ≡ st.count
  pub chains : st'.chains ≡ st.chains
  pub last : st'.last ≡ st.last
  pub prefixes : st'.prefixes ≡ st.prefixes
  pub lawful : st'.lawful ≡ st.lawful
  pub rising : st'.rising ≡ st.rising
  pub fill : st'.filled ≡ (st.filled && page_holds link p.count p.left)

-- The same, and a chain begins with it or ends with it.
pub record Entered (st st' : WalkState) : Type 0 where
  pub next : st'.next ≡ st.next
  pub count : st'.count ≡ st.count
  pub chains : st'.chains ≡ st.chains + 1
  pub last : st'.last ≡ st.last
  pub prefixes : st'.prefixes ≡ st.prefixes
  pub lawful : st'.lawful ≡ st.lawful
  pub rising : st'.rising ≡ st.rising
  pub fill : st'.filled ≡ st.filled

-- ---- the whole register
pub record Walks (s index row : List ℕ) (st : WalkState) : Type 0 where
  pub root : SpeltTree
  pub reads : read_tree deepest s ≡ read root (drop st.next s)
  pub within : st.next ≤ length s
  pub count : st.count ≡ length (slots 0 0 root)
  pub chain_count : st.chains ≡ length (chains 0 0 [] root)
  pub prefixes : st.prefixes ≡ true → prefixes_right root ≡ true
  pub fill : st.filled ≡ (holding 0 root && filled root)
  pub lawful : st.lawful ≡ lawful_slots (slots 0 0 root)
  pub rising : lawful_slots (slots 0 0 root) ≡ true → st.rising ≡ rising_after [] (slots 0 0 root)
  pub indexed : HoldsWords DepthWord index (slots 0 0 root)
  pub chained : st.count ≤ most → ChainsAt s row 0 (chains 0 0 [] root)

abbrev pub WalkSays : List ℕ → Result WalkState Stop → List ℕ → List ℕ → Type 0
WalkSays s (Ok st) index row = Walks s index row st
WalkSays s (Err stop) index row = read_tree deepest s ≡ read_stop stop
