-- The records of a result, from those of two rows in key order.
use Rattle.std.specs.declared.cmp.Ordering.{Ordering}
use Rattle.std.specs.declared.cmp.Ordering.TheVariants.{Less, Equal, Greater}
use Rattle.std.specs.Prelude.{ℕ, ◌+◌, ◌≤◌, ◌<◌, ◌≡◌, Bool, true, false, cond, List, [], ◌∷◌, ◌++◌, length, take, drop, get_or, set, Option, Some, None}
use Rattle.value.specs.Value.{digest_length, value_in}
use Rattle.limits.specs.Limits.{most}
use Rattle.bytestring.specs.Bytes.{equal}
use Rattle.key.specs.Key.{less, order}
use Rattle.tree.specs.Record.{Record}
use Rattle.row.specs.Row.{source_of, Row, records_of}
use Rattle.row.specs.Memory.{Remembers, Recalls}
use Rattle.promises.specs.Map.{less_value, greater}
use Rattle.choice.specs.declared.cursor.Cursor.{Cursor}
use Rattle.choice.specs.declared.policy.Policy.{Policy}
use Rattle.choice.specs.declared.policy.Policy.TheVariants.{Merged, Lacking}
use Rattle.choice.specs.declared.policy.Candidate.{Candidate}

-- ---- two sets combined, in key order
-- What a rule keeps of a record whose key only the first set has, and of two records under one key. A record whose key only the second set
-- has is always kept.
pub record Rule : Type 0 where
  pub alone : Record → List Record
  pub both : Record → Record → List Record

-- With x as the first set's next record: what stands before x in key order is kept; `later` goes on with the first set's records after x.
unfoldable pub combine_before : Rule → Record → (List Record → List Record) → List Record → List Record
combine_before rule x later [] = rule.alone x ++ later []
combine_before rule x later (r ∷ rs) =
    let next : List Record = combine_before rule x later rs in
    cond (less x.key r.key) (rule.alone x ++ later (r ∷ rs))
    (cond (less r.key x.key) (r ∷ next)
    (rule.both x r ++ later rs))

unfoldable pub combined : Rule → List Record → List Record → List Record
combined rule [] rs = rs
combined rule (x ∷ m) rs = combine_before rule x (combined rule m) rs

-- All records of the two sets; where both have a key, `choose` takes the value from the first's and the second's.
abbrev pub weaving : (List ℕ → List ℕ → List ℕ) → Rule
weaving choose = record { alone = λ x. x ∷ []; both = λ x r. record { key = x.key; val = choose x.val r.val } ∷ [] }

abbrev pub weave : (List ℕ → List ℕ → List ℕ) → List Record → List Record → List Record
weave choose = combined (weaving choose)

-- The value where both sets have a key: the second's, or the greater of the two.
unfoldable pub choice_of : Bool → List ℕ → List ℕ → List ℕ
choice_of false v w = w
choice_of true v w = greater v w

-- The second set's records that the first does not hold, key and value.
abbrev pub sifting : Rule
sifting = record { alone = λ x. []; both = λ x r. cond (equal x.val r.val) [] (r ∷ []) }

abbrev pub sift : List Record → List Record → List Record
sift = combined sifting

-- The rule of each policy.
unfoldable pub rule_of : Policy → Rule
rule_of Merged = weaving (choice_of true)
rule_of Lacking = sifting

-- The same of the records of two rows.
unfoldable pub woven_of : Bool → List ℕ → List ℕ → List ℕ → ℕ → List ℕ → ℕ → List Record
woven_of greater s u first n second m = weave (choice_of greater) (records_of s u first n) (records_of s u second m)

unfoldable pub sifted_of : List ℕ → List ℕ → List ℕ → ℕ → List ℕ → ℕ → List Record
sifted_of s u first n second m = sift (records_of s u first n) (records_of s u second m)

unfoldable pub combined_of : Policy → List ℕ → List ℕ → List ℕ → ℕ → List ℕ → ℕ → List Record
combined_of policy s u first n second m = combined (rule_of policy) (records_of s u first n) (records_of s u second m)

-- ---- the next word of a row
-- The order of values as one of three cases.
unfoldable pub value_order : List ℕ → List ℕ → Ordering
value_order v w = cond (less_value v w) Less (cond (less_value w v) Greater Equal)

-- The value whose digest stands at a place of the register that a word belongs to.
unfoldable pub value_at : List ℕ → List ℕ → ℕ → ℕ → List ℕ
value_at s u w place = value_in (source_of s u w) place

-- Of two words, that of the greater value, where the values stand in this order.
abbrev pub greater_word : Ordering → ℕ → ℕ → ℕ
greater_word Less first second = second
greater_word Equal first second = first
greater_word Greater first second = first

-- Of two words for records under one key, the word of the value chosen.
unfoldable pub word_of : Bool → List ℕ → List ℕ → ℕ → ℕ → ℕ
word_of false v w first second = second
word_of true v w first second = greater_word (value_order v w) first second

-- Whether the first row's word is kept where the second row has not its key.
abbrev pub keeps_first : Policy → Bool
keeps_first Merged = true
keeps_first Lacking = false

-- Of two words for records under one key, by the order of their values: the one whose turn it is, and whether it is kept.
abbrev pub word_of_both : Policy → Ordering → ℕ → ℕ → ℕ
word_of_both Merged values first second = greater_word values first second
word_of_both Lacking values first second = second

abbrev pub keeps_of_both : Policy → Ordering → Bool
keeps_of_both Merged values = true
keeps_of_both Lacking Less = true
keeps_of_both Lacking Equal = false
keeps_of_both Lacking Greater = true

-- Of the next words of two rows, by the order of their keys and by their values: the one whose turn it is, whether it is kept, and which rows
-- go on.
abbrev pub candidate_of : Policy → Ordering → List ℕ → List ℕ → ℕ → ℕ → Candidate
candidate_of policy Less v w first second = record { word = first; kept = keeps_first policy; first = true; second = false }
candidate_of policy Equal v w first second = record {
  word = word_of_both policy (value_order v w) first second;
  kept = keeps_of_both policy (value_order v w);
  first = true;
  second = true;
}
candidate_of policy Greater v w first second = record { word = second; kept = true; first = false; second = true }

-- A word goes behind the first k of a row if it is kept, unless that makes more than the limit.
abbrev pub Kept : List ℕ → ℕ → ℕ → ℕ → Bool → List ℕ → Option ℕ → Type 0
Kept row k limit word kept row' (Some n) = (n ≡ cond kept (k + 1) k) × (n ≤ limit) × (row' ≡ cond kept (set row k word) row)
Kept row k limit word kept row' None = limit < cond kept (k + 1) k

-- Where there is a record at a cursor's position of a row, its key is held and its value's place known.
pub record Held (s u row : List ℕ) (n : ℕ) (keys notes : List ℕ) (c : Cursor) : Type 0 where
  pub remembers : Remembers s u keys notes
  pub recalls : c.at < n → Recalls s u (get_or row c.at 0) keys notes (record { from = c.from; size = c.size; value = c.value })

-- The key that is held for a cursor.
abbrev pub held_key : List ℕ → Cursor → List ℕ
held_key keys c = take c.size (drop c.from keys)

-- The word at a cursor's position can be read, and the key held for it, and the value by its digest's place.
pub record Readable (s u words keys : List ℕ) (c : Cursor) : Type 0 where
  pub word : c.at < length words
  pub key : c.from + c.size ≤ length keys
  pub value : c.value + digest_length ≤ length (source_of s u (get_or words c.at 0))

-- Of the words at two cursors the one whose turn it is.
abbrev pub candidate_at : Policy → List ℕ → List ℕ → List ℕ → List ℕ → Cursor → List ℕ → List ℕ → Cursor → Candidate
candidate_at policy s u first keys a second others b =
    let x : ℕ = get_or first a.at 0 in
    let y : ℕ = get_or second b.at 0 in
    candidate_of policy (order (held_key keys a) (held_key others b)) (value_at s u x a.value) (value_at s u y b.value) x y

-- Where the second row is used up, the first's words from i up to here are kept.
abbrev pub rest_end : Policy → ℕ → ℕ → ℕ
rest_end Merged i n = n
rest_end Lacking i n = i

-- Behind the first k words of a row stands the rest of another, unless that is more than the limit.
abbrev pub AppendSays : List ℕ → ℕ → ℕ → List ℕ → Option ℕ → List ℕ → Type 0
AppendSays row k limit rest (Some n) row' = (n ≡ k + length rest) × (n ≤ limit) × (take n row' ≡ take k row ++ rest)
AppendSays row k limit rest None row' = limit < k + length rest

-- The first n words of a row stand for these records.
pub record RowOf (s u row : List ℕ) (n : ℕ) (rs : List Record) : Type 0 where
  pub whole : Row s u row n
  pub records : records_of s u row n ≡ rs

-- A row stands for these records, unless they are more than the limit.
abbrev pub WithinSays : ℕ → List ℕ → List ℕ → List Record → Option ℕ → List ℕ → Type 0
WithinSays limit s u rs (Some n) row = RowOf s u row n rs
WithinSays limit s u rs None row = limit < length rs

abbrev pub ChooseSays : List ℕ → List ℕ → List Record → Option ℕ → List ℕ → Type 0
ChooseSays = WithinSays most
