-- What is promised of the calls. Each promise is a statement; its proof has the same name in proofs/Promises.antt.
use Rattle.std.specs.Prelude.{ℕ, ◌<◌, ◌≡◌, true, cond, ◌⊎◌, List, [], ◌∷◌, ◌++◌, length}
use Rattle.std.proofs.Math.Option.{some}
use Rattle.bytestring.specs.Bytes.{Bytes, ByteString}
use Rattle.answer.specs.Answer.{Said, refused_with, done_with, said, encoded_of_two, said_of_two, taken_apart_in_two}
use Rattle.fips180.specs.Hash.{sha256}
use Rattle.value.specs.Value.{value_codec, value_digest, is_value}
use Rattle.key.specs.Key.{less}
use Rattle.tree.specs.Tree.{pages}
use Rattle.tree.specs.Record.{Record, records}
use Rattle.tree.specs.Table.{SpeltTree, bytes_of_page, table_of}
use Rattle.tree.specs.Judge.{accepted, judge, fits}
use Rattle.head.specs.declared.Head.{Head}
use Rattle.head.specs.Head.{head_of}
use Rattle.promises.specs.Map.{find, greater, only_in_second}
use Rattle.promises.specs.Pages.{pages_of, known, opened_pages, linked_pages}
use Rattle.promises.specs.Outcome.{check_outcome, lookup_answer}
use Rattle.promises.specs.Moved.{moved, merge_outcome}
use Rattle.promises.specs.Counted.{counted_answer}
use Rattle.promises.specs.Difference.{difference_outcome}
use Rattle.promises.specs.Register.{RegisterOf}
use Rattle.promises.specs.Reply.{slash_reply, check_reply, lookup_reply, list_reply, at_or_after_reply, before_reply, run_reply, put_reply, join_reply, remove_reply, merge_reply, difference_reply}
use Rattle.promises.specs.Order.{ResultFinds, SlashOrder, CheckOrder, LookupOrder, ListOrder, AtOrAfterOrder, BeforeOrder, RunOrder, PutOrder, JoinOrder, RemoveOrder, MergeOrder, DifferenceOrder}
use Rattle.promises.specs.Plain.{Request, Call, map_answers, map_set, call_answer, call_head, held_after, library_answers, held, carrying, empty_register, puts_of}

-- Demand 2. The table of a set that fits is accepted as that set's register, and a register that is accepted is the table of a set that fits.
abbrev pub ReadsWhatItWrites : Type 0
ReadsWhatItWrites = (rs : List Record) → fits rs ≡ true → RegisterOf (table_of rs) rs

abbrev pub ReadsNothingElse : Type 0
ReadsNothingElse = (s : ByteString) (rs : List Record) → RegisterOf s.list rs → (fits rs ≡ true) × (s.list ≡ table_of rs)

-- The key check answers 7 exactly where the key rule is broken, and otherwise where the slash stands.
abbrev pub SlashReplies : Type 0
SlashReplies = (k : ByteString) → SlashOrder k.list (slash_reply k.list)

-- The calls do what they do to a sorted map, and are refused in the order of checks: when each number is given, and what is answered and
-- written otherwise.
abbrev pub CheckReplies : Type 0
CheckReplies = (s : ByteString) → CheckOrder s.list (check_reply s.list)

abbrev pub LookupReplies : Type 0
LookupReplies = (s k : ByteString) → LookupOrder s.list k.list (lookup_reply s.list k.list)

abbrev pub ListReplies : Type 0
ListReplies =
    (s : ByteString) (n room : ℕ) → ListOrder s.list n room (list_reply s.list n room)

abbrev pub AtOrAfterReplies : Type 0
AtOrAfterReplies =
    (s k : ByteString) (room : ℕ) → AtOrAfterOrder s.list k.list room (at_or_after_reply s.list k.list room)

abbrev pub BeforeReplies : Type 0
BeforeReplies = (s k : ByteString) (room : ℕ) → BeforeOrder s.list k.list room (before_reply s.list k.list room)

abbrev pub RunReplies : Type 0
RunReplies =
    (s first last : ByteString) (room : ℕ)
    → RunOrder s.list first.list last.list room (run_reply s.list first.list last.list room)

abbrev pub PutReplies : Type 0
PutReplies =
    (s : ByteString) (h : Head) (k v : ByteString) (room : ℕ)
    → PutOrder s.list h k.list v.list room (put_reply s.list h k.list v.list room)

abbrev pub JoinReplies : Type 0
JoinReplies =
    (s : ByteString) (h : Head) (k v : ByteString) (room : ℕ)
    → JoinOrder s.list h k.list v.list room (join_reply s.list h k.list v.list room)

abbrev pub RemoveReplies : Type 0
RemoveReplies =
    (s : ByteString) (h : Head) (k : ByteString) (room : ℕ) → RemoveOrder s.list h k.list room (remove_reply s.list h k.list room)

abbrev pub MergeReplies : Type 0
MergeReplies =
    (s : ByteString) (h : Head) (u : ByteString) (room : ℕ) → MergeOrder s.list h u.list room (merge_reply s.list h u.list room)

abbrev pub DifferenceReplies : Type 0
DifferenceReplies =
    (s u : ByteString) (room : ℕ) → DifferenceOrder s.list u.list room (difference_reply s.list u.list room)

-- Join and merge keep the value with the greater digest and, at equal digests, the one with the greater codec, whichever comes first.
abbrev pub Keeps : List ℕ → List ℕ → Type 0
Keeps lesser kept = (greater lesser kept ≡ kept) × (greater kept lesser ≡ kept)

abbrev pub GreaterDigestKept : Type 0
GreaterDigestKept = (v w : List ℕ) → less (value_digest v) (value_digest w) ≡ true → Keeps v w

abbrev pub GreaterCodecKept : Type 0
GreaterCodecKept =
    (v w : List ℕ) → is_value v ≡ true → is_value w ≡ true → value_digest v ≡ value_digest w → value_codec v < value_codec w → Keeps v w

-- Two values with equal digests and unlike codecs are unequal: the difference lists the second.
abbrev pub CodecsTold : Type 0
CodecsTold =
    (v w : List ℕ) → value_digest v ≡ value_digest w → (value_codec v ≡ value_codec w → ⊥) → only_in_second (some v) (some w) ≡ some w

-- Lookup's answer as one number comes apart into its two values, or the number of its refusal.
abbrev pub LookupComesApart : Type 0
LookupComesApart =
    (s k : ByteString) → taken_apart_in_two (encoded_of_two (lookup_answer s.list k.list)) ≡ said_of_two (lookup_answer s.list k.list)

-- The difference's answer as one number comes apart into its two values, or the number of its refusal.
abbrev pub DifferenceComesApart : Type 0
DifferenceComesApart =
    (s u : ByteString) (room : ℕ)
    → taken_apart_in_two (encoded_of_two (counted_answer (difference_outcome s.list u.list room)))
    ≡ said_of_two (counted_answer (difference_outcome s.list u.list room))

-- Demand 3. For every list of puts, removals, joins and merges, with any heads, from any accepted register: every call answers and leaves its
-- head as the plain map does, and after the list the register held is, byte for byte, that of the map's set.
abbrev pub AnswersAsTheMap : Type 0
AnswersAsTheMap =
    (start : ByteString) (rs : List Record) → RegisterOf start.list rs → (calls : List Call)
    → (library_answers calls start.list ≡ map_answers calls rs) × (held calls start.list ≡ table_of (map_set calls rs))

-- The map's set fits after every list, so that the register held is accepted as its register.
abbrev pub HoldsItsRegister : Type 0
HoldsItsRegister =
    (start : ByteString) (rs : List Record) → RegisterOf start.list rs → (calls : List Call)
    → RegisterOf (held calls start.list) (map_set calls rs)

-- A head that check answered and that goes along is true of the register held at every call, so that 17 is never given; and so it is at
-- the end.
pub record IsHeadOf (h : Head) (s : List ℕ) : Type 0 where
  pub set : List Record
  pub register : RegisterOf s set
  pub same : h ≡ head_of set

abbrev pub TrueAlong : List Request → Head → List ℕ → Type 0
TrueAlong [] h s = IsHeadOf h s
TrueAlong (q ∷ qs) h s =
    let c : Call = record { head = h; request = q } in
    IsHeadOf h s × (said (call_answer c s) ≡ refused_with 17 → ⊥) × TrueAlong qs (call_head c s) (held_after c s)

abbrev pub HeadGoesAlong : Type 0
HeadGoesAlong =
    (start : ByteString) (rs : List Record) → RegisterOf start.list rs → (requests : List Request)
    → TrueAlong requests (check_outcome start.list).head start.list

-- Puts into the empty register reach any set: those of its records in key order, each with an output of 4,194,304 bytes and with the head that
-- goes along, are all done.
abbrev pub AllDone : List (Said × Head) → Type 0
AllDone [] = Unit {0}
AllDone ((refused_with n, h) ∷ answers) = ⊥
AllDone ((done_with values, h) ∷ answers) = AllDone answers

abbrev pub puts_into : List Record → List Call
puts_into rs = carrying (puts_of rs) (check_outcome empty_register).head empty_register

abbrev pub PutsReachEverySet : Type 0
PutsReachEverySet =
    (rs : List Record) → fits rs ≡ true
    → AllDone (library_answers (puts_into rs) empty_register)
    × (held (puts_into rs) empty_register ≡ table_of rs)
    × RegisterOf (held (puts_into rs) empty_register) rs

-- Of all byte strings, exactly one is the register of a given set that fits. Its values are strings of bytes; its keys are by the key rule.
abbrev pub ValuesAreBytes : List Record → Type 0
ValuesAreBytes [] = Unit {0}
ValuesAreBytes (r ∷ rs) = Bytes r.val × ValuesAreBytes rs

pub record ExactlyOne (rs : List Record) : Type 0 where
  pub bytes : ByteString
  pub register : RegisterOf bytes.list rs
  pub no_other : (s : ByteString) → RegisterOf s.list rs → s.list ≡ bytes.list

abbrev pub OneRegister : Type 0
OneRegister = (rs : List Record) → fits rs ≡ true → ValuesAreBytes rs → ExactlyOne rs

-- Lists that reach the same set end in the same bytes.
abbrev pub SameSetSameBytes : Type 0
SameSetSameBytes =
    (s u : ByteString) (rs qs : List Record) → RegisterOf s.list rs → RegisterOf u.list qs → (calls others : List Call)
    → map_set calls rs ≡ map_set others qs → held calls s.list ≡ held others u.list

-- Merge is commutative, associative and idempotent, byte for byte and in its heads, where no call compared is refused.
abbrev pub MergeCommutes : Type 0
MergeCommutes =
    (a b : ByteString) (f g : Head) (m n : ℕ) (ab ba : List ℕ) (h i : Head)
    → merge_outcome a.list f b.list m ≡ moved ab h → merge_outcome b.list g a.list n ≡ moved ba i → (ab ≡ ba) × (h ≡ i)

abbrev pub MergeAssociates : Type 0
MergeAssociates =
    (a b c : ByteString) (f g : Head) (i j k l : ℕ) (ab bc abThenC aThenBc : List ℕ) (h h' h'' h''' : Head)
    → merge_outcome a.list f b.list i ≡ moved ab h → merge_outcome ab h c.list j ≡ moved abThenC h'
    → merge_outcome b.list g c.list k ≡ moved bc h'' → merge_outcome a.list f bc l ≡ moved aThenBc h'''
    → (abThenC ≡ aThenBc) × (h' ≡ h''')

abbrev pub MergeIdempotent : Type 0
MergeIdempotent =
    (a : ByteString) (f : Head) (n : ℕ) (aa : List ℕ) (h : Head) → merge_outcome a.list f a.list n ≡ moved aa h → (aa ≡ a.list) × (h ≡ f)

-- No two unequal pages of the two share a digest.
abbrev pub Among : List ℕ → List (List ℕ) → Type 0
Among p [] = ⊥
Among p (q ∷ qs) = (p ≡ q) ⊎ Among p qs

abbrev pub DigestsApart : List (List ℕ) → Type 0
DigestsApart ps = (p q : List ℕ) → Among p ps → Among q ps → sha256 p ≡ sha256 q → p ≡ q

abbrev pub NoSharedDigest : SpeltTree → SpeltTree → Type 0
NoSharedDigest t u = DigestsApart (pages_of t ++ pages_of u)

-- The difference of two accepted registers, unless a number is due, answers the number of opened pages and the register of exactly those
-- records of the second, key and value, that the first lacks, provided no two unequal pages of the two share a digest.
abbrev pub DifferenceIsExact : Type 0
DifferenceIsExact =
    (s u : ByteString) (t w : SpeltTree) → judge s.list ≡ accepted t → judge u.list ≡ accepted w → NoSharedDigest t w → (room : ℕ)
    → ResultFinds (difference_reply s.list u.list room) room (length (opened_pages (pages_of t) w) ∷ [])
    (λ key. only_in_second (find key (records t)) (find key (records w)))

-- Opened pages by descent: under a page that is known there is none; a page that is not is opened, and after it come those of the pages that
-- it links to.
unfoldable pub opened_of_each : List (List ℕ) → List SpeltTree → List SpeltTree
opened_of_each first [] = []
opened_of_each first (p ∷ ps) = opened_pages first p ++ opened_of_each first ps

abbrev pub OpenedByDescent : Type 0
OpenedByDescent =
    (first : List (List ℕ)) (t : SpeltTree)
    → opened_pages first t ≡ cond (known first (bytes_of_page t)) [] (t ∷ opened_of_each first (linked_pages t))

-- Where no page is known all are opened; of a register and itself none is.
abbrev pub AllOpened : Type 0
AllOpened = (t : SpeltTree) → length (opened_pages [] t) ≡ pages t

abbrev pub NoneOpened : Type 0
NoneOpened = (t : SpeltTree) → opened_pages (pages_of t) t ≡ []
