-- The eighteen numbers, what an answer says, and an answer as one number.
use Rattle.std.specs.Prelude.{ℕ, ◌+◌, ◌*◌, ◌/◌, ◌%◌, ◌^◌, ◌≡◌, cond, List, [], ◌∷◌, eqb, Result, Ok, Err}
use Rattle.answer.specs.declared.Refusal.{Refusal}
use Rattle.answer.specs.declared.Refusal.TheVariants.{TooLong, EndsEarly, Departs, BytesFollow, TooManyRecords, WrongPrefix, UnlawfulKey, KeysNotRising, WrongTree, WrongDigest, WrongValue, KeyAbsent, NoRoom, FirstAfterLast, NoSuchScreen, PageNotDue, UntrueHead, WrongStates}

-- 1: a lent register or path or a digest's input is longer than 4,194,304 bytes.
-- 2: each byte fits the page form, but the input ends while a byte or linked page is due.
-- 3: a byte departs from the page form.
-- 4: bytes follow the last linked page; in a path, the page where the search ends.
-- 5: more than 4,096 records, given or resulting.
-- 6: a prefix length is not the shared count.
-- 7: a key in a register, path or argument breaks the key rule, or a collection name is the part before the slash in no lawful key.
-- 8: a key is not greater than the key before it in tree order; in a path, than the key before it in its page.
-- 9: the pages, their entries and their linked gaps are not those that the rules give for the same keys.
-- 10: a link's digest is not that of its page.
-- 11: a value argument is not 33 bytes with codec 55 or 71 first, or a root digest is not 32 bytes.
-- 12: the key is absent, for lookup and remove; no record lies at or after the key, or before it.
-- 13: the result's table (for a single record the key, for a path its pages) is longer than the output, or than 4,194,304 bytes.
-- 14: a first key is greater than the last.
-- 15: a screen number is at or past the number of screens.
-- 16: the digest of a path's page is not the one due.
-- 17: a lent head is untrue of its register.
-- 18: the pages of states are missing, unreached or not in rising order of digest, a record of theirs is of another collection or codec, or a
-- state does not gather into an accepted register; or a save would lay two unequal pages under one digest.
abbrev pub number_of : Refusal → ℕ
number_of TooLong = 1
number_of EndsEarly = 2
number_of Departs = 3
number_of BytesFollow = 4
number_of TooManyRecords = 5
number_of WrongPrefix = 6
number_of UnlawfulKey = 7
number_of KeysNotRising = 8
number_of WrongTree = 9
number_of WrongDigest = 10
number_of WrongValue = 11
number_of KeyAbsent = 12
number_of NoRoom = 13
number_of FirstAfterLast = 14
number_of NoSuchScreen = 15
number_of PageNotDue = 16
number_of UntrueHead = 17
number_of WrongStates = 18

-- What an answer says: a refusal its number alone, a call that is done its values.
pub data Said : Type 0 where
  refused_with : ℕ → Said
  done_with : List ℕ → Said

abbrev pub said : Result ℕ Refusal → Said
said (Ok v) = done_with (v ∷ [])
said (Err r) = refused_with (number_of r)

-- Some calls have two values: a table's length and a count beside it, or a digest's place and a codec beside it.
abbrev pub said_of_two : Result (ℕ × ℕ) Refusal → Said
said_of_two (Ok (n, count)) = done_with (n ∷ count ∷ [])
said_of_two (Err r) = refused_with (number_of r)

-- An answer as one number: the refusal's number alone, or 256 times what its values make together.
abbrev pub code : {T : Type 0} → (T → ℕ) → Result T Refusal → ℕ
code joined (Ok values) = 256 * joined values
code joined (Err r) = number_of r

-- Of one value that is the value.
abbrev pub encoded : Result ℕ Refusal → ℕ
encoded = code (λ v. v)

-- Of two values the second is multiplied by 2^24; the first, a table's length or a place, is below that.
abbrev pub one_number : ℕ × ℕ → ℕ
one_number (n, count) = n + 2 ^ 24 * count

abbrev pub encoded_of_two : Result (ℕ × ℕ) Refusal → ℕ
encoded_of_two = code one_number

-- The one number taken apart: its remainder by 256 is a refusal's number, or 0; then the quotient is the value.
unfoldable pub taken_apart : ℕ → Said
taken_apart a = cond (eqb (a % 256) 0) (done_with (a / 256 ∷ [])) (refused_with (a % 256))

-- The same for two values: the remainder of the value by 2^24 is the first, the quotient the second.
unfoldable pub taken_apart_in_two : ℕ → Said
taken_apart_in_two a = cond (eqb (a % 256) 0) (done_with (a / 256 % 2 ^ 24 ∷ a / 256 / 2 ^ 24 ∷ [])) (refused_with (a % 256))

-- An answer as one number comes apart into what the answer says; that of a refusal has the value 0.
abbrev pub ComesApart : Type 0
ComesApart =
    ((answer : Result ℕ Refusal) → taken_apart (encoded answer) ≡ said answer)
    × ((r : Refusal) → encoded (Err r) / 256 ≡ 0)
