-- An answer as one number comes apart into what the answer says.
use Rattle.std.specs.Prelude.{Result, Ok, Err}
use Prim.Native.Nat.{ℕ, ◌+◌, ◌*◌, ◌/◌, ◌%◌, ◌^◌, ◌<◌}
use mathlib.Core.Path.{◌≡◌}
use mathlib.Core.Bool.{false}
use native.Mathlib.Omega.{arith}
use lib.Dec.{eqb}
use borrow.Author.Tests.{ne_eqb}
use Rattle.answer.specs.declared.Refusal.{Refusal}
use Rattle.answer.specs.declared.Refusal.TheVariants.{TooLong, EndsEarly, Departs, BytesFollow, TooManyRecords, WrongPrefix, UnlawfulKey, KeysNotRising, WrongTree, WrongDigest, WrongValue, KeyAbsent, NoRoom, FirstAfterLast, NoSuchScreen, PageNotDue, UntrueHead, WrongStates}
use Rattle.answer.specs.Answer.{number_of, said, said_of_two, encoded, encoded_of_two, taken_apart, taken_apart_in_two, ComesApart}
use Rattle.answer.specs.Inner.{FirstFits}

-- a number is from 1 to 255
number_within : (r : Refusal) → (0 < number_of r) × (number_of r < 256)
number_within TooLong = omega arith
number_within EndsEarly = omega arith
number_within Departs = omega arith
number_within BytesFollow = omega arith
number_within TooManyRecords = omega arith
number_within WrongPrefix = omega arith
number_within UnlawfulKey = omega arith
number_within KeysNotRising = omega arith
number_within WrongTree = omega arith
number_within WrongDigest = omega arith
number_within WrongValue = omega arith
number_within KeyAbsent = omega arith
number_within NoRoom = omega arith
number_within FirstAfterLast = omega arith
number_within NoSuchScreen = omega arith
number_within PageNotDue = omega arith
number_within UntrueHead = omega arith
number_within WrongStates = omega arith

-- so it is its own remainder by 256, which is not 0
module _ (r : Refusal) where
  remainder : number_of r % 256 ≡ number_of r
  remainder = omega (arith, number_within r)

  not_done : eqb (number_of r) 0 ≡ false
  not_done = ne_eqb (number_of r) 0 (λ e. omega (arith, number_within r))

value_remainder : (v : ℕ) → 256 * v % 256 ≡ 0
value_remainder v = omega arith

value_quotient : (v : ℕ) → 256 * v / 256 ≡ v
value_quotient v = omega arith

one_comes_apart : (answer : Result ℕ Refusal) → taken_apart (encoded answer) ≡ said answer
unfolding taken_apart
one_comes_apart (Ok v) = rw (value_remainder v, value_quotient v)
one_comes_apart (Err r) = rw (remainder r, not_done r)

pub comes_apart : ComesApart
comes_apart = (one_comes_apart, λ r. omega (arith, number_within r))

pub two_come_apart : (d : Result (ℕ × ℕ) Refusal) → FirstFits d → taken_apart_in_two (encoded_of_two d) ≡ said_of_two d
unfolding taken_apart_in_two
two_come_apart (Ok (n, count)) h =
    let first : (n + 2 ^ 24 * count) % 2 ^ 24 ≡ n = omega arith in
    let second : (n + 2 ^ 24 * count) / 2 ^ 24 ≡ count = omega arith in
    rw (value_remainder (n + 2 ^ 24 * count), value_quotient (n + 2 ^ 24 * count), first, second)
two_come_apart (Err r) h = rw (remainder r, not_done r)
