-- Counts and lengths: DAG-CBOR's heads in their shortest form, at most 65,535.
use Rattle.std.specs.Prelude.{ℕ, ◌+◌, ◌-◌, ◌*◌, ◌/◌, ◌%◌, cond, List, [], ◌∷◌, eqb, ltb}
use Rattle.page.specs.Reading.{read, ends_early, departs, Reader}

-- The first byte says what is counted: a plain number, the bytes of a string, or the entries of an array.
abbrev pub plain_number : ℕ
plain_number = 0x00

abbrev pub byte_string : ℕ
byte_string = 0x40

abbrev pub array : ℕ
array = 0x80

-- A number below 24 stands in the first byte; one below 256 in one byte after it, a greater one in two, the higher first.
unfoldable pub number_bytes : ℕ → ℕ → List ℕ
number_bytes kind n =
    cond (ltb n 24) ((kind + n) ∷ [])
    (cond (ltb n 256) ((kind + 24) ∷ n ∷ [])
    ((kind + 25) ∷ n / 256 ∷ n % 256 ∷ []))

-- In the one-byte form a number below 24 departs.
unfoldable pub one_byte : Reader ℕ
one_byte [] = ends_early
one_byte (b ∷ s) = cond (ltb b 24) departs (read b s)

-- In the two-byte form already a first byte 00 departs.
unfoldable pub two_bytes : Reader ℕ
two_bytes [] = ends_early
two_bytes (a ∷ []) = cond (eqb a 0) departs ends_early
two_bytes (a ∷ b ∷ s) = cond (eqb a 0) departs (read (a * 256 + b) s)

-- Every other first byte departs: those of longer and of indefinite forms, and those of another kind.
unfoldable pub number : ℕ → Reader ℕ
number kind [] = ends_early
number kind (b ∷ s) =
    cond (ltb b kind) departs
    (cond (ltb b (kind + 24)) (read (b - kind) s)
    (cond (eqb b (kind + 24)) (one_byte s)
    (cond (eqb b (kind + 25)) (two_bytes s) departs)))
