-- The layer of a digest and of a byte string, and what the layer call answers.
use Rattle.answer.specs.declared.Refusal.{Refusal}
use Rattle.std.specs.Prelude.{ℕ, zero, suc, ◌+◌, ◌/◌, ◌%◌, ◌^◌, cond, List, [], ◌∷◌, ◌++◌, Result, Ok, Err}
use Rattle.answer.specs.declared.Refusal.TheVariants.{TooLong}
use Rattle.fips180.specs.Hash.{sha256}
use Rattle.limits.specs.Limits.{fits_call}

-- The k lowest bits of a number, the highest first.
unfoldable pub bits : ℕ → ℕ → List ℕ
bits zero n = []
bits (suc k) n = n / 2 ^ k % 2 ∷ bits k n

-- The bits of a string of bytes.
unfoldable pub bits_of : List ℕ → List ℕ
bits_of [] = []
bits_of (b ∷ s) = bits 8 b ++ bits_of s

-- How many zeros a string of bits begins with.
unfoldable pub leading_zero_bits : List ℕ → ℕ
leading_zero_bits [] = 0
leading_zero_bits (zero ∷ s) = 1 + leading_zero_bits s
leading_zero_bits (suc b ∷ s) = 0

-- The layer of a digest: the number of its leading zero bits, divided by 2 and rounded down.
unfoldable pub layer_of_digest : List ℕ → ℕ
layer_of_digest d = leading_zero_bits (bits_of d) / 2

-- The layer of a key, or of any string of bytes: that of its SHA-256 digest.
unfoldable pub layer_of : List ℕ → ℕ
layer_of s = layer_of_digest (sha256 s)

-- The layer call: number 1 where the input is too long.
unfoldable pub layer_answer : List ℕ → Result ℕ Refusal
layer_answer s = cond (fits_call s) (Ok (layer_of s)) (Err TooLong)
