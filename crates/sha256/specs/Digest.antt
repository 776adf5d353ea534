-- What the digest call answers and writes.
use Rattle.answer.specs.declared.Refusal.{Refusal}
use Rattle.std.specs.Prelude.{ℕ, cond, List, Result, Ok, Err}
use Rattle.bytestring.specs.Bytes.{zeros}
use Rattle.answer.specs.declared.Refusal.TheVariants.{TooLong}
use Rattle.limits.specs.Limits.{fits_call}
use Rattle.fips180.specs.Hash.{sha256}

-- Number 1 where the input is too long.
unfoldable pub digest_answer : List ℕ → Result ℕ Refusal
digest_answer m = cond (fits_call m) (Ok 0) (Err TooLong)

-- The digest, or 32 zeros where the input is too long.
unfoldable pub digest_output : List ℕ → List ℕ
digest_output m = cond (fits_call m) (sha256 m) (zeros 32)
