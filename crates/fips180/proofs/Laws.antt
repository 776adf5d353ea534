-- What the crates above use of SHA-256: its length, that it is bytes, and the rule of the padding.
use mathlib.Core.Path.{◌≡◌, refl}
use mathlib.Core.List.{List, [], ◌∷◌}
use Prim.Native.Nat.{ℕ, ◌+◌, ◌-◌, ◌/◌, ◌%◌, ◌^◌, ◌<◌}
use native.Mathlib.Omega.{arith}
use lib.ListN.{length}
use Rattle.bytestring.specs.Bytes.{Bytes}
use Rattle.fips180.specs.Hash.{words, bytes_of, hash, sha256}

pub length_sha256 : (m : List ℕ) → length (sha256 m) ≡ 32
unfolding sha256
length_sha256 m = refl

low : (x : ℕ) → x % 256 < 256
low x = omega arith

bytes_of_lem : (ws : List ℕ) → Bytes (bytes_of ws)
bytes_of_lem [] = tt
bytes_of_lem (w ∷ ws) = (low (w / 2 ^ 24), (low (w / 2 ^ 16), (low (w / 2 ^ 8), (low w, bytes_of_lem ws))))

pub bytes_sha256 : (m : List ℕ) → Bytes (sha256 m)
unfolding sha256
bytes_sha256 m = bytes_of_lem (words (hash m))

-- 5.1.1: with k zero bytes the message, the byte 80 and the eight bytes of its length fill whole blocks, and no smaller k does
pub padding_fills : (n : ℕ) → (n + 1 + (119 - n % 64) % 64 + 8) % 64 ≡ 0
padding_fills n = omega arith

pub padding_least : (n : ℕ) → (119 - n % 64) % 64 < 64
padding_least n = omega arith
