-- Strings of bytes.
use Rattle.std.specs.Prelude.{ℕ, ◌<◌, Bool, true, false, ◌&&◌, List, [], ◌∷◌, ◌++◌, length, drop, replicate, eqb}

-- Every element is below 256.
abbrev pub Bytes : List ℕ → Type 0
Bytes [] = Unit {0}
Bytes (b ∷ s) = (b < 256) × Bytes s

-- A list that is a string of bytes, as every slice of bytes is.
pub record ByteString : Type 0 where
  pub list : List ℕ
  pub small : Bytes list

-- So many zero bytes.
abbrev pub zeros : ℕ → List ℕ
zeros n = replicate n 0

-- Whether two strings are the same, byte by byte.
unfoldable pub equal : List ℕ → List ℕ → Bool
equal [] [] = true
equal [] (b ∷ t) = false
equal (a ∷ s) [] = false
equal (a ∷ s) (b ∷ t) = eqb a b && equal s t

-- An output with these bytes written over its first ones.
abbrev pub front : List ℕ → List ℕ → List ℕ
front bytes out = bytes ++ drop (length bytes) out
