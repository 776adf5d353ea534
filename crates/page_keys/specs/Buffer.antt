-- Keys in buffers: a buffer holds a key's first bytes, as many as it has room for, beside the key's length.
use Rattle.std.specs.Prelude.{ℕ, ◌≤◌, ◌<◌, ◌≡◌, Bool, List, ◌++◌, length, take, drop, eqb}
use Rattle.key.specs.Key.{shared, lawful, less}

pub record HoldsKey (buffer : List ℕ) (n : ℕ) (k : List ℕ) : Type 0 where
  pub bytes : take n buffer ≡ take (length buffer) k
  pub size : n ≡ length k

-- The last key stands whole in its buffer.
pub record LastIs (last : List ℕ) (n : ℕ) (k : List ℕ) : Type 0 where
  pub room : n ≤ length last
  pub bytes : take n last ≡ k

-- The key that takes its prefix from the key held, and goes on with the bytes of s from `at` on.
unfoldable pub Extended : List ℕ → ℕ → List ℕ → ℕ → ℕ → ℕ → List ℕ → ℕ → Type 0
Extended buffer size s shares at n buffer' size' =
    (k : List ℕ) → HoldsKey buffer size k → HoldsKey buffer' size' (take shares k ++ take n (drop at s))

-- Whether a prefix length is the count of bytes shared with the key held, as far as the buffer reaches.
unfoldable pub PrefixIs : List ℕ → ℕ → List ℕ → ℕ → ℕ → ℕ → Bool → Type 0
PrefixIs buffer size s shares at n r =
    (k : List ℕ) → HoldsKey buffer size k → shares < length buffer → r ≡ eqb shares (shared k (take shares k ++ take n (drop at s)))

-- Whether the key held keeps the key rule.
unfoldable pub LawfulIs : List ℕ → ℕ → Bool → Type 0
LawfulIs buffer size r = (k : List ℕ) → HoldsKey buffer size k → r ≡ lawful k

-- Whether the key held, where it stands whole, is greater than the last key.
unfoldable pub RisesIs : List ℕ → ℕ → List ℕ → ℕ → Bool → Type 0
RisesIs last n buffer size r =
    (j k : List ℕ) → LastIs last n j → HoldsKey buffer size k → size ≤ length buffer → r ≡ less j k
