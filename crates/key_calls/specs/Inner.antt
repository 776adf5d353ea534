-- What contracts inside this crate cite, and no public contract does.
use Rattle.std.specs.Prelude.{ℕ, ◌+◌, ◌/◌, ◌%◌, ◌^◌, ◌≤◌, ◌<◌, ◌≡◌, Bool, true, cond, ◌&&◌, List, [], ◌∷◌, eqb, leb, length, get_or}
use Rattle.key.specs.Key.{slash_byte, ordinary, collection}
use Rattle.key.specs.Inner.{only_slash}

-- Whether bit i of a word is 1.
unfoldable pub has_bit : ℕ → ℕ → Bool
has_bit word i = eqb (word / 2 ^ i % 2) 1

-- Where the slash of such a string stands. Where there is none, and for every other string, its end.
unfoldable pub slash_or_end : List ℕ → ℕ
slash_or_end k = cond (only_slash k) (length (collection k)) (length k)

-- What a pass over a key of n bytes answers, from byte i on, of the bytes that are left: at is where the slash stood, or n where there was none so far.
unfoldable pub passed : ℕ → ℕ → ℕ → List ℕ → ℕ
passed n at i [] = at
passed n at i (b ∷ s) =
    let next : ℕ = passed n at (i + 1) s in
    let first : ℕ = passed n i (i + 1) s in
    cond (ordinary b) next (cond (eqb b slash_byte && leb n at) first n)

-- The bytes from i to before j are ordinary.
abbrev pub OrdinaryFrom : List ℕ → ℕ → ℕ → Type 0
OrdinaryFrom k i j = (m : ℕ) → i ≤ m → m < j → ordinary (get_or k m 0) ≡ true
