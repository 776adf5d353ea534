-- Keys: the key rule, where the slash stands, their order, and the leading bytes that two keys share.
use Rattle.answer.specs.declared.Refusal.{Refusal}
use Rattle.std.specs.declared.cmp.Ordering.{Ordering}
use Rattle.std.specs.declared.cmp.Ordering.TheVariants.{Less, Equal, Greater}
use Rattle.std.specs.Prelude.{ℕ, suc, ◌≡◌, Bool, true, false, cond, not, ◌&&◌, ◌||◌, List, [], ◌∷◌, ◌++◌, length, get_or, eqb, ltb, leb, Result, Ok, Err}
use Rattle.limits.specs.Limits.{longest_key}
use Rattle.answer.specs.declared.Refusal.TheVariants.{UnlawfulKey}

-- The byte between the two parts of a key.
abbrev pub slash_byte : ℕ
slash_byte = 0x2F

-- The byte of the names . and ..
abbrev pub dot : ℕ
dot = 0x2E

abbrev pub between : ℕ → ℕ → ℕ → Bool
between low high b = leb low b && leb b high

-- The other bytes of a key: letters, digits and . - _ : ~
unfoldable pub ordinary : ℕ → Bool
ordinary b =
    between 0x61 0x7A b || between 0x41 0x5A b || between 0x30 0x39 b
    || eqb b 0x2E || eqb b 0x2D || eqb b 0x5F || eqb b 0x3A || eqb b 0x7E

-- The part before the first slash: all of the key where there is none.
unfoldable pub collection : List ℕ → List ℕ
collection [] = []
collection (b ∷ k) =
    let rest : List ℕ = b ∷ collection k in
    cond (eqb b slash_byte) [] rest

-- The part after the first slash: nothing where there is none.
unfoldable pub name : List ℕ → List ℕ
name [] = []
name (b ∷ k) =
    let rest : List ℕ = name k in
    cond (eqb b slash_byte) k rest

-- Ordinary bytes alone.
unfoldable pub all_ordinary : List ℕ → Bool
all_ordinary [] = true
all_ordinary (b ∷ s) = ordinary b && all_ordinary s

-- The names . and .. and no others.
abbrev pub is_dot_name : List ℕ → Bool
is_dot_name [] = false
is_dot_name (a ∷ []) = eqb a dot
is_dot_name (a ∷ b ∷ []) = eqb a dot && eqb b dot
is_dot_name (a ∷ b ∷ c ∷ s) = false

-- The key rule: 3 to 256 bytes, with just one slash and at least one byte on each side of it. The other bytes are ordinary. The name is
-- neither . nor ..
unfoldable pub lawful : List ℕ → Bool
lawful k =
    leb 3 (length k) && leb (length k) longest_key
    && leb 1 (length (collection k)) && all_ordinary (collection k)
    && leb 1 (length (name k)) && all_ordinary (name k)
    && not (is_dot_name (name k))

-- The slash call: number 7 where the key rule is broken, otherwise the number of bytes before the slash.
unfoldable pub slash_answer : List ℕ → Result ℕ Refusal
slash_answer k = cond (lawful k) (Ok (length (collection k))) (Err UnlawfulKey)

-- The slash of a key stands after n bytes: the byte there is a slash and no other byte is one, and the key is its collection of n bytes, the
-- slash and its name. (get_or k i 0 is the byte of k that i others come before, and 0 past the end.)
pub record SlashAfter (k : List ℕ) (n : ℕ) : Type 0 where
  pub there : get_or k n 0 ≡ slash_byte
  pub nowhere_else : (i : ℕ) → get_or k i 0 ≡ slash_byte → i ≡ n
  pub parts : k ≡ collection k ++ (slash_byte ∷ name k)
  pub bytes_before : length (collection k) ≡ n

-- Keys are ordered byte by byte; a key stands before every longer key that begins with it.
unfoldable pub less : List ℕ → List ℕ → Bool
less [] [] = false
less [] (b ∷ t) = true
less (a ∷ s) [] = false
less (a ∷ s) (b ∷ t) =
    let rest : Bool = less s t in
    cond (ltb a b) true (cond (eqb a b) rest false)

-- The order as one of three cases.
unfoldable pub order : List ℕ → List ℕ → Ordering
order a b = cond (less a b) Less (cond (less b a) Greater Equal)

-- The number of leading bytes that two keys share.
unfoldable pub shared : List ℕ → List ℕ → ℕ
shared [] t = 0
shared (a ∷ s) [] = 0
shared (a ∷ s) (b ∷ t) =
    let rest : ℕ = suc (shared s t) in
    cond (eqb a b) rest 0
