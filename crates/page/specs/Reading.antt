-- Reading from left to right: what was read and the bytes left; or the input ends while a byte is due; or a byte departs from the form.
use Rattle.std.specs.Prelude.{ℕ, zero, suc, cond, List, [], ◌∷◌, ◌++◌, eqb}

pub data Read (A : Type 0) : Type 0 where
  read : A → List ℕ → Read A
  ends_early : Read A
  departs : Read A

abbrev pub Reader : Type 0 → Type 0
Reader A = List ℕ → Read A

-- What follows goes on with the bytes left. The first byte that departs, or the end of the input before it, decides.
abbrev pub and_then : {A B : Type 0} → Read A → (A → List ℕ → Read B) → Read B
and_then (read a s) f = f a s
and_then ends_early f = ends_early
and_then departs f = departs

infixl 20 ◌>>=◌ ◌>>◌
abbrev pub ◌>>=◌ : {A B : Type 0} → Reader A → (A → Reader B) → Reader B
◌>>=◌ p f = λ s. and_then (p s) f

abbrev pub ◌>>◌ : {A B : Type 0} → Reader A → Reader B → Reader B
◌>>◌ p q = λ s. and_then (p s) (λ _ t. q t)

abbrev pub pure : {A : Type 0} → A → Reader A
pure a = λ s. read a s

-- These bytes and no others.
unfoldable pub exactly : List ℕ → Reader (Unit {0})
exactly [] s = read tt s
exactly (c ∷ cs) [] = ends_early
exactly (c ∷ cs) (b ∷ s) =
    let rest : Read (Unit {0}) = exactly cs s in
    cond (eqb b c) rest departs

-- Any n bytes.
unfoldable pub any_bytes : ℕ → Reader (List ℕ)
any_bytes zero s = read [] s
any_bytes (suc n) [] = ends_early
any_bytes (suc n) (b ∷ s) = and_then (any_bytes n s) (λ l t. read (b ∷ l) t)

-- n things, one after the other.
unfoldable pub times : {A : Type 0} → ℕ → Reader A → Reader (List A)
times zero p s = read [] s
times (suc n) p s = and_then (p s) (λ a t. and_then (times n p t) (λ l u. read (a ∷ l) u))

-- The bytes of things, one after the other.
abbrev pub concat : {A : Type 0} → (A → List ℕ) → List A → List ℕ
concat bytes [] = []
concat bytes (a ∷ l) = bytes a ++ concat bytes l
