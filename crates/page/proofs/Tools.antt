-- Bytes of things that stand one after the other.
use Prim.Native.Nat.{ℕ}
use mathlib.Core.List.{List, [], ◌∷◌}
use Rattle.bytestring.specs.Bytes.{Bytes}
use Rattle.bytestring.proofs.Tools.{All, bytes_append}
use Rattle.page.specs.Reading.{concat}

pub bytes_concat : {A : Type 0} (bytes : A → List ℕ) (l : List A) → All (λ a. Bytes (bytes a)) l → Bytes (concat bytes l)
bytes_concat bytes [] p = tt
bytes_concat bytes (a ∷ l) p = bytes_append (bytes a) (concat bytes l) p.0 (bytes_concat bytes l p.1)
