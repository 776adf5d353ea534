-- The value of a state: what the rest asks of it.
use Prim.Native.Nat.{ℕ}
use mathlib.Core.Path.{◌≡◌, refl, sym, ap₂}
use mathlib.Core.Bool.{true, false≢true}
use mathlib.Core.List.{List, [], ◌∷◌}
use lib.ListN.{length}
use lib.Dec.{eqb}
use borrow.Author.Tests.{eqb-true}
use Rattle.value.specs.Value.{dag_cbor, is_codec, value_codec, value_digest, is_value}
use Rattle.value.proofs.Laws.{parts_value}
use Rattle.states.specs.Pages.{pages_in}
use Rattle.states.specs.States.{first_digest, state_value}

-- it is a value of a register, of codec 71, and has the first digest
module _ (s : List ℕ) where
  pub value_is_value : length (first_digest (pages_in s)) ≡ 32 → is_value (state_value s) ≡ true
  unfolding state_value is_codec
  value_is_value h = parts_value dag_cbor (first_digest (pages_in s)) refl h

  pub value_is_state : eqb (value_codec (state_value s)) dag_cbor ≡ true
  unfolding state_value
  value_is_state = refl

  pub digest_of_value : value_digest (state_value s) ≡ first_digest (pages_in s)
  unfolding state_value
  digest_of_value = refl

  -- and each value of codec 71 is that of a state with its digest
  pub value_of_digest : (v : List ℕ) → eqb (value_codec v) dag_cbor ≡ true → first_digest (pages_in s) ≡ value_digest v → state_value s ≡ v
  unfolding state_value
  value_of_digest [] h e = absurd (false≢true h)
  value_of_digest (c ∷ d) h e = ap₂ (λ (x : ℕ) (l : List ℕ). x ∷ l) (sym (eqb-true c dag_cbor h)) e
