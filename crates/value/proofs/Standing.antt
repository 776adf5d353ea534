-- Codecs at places of a string of bytes.
use Prim.Native.Nat.{ℕ, zero, suc, ◌-◌, ◌≤◌}
use mathlib.Core.Path.{◌≡◌, refl, ap, ◌∙◌}
use mathlib.Core.Bool.{true}
use mathlib.Core.List.{List, [], ◌∷◌}
use native.Mathlib.Omega.{arith}
use lib.ListN.{length, get_or}
use lib.Dec.{eqb}
use borrow.Author.Tests.{eq-eqb, ne_eqb}
use Rattle.value.specs.Value.{raw, dag_cbor, is_codec, codec_in}

-- ---- the codec of a value in a page
nothing_past : (s : List ℕ) (i : ℕ) → length s ≤ i → 0 ≡ get_or s i 0
nothing_past [] i h = refl
nothing_past (b ∷ s) zero h = absurd (omega arith)
nothing_past (b ∷ s) (suc i) h = nothing_past s i (omega arith)

module _ (s : List ℕ) (i at : ℕ) (e : i ≡ at - 3) where
  pub codec_past : length s ≤ i → 0 ≡ codec_in s at
  codec_past h = nothing_past s i h ∙ ap (λ (n : ℕ). get_or s n 0) e

  pub codec_there : (c : ℕ) → c ≡ get_or s i 0 → c ≡ codec_in s at
  codec_there c f = f ∙ ap (λ (n : ℕ). get_or s n 0) e

-- ---- codecs
pub raw_is_codec : (c : ℕ) → c ≡ raw → true ≡ is_codec c
unfolding is_codec
raw_is_codec c e = rw (eq-eqb c raw e)

pub other_codec : (c : ℕ) → (c ≡ raw → ⊥) → eqb c dag_cbor ≡ is_codec c
unfolding is_codec
other_codec c f = rw (ne_eqb c raw f)
