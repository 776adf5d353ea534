-- Laws of values: their parts, and which parts make one.
use Prim.Native.Nat.{ℕ, ◌<◌}
use mathlib.Core.Path.{◌≡◌, refl}
use mathlib.Core.Bool.{true}
use mathlib.Core.List.{List, [], ◌∷◌}
use native.Mathlib.Omega.{arith}
use lib.ListN.{length}
use lib.Dec.{eqb}
use borrow.Table.Steps.{cases}
use borrow.Author.Tests.{eqb-true}
use Rattle.bytestring.proofs.Tools.{and_inv}
use Rattle.value.specs.Value.{raw, dag_cbor, is_codec, value_codec, value_digest, is_value}

pub codec_byte : (c : ℕ) → is_codec c ≡ true → c < 256
unfolding is_codec
codec_byte c h =
    cases (eqb c raw) (λ e. omega (arith, eqb-true c raw e))
    (λ e. omega (arith, eqb-true c dag_cbor (rw e at h)))

module _ (v : List ℕ) (h : is_value v ≡ true) where
  pub value_length_lem : length v ≡ 33
  unfolding is_value
  value_length_lem = eqb-true (length v) 33 (and_inv (eqb (length v) 33) h).0

  pub value_codec_lem : is_codec (value_codec v) ≡ true
  unfolding is_value
  value_codec_lem = (and_inv (eqb (length v) 33) h).1

pub value_digest_lem : (v : List ℕ) → is_value v ≡ true → length (value_digest v) ≡ 32
value_digest_lem [] h = absurd (omega (arith, value_length_lem [] h))
value_digest_lem (c ∷ d) h = omega (arith, value_length_lem (c ∷ d) h)

pub value_parts : (v : List ℕ) → is_value v ≡ true → value_codec v ∷ value_digest v ≡ v
value_parts [] h = absurd (omega (arith, value_length_lem [] h))
value_parts (c ∷ d) h = refl

pub parts_value : (c : ℕ) (d : List ℕ) → is_codec c ≡ true → length d ≡ 32 → is_value (c ∷ d) ≡ true
unfolding is_value
parts_value c d h e = rw (e, h)
