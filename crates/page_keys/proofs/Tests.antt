-- The tests of a key in a buffer: the key rule, and the order after the last key.
use Rattle.std.specs.declared.cmp.Ordering.{Ordering}
use Rattle.std.specs.Ordering.{is_lt}
use Rattle.std.specs.Prelude.{Result, Ok, Err}
use Rattle.std.specs.Result.{is_ok}
use Rattle.answer.specs.declared.Refusal.{Refusal}
use Prim.Native.Nat.{ℕ, ◌≤◌, ◌<◌}
use mathlib.Core.Path.{◌≡◌, refl, sym, ap, ◌∙◌}
use mathlib.Core.Bool.{false}
use mathlib.Core.List.{List}
use native.Mathlib.Omega.{arith}
use lib.ListN.{length, take}
use Rattle.key.specs.Key.{lawful, slash_answer, order}
use Rattle.key.proofs.Lawful.{long_unlawful}
use Rattle.key.proofs.SlashLaws.{slash_done, slash_refused}
use Rattle.key_order.proofs.Orders.{is_less}
use Rattle.page_keys.specs.Buffer.{LawfulIs, RisesIs}
use Rattle.page_keys.proofs.Buffers.{holds_whole}

-- ---- the key rule
slash_told : (k : List ℕ) (r : Result ℕ Refusal) → r ≡ slash_answer k → is_ok r ≡ lawful k
slash_told k (Ok n) e = sym (slash_done k n (sym e))
slash_told k (Err refusal) e = sym (slash_refused k refusal (sym e)).0

module _ (buffer : List ℕ) (size : ℕ) where
  pub key_too_long : 256 ≤ length buffer → length buffer < size → LawfulIs buffer size false
  unfolding LawfulIs
  key_too_long h g k w = sym (long_unlawful k (omega (arith, w.size)))

  pub key_tested : size ≤ length buffer → (r : Result ℕ Refusal) → r ≡ slash_answer (take size buffer) → LawfulIs buffer size (is_ok r)
  unfolding LawfulIs
  key_tested h r e k w = slash_told (take size buffer) r e ∙ ap lawful (holds_whole w h)

-- ---- the order of keys
module _ (last : List ℕ) (n : ℕ) (buffer : List ℕ) (size : ℕ) where
  pub no_last : length last < n → RisesIs last n buffer size false
  unfolding RisesIs
  no_last h j k v w g = absurd (omega (arith, v.room))

  pub no_key : length buffer < size → RisesIs last n buffer size false
  unfolding RisesIs
  no_key h j k v w g = absurd (omega arith)

  module _ (o : Ordering) (e : o ≡ order (take n last) (take size buffer)) where
    pub key_compared : RisesIs last n buffer size (is_lt o)
    unfolding RisesIs
    key_compared j k v w g = is_less (take n last) (take size buffer) o e ∙ rw (v.bytes, holds_whole w g) refl
