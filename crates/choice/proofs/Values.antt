-- The order of two values, from that of their digests and that of their codecs.
use Rattle.std.specs.declared.cmp.Ordering.{Ordering}
use Rattle.std.specs.declared.cmp.Ordering.TheVariants.{Less, Equal, Greater}
use Prim.Native.Nat.{ℕ, ◌-◌}
use mathlib.Core.Path.{◌≡◌, refl, sym, ◌∙◌}
use Rattle.std.specs.Ordering.{MatchOrdering}
use mathlib.Core.Bool.{true}
use mathlib.Core.List.{List}
use native.Mathlib.Omega.{arith}
use lib.ListN.{length, take, drop, length-drop}
use lib.Seq.{take_all}
use Rattle.value.specs.Value.{value_digest}
use Rattle.key.specs.Key.{order}
use Rattle.key.proofs.Laws.{less-connected, less_order, equal_order, greater_order, order_less, order_equal, order_greater}
use Rattle.promises.specs.Map.{less_value}
use Rattle.promises.proofs.ValueOrder.{same_parts, lesser_digest, lesser_codec, value_asymmetric, value_same}
use Rattle.choice.specs.Choice.{value_order}

lesser_value : (v w : List ℕ) → less_value v w ≡ true → (value_order v w ≡ Less) × (value_order w v ≡ Greater)
unfolding value_order
lesser_value v w h = (rw h, rw (value_asymmetric v w h, h))

same_value : (v w : List ℕ) → v ≡ w → value_order v w ≡ Equal
unfolding value_order
same_value v w e = rw (value_same v w e, value_same w v (sym e))

module _ (v w : List ℕ) (n : length v ≡ 33) (m : length w ≡ 33) (o : Ordering) (compared : o ≡ order (take (33 - 1) (drop 1 v)) (take (33 - 1) (drop 1 w))) where
  -- what is compared are the digests
  digests : order (value_digest v) (value_digest w) ≡ o
  digests = sym (rw (take_all 32 (drop 1 v) (omega (arith, length-drop 1 v)), take_all 32 (drop 1 w) (omega (arith, length-drop 1 w))) at compared)

  pub values_less : o ≡ Less → Less ≡ value_order v w
  values_less e = sym (lesser_value v w (lesser_digest v w (order_less (value_digest v) (value_digest w) (digests ∙ e)))).0

  pub values_greater : o ≡ Greater → Greater ≡ value_order v w
  values_greater e = sym (lesser_value w v (lesser_digest w v (order_greater (value_digest v) (value_digest w) (digests ∙ e)))).1

  -- where they are equal, the codecs decide
  pub codecs_decide : o ≡ Equal → (r : Ordering) → r ≡ order (take 1 v) (take 1 w) → r ≡ value_order v w
  codecs_decide e r f =
      let same = order_equal (value_digest v) (value_digest w) (digests ∙ e) in
      f ∙ less-connected (take 1 v) (take 1 w)
      (λ h. less_order (take 1 v) (take 1 w) h ∙ sym (lesser_value v w (lesser_codec v w same h)).0)
      (λ q. equal_order (take 1 v) (take 1 w) q ∙ sym (same_value v w (same_parts v w q same)))
      (λ h. greater_order (take 1 v) (take 1 w) h ∙ sym (lesser_value w v (lesser_codec w v (sym same) h)).1)

-- the order of two values, from what is compared first and what the second comparison says where the digests are equal
pub values_decide : (v w : List ℕ) → length v ≡ 33 → length w ≡ 33 → (o : Ordering) → o ≡ order (take (33 - 1) (drop 1 v)) (take (33 - 1) (drop 1 w)) → (P : Type 0) (r : Ordering)
    → MatchOrdering o (r ≡ Less) P (r ≡ Greater) → (P → r ≡ order (take 1 v) (take 1 w)) → r ≡ value_order v w
values_decide v w n m Less e P r h f = h ∙ values_less v w n m Less e refl
values_decide v w n m Equal e P r h f = codecs_decide v w n m Equal e refl r (f h)
values_decide v w n m Greater e P r h f = h ∙ values_greater v w n m Greater e refl
