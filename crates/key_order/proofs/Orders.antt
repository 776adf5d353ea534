-- What the order of two keys says of the test for less.
use Rattle.std.specs.declared.cmp.Ordering.{Ordering}
use Rattle.std.specs.declared.cmp.Ordering.TheVariants.{Less, Equal, Greater}
use Rattle.std.specs.Ordering.{is_lt}
use Prim.Native.Nat.{ℕ}
use mathlib.Core.Path.{◌≡◌, sym, ◌∙◌}
use mathlib.Core.Bool.{false}
use mathlib.Core.List.{List}
use native.Mathlib.Omega.{arith}
use Rattle.key.specs.Key.{less, order}
use Rattle.key.proofs.Laws.{is_false, less_order, order_less}

not_less : (a b : List ℕ) (o : Ordering) → o ≡ order a b → (o ≡ Less → ⊥) → false ≡ less a b
not_less a b o e f = sym (is_false (less a b) (λ q. f (e ∙ less_order a b q)))

pub is_less : (a b : List ℕ) (o : Ordering) → o ≡ order a b → is_lt o ≡ less a b
is_less a b Less e = sym (order_less a b (sym e))
is_less a b Equal e = not_less a b Equal e (λ p. let z : ◌≡◌ {A = ℕ} 0 1 = cc in omega arith)
is_less a b Greater e = not_less a b Greater e (λ p. let z : ◌≡◌ {A = ℕ} 0 1 = cc in omega arith)
