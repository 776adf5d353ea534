-- Where the keys of a collection stand in the order: from its name with a slash on, and before its name with the byte after a slash.
use Prim.Native.Nat.{ℕ}
use mathlib.Core.Path.{◌≡◌, refl, sym, ap, ◌∙◌}
use mathlib.Core.Bool.{true, false, false≢true}
use mathlib.Core.List.{List, [], ◌∷◌, ◌++◌}
use native.Mathlib.Omega.{arith}
use lib.Dec.{eqb, ltb}
use borrow.Author.Tests.{eqb-true, eqb-false, ltb-false, le-ltb, eq-eqb}
use borrow.Table.Steps.{cases}
use Rattle.bytestring.proofs.Equal.{equal_refl, equal-cases}
use Rattle.key.specs.Key.{slash_byte, ordinary, collection, name, all_ordinary, lawful, less}
use Rattle.key.proofs.Lawful.{ordinary_no_slash}
use Rattle.key.proofs.Laws.{less_transitive}
use Rattle.key.proofs.SlashLaws.{slash_stands}
use Rattle.collections.specs.Screen.{is_in}

abbrev pub from : List ℕ → List ℕ
from c = c ++ (slash_byte ∷ [])

abbrev pub to : List ℕ → List ℕ
to c = c ++ (0x30 ∷ [])

less_nothing : (k : List ℕ) → less k [] ≡ false
unfolding less
less_nothing [] = refl
less_nothing (b ∷ k) = refl

-- ---- a key between the two bounds has the name before its slash
inside : (k c : List ℕ) → all_ordinary c ≡ true → less k (from c) ≡ false → less k (to c) ≡ true → collection k ≡ c
unfolding less collection all_ordinary
inside [] [] o h g = absurd (false≢true (sym h))
inside [] (x ∷ c) o h g = absurd (false≢true (sym h))
inside (b ∷ k) [] o h g =
    cases (eqb b slash_byte) (λ e. rw e)
    (λ e. cases (ltb b slash_byte) (λ f. absurd (false≢true (sym (rw f at h))))
    (λ f.
    let after : ltb b 0x30 ≡ false = le-ltb b 0x30 (omega (arith, eqb-false b slash_byte e, ltb-false b slash_byte f)) in
    cases (eqb b 0x30) (λ q. absurd (false≢true (rw (after, q, less_nothing k) at g))) (λ q. absurd (false≢true (rw (after, q) at g)))))
inside (b ∷ k) (x ∷ c) o h g =
    cases (ltb b x) (λ f. absurd (false≢true (sym (rw f at h))))
    (λ f. cases (eqb b x)
    (λ e. cases (ordinary x)
    (λ p.
    let same : b ≡ x = eqb-true b x e in
    rw (same, ordinary_no_slash x p) (ap (λ (s : List ℕ). x ∷ s) (inside k c (rw p at o) (rw (f, e) at h) (rw (f, e) at g))))
    (λ p. absurd (false≢true (rw p at o))))
    (λ e. absurd (false≢true (rw (f, e) at g))))

-- ---- a key that has it stands between them
parts_inside : (c n : List ℕ) → (less (c ++ (slash_byte ∷ n)) (from c) ≡ false) × (less (c ++ (slash_byte ∷ n)) (to c) ≡ true)
unfolding less
parts_inside [] n = (less_nothing n, refl)
parts_inside (x ∷ c) n = rw (le-ltb x x (omega arith), eq-eqb x x refl) (parts_inside c n)

module _ (k c : List ℕ) (l : lawful k ≡ true) where
  key_inside : collection k ≡ c → (less k (from c) ≡ false) × (less k (to c) ≡ true)
  key_inside e =
      let parts : k ≡ c ++ (slash_byte ∷ name k) = (slash_stands k l).2.parts ∙ ap (λ (s : List ℕ). s ++ (slash_byte ∷ name k)) e in
      let w = parts_inside c (name k) in
      (ap (λ (s : List ℕ). less s (from c)) parts ∙ w.0, ap (λ (s : List ℕ). less s (to c)) parts ∙ w.1)

  pub below_bounds : less k (from c) ≡ true → (is_in c k ≡ false) × (less k (to c) ≡ true)
  below_bounds h = (
    equal-cases (collection k) c (λ e q. absurd (false≢true (sym (key_inside q).0 ∙ h))) (λ e q. e),
    less_transitive k (from c) (to c) h (parts_inside c []).1,
  )

  pub from_bound : all_ordinary c ≡ true → less k (from c) ≡ false → is_in c k ≡ less k (to c)
  from_bound o h =
      cases (less k (to c))
      (λ g. rw (g, inside k c o h g) (equal_refl c))
      (λ g. equal-cases (collection k) c (λ e q. absurd (false≢true (sym g ∙ (key_inside q).1))) (λ e q. rw (g, e)))
