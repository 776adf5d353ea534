-- Where the slash of a lawful key stands, and what the answer of the slash call tells of a key.
use Rattle.std.specs.Prelude.{Ok, Err}
use Prim.Native.Nat.{ℕ, zero, suc, ◌<◌}
use mathlib.Core.Path.{◌≡◌, refl, sym, ap, ◌∙◌}
use mathlib.Core.Bool.{true, false, false≢true}
use mathlib.Core.List.{List, [], ◌∷◌, ◌++◌}
use native.Mathlib.Omega.{arith}
use lib.Dec.{eqb}
use lib.ListN.{length, get_or, length-drop}
use borrow.Author.Tests.{eqb-true, eqb-false, eq-eqb}
use borrow.Table.Steps.{cases}
use Rattle.answer.specs.declared.Refusal.{Refusal}
use Rattle.answer.specs.declared.Refusal.TheVariants.{UnlawfulKey}
use Rattle.key.specs.Key.{slash_byte, ordinary, collection, name, all_ordinary, lawful, slash_answer, SlashAfter}
use Rattle.key.proofs.Lawful.{ordinary_no_slash, name_is, slash_none, no_name, lawful_parts}

-- ---- a string with a slash
slash_there : (k : List ℕ) → length (collection k) < length k → get_or k (length (collection k)) 0 ≡ slash_byte
unfolding collection
slash_there [] h = absurd (omega arith)
slash_there (b ∷ k) h =
    cases (eqb b slash_byte) (λ e. rw e (eqb-true b slash_byte e)) (λ e. rw e (slash_there k (omega (arith, rw e at h))))

parts_joined : (k : List ℕ) → length (collection k) < length k → k ≡ collection k ++ (slash_byte ∷ name k)
unfolding collection name
parts_joined [] h = absurd (omega arith)
parts_joined (b ∷ k) h =
    cases (eqb b slash_byte)
    (λ e. rw e (ap (λ (x : ℕ). x ∷ k) (eqb-true b slash_byte e)))
    (λ e. rw e (ap (λ (s : List ℕ). b ∷ s) (parts_joined k (omega (arith, rw e at h)))))

-- ---- no other slash
ordinary_nowhere : (s : List ℕ) → all_ordinary s ≡ true → (i : ℕ) → get_or s i 0 ≡ slash_byte → ⊥
unfolding all_ordinary
ordinary_nowhere [] h i e = omega arith
ordinary_nowhere (b ∷ s) h zero e =
    cases (ordinary b) (λ f. false≢true (sym (ordinary_no_slash b f) ∙ eq-eqb b slash_byte e)) (λ f. false≢true (rw f at h))
ordinary_nowhere (b ∷ s) h (suc i) e = cases (ordinary b) (λ f. ordinary_nowhere s (rw f at h) i e) (λ f. false≢true (rw f at h))

no_other_lem : (k : List ℕ) → all_ordinary (collection k) ≡ true → all_ordinary (name k) ≡ true
    → (i : ℕ) → get_or k i 0 ≡ slash_byte → i ≡ length (collection k)
unfolding collection name all_ordinary
no_other_lem [] c d i e = absurd (omega arith)
no_other_lem (b ∷ k) c d zero e = rw (eq-eqb b slash_byte e)
no_other_lem (b ∷ k) c d (suc i) e =
    cases (eqb b slash_byte)
    (λ f. absurd (ordinary_nowhere k (rw f at d) i e))
    (λ f. cases (ordinary b)
    (λ g. rw f (ap suc (no_other_lem k (rw (f, g) at c) (rw f at d) i e)))
    (λ g. absurd (false≢true (rw (f, g) at c))))

-- ---- a lawful key
module _ (k : List ℕ) (h : lawful k ≡ true) where
  has_slash : length (collection k) < length k
  has_slash =
      cases (eqb (length (name k)) 0)
      (λ e. absurd (false≢true (sym (no_name k (eqb-true (length (name k)) 0 e)) ∙ h)))
      (λ e. omega (arith, eqb-false (length (name k)) 0 e, simp length-drop at (ap length (name_is k))))

  slash_after : SlashAfter k (length (collection k))
  slash_after =
      let w = lawful_parts k h in
      record { there = slash_there k has_slash; nowhere_else = no_other_lem k w.0 w.1; parts = parts_joined k has_slash; bytes_before = refl }

  pub slash_stands : (n : ℕ) × (slash_answer k ≡ Ok n) × SlashAfter k n
  unfolding slash_answer
  slash_stands = (length (collection k), rw h, slash_after)

-- ---- what an answer tells of its key
module _ (k : List ℕ) where
  pub slash_done : (n : ℕ) → slash_answer k ≡ Ok n → lawful k ≡ true
  slash_done n q =
      cases (lawful k) (λ e. e) (λ e. let z : ◌≡◌ {A = ℕ} 0 1 = cc (slash_none k e) in absurd (omega arith))

  pub slash_refused : (r : Refusal) → slash_answer k ≡ Err r → (lawful k ≡ false) × (r ≡ UnlawfulKey)
  slash_refused r q =
      cases (lawful k)
      (λ e. let z : ◌≡◌ {A = ℕ} 0 1 = cc (slash_stands k e).1 in absurd (omega arith))
      (λ e. (e, cc (slash_none k e)))
