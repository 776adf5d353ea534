-- The key rule by the parts of a key.
use Rattle.std.specs.Prelude.{Err}
use Prim.Native.Nat.{ℕ, suc, zero-le, suc-le-suc, ◌≤◌, ◌<◌}
use mathlib.Core.Path.{◌≡◌, refl, sym, ap, ◌∙◌}
use mathlib.Core.Bool.{true, false, and-false, false≢true}
use mathlib.Core.List.{List, [], ◌∷◌}
use lib.Dec.{eqb}
use lib.ListN.{length, drop}
use borrow.Author.Tests.{ne_eqb, lt-leb}
use borrow.Table.Steps.{cases}
use Rattle.answer.specs.declared.Refusal.TheVariants.{UnlawfulKey}
use Rattle.key.specs.Key.{slash_byte, ordinary, collection, name, all_ordinary, lawful, slash_answer}
use Rattle.key.specs.Inner.{only_slash}

-- ---- the slash
slash_not_ordinary : ordinary slash_byte ≡ false
unfolding ordinary
slash_not_ordinary = refl

pub ordinary_no_slash : (b : ℕ) → ordinary b ≡ true → eqb b slash_byte ≡ false
ordinary_no_slash b h = ne_eqb b slash_byte (λ e. false≢true (sym slash_not_ordinary ∙ ap ordinary (sym e) ∙ h))

-- ---- the parts of any string of bytes
pub collection_le : (k : List ℕ) → length (collection k) ≤ length k
unfolding collection
collection_le [] = zero-le
collection_le (b ∷ k) = cases (eqb b slash_byte) (λ e. rw e zero-le) (λ e. rw e (suc-le-suc (collection_le k)))

pub name_is : (k : List ℕ) → name k ≡ drop (suc (length (collection k))) k
unfolding collection name
name_is [] = refl
name_is (b ∷ k) = cases (eqb b slash_byte) (λ e. rw e) (λ e. rw e (name_is k))

-- ---- keys that break the rule
module _ (k : List ℕ) where
  pub slash_none : lawful k ≡ false → slash_answer k ≡ Err UnlawfulKey
  unfolding slash_answer
  slash_none e = rw e

  pub long_unlawful : 256 < length k → lawful k ≡ false
  unfolding lawful
  long_unlawful h = simp (lt-leb (length k) 256 h, and-false)

  pub no_collection : length (collection k) ≡ 0 → lawful k ≡ false
  unfolding lawful
  no_collection e = simp (e, and-false)

  pub no_name : length (name k) ≡ 0 → lawful k ≡ false
  unfolding lawful
  no_name e = simp (e, and-false)

  pub other_bytes : only_slash k ≡ false → lawful k ≡ false
  unfolding lawful only_slash
  other_bytes e =
      cases (all_ordinary (collection k))
      (λ c. let f : all_ordinary (name k) ≡ false = rw c at e in simp (f, and-false))
      (λ c. simp (c, and-false))

  pub lawful_parts : lawful k ≡ true → (all_ordinary (collection k) ≡ true) × (all_ordinary (name k) ≡ true)
  unfolding only_slash
  lawful_parts h =
      let only : only_slash k ≡ true = cases (only_slash k) (λ e. e) (λ e. absurd (false≢true (sym (other_bytes e) ∙ h))) in
      cases (all_ordinary (collection k)) (λ e. (e, rw e at only)) (λ e. absurd (false≢true (rw e at only)))
