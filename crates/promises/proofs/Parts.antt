-- A part of a list of records, in its order, keeps what the list has; the records whose keys pass a test are one.
use Prim.Native.Nat.{ℕ, ◌≤◌}
use mathlib.Core.Path.{◌≡◌, refl, sym, ◌∙◌}
use mathlib.Core.Bool.{Bool, true, false, cond}
use mathlib.Core.Option.{Option, none, none-ne-some}
use mathlib.Core.List.{List, [], ◌∷◌, Sublistᴰ}
use native.Mathlib.Omega.{arith}
use lib.ListN.{length}
use borrow.Table.Steps.{cases}
use Rattle.bytestring.proofs.Tools.{All}
use Rattle.key.proofs.Laws.{less-connected}
use Rattle.tree.specs.Record.{Record}
use Rattle.promises.specs.Map.{find, whose}
use Rattle.promises.proofs.MapLaws.{Above, above_before, Sorted, find_nil, find_before, find_here, find_later, find_above, Proper}

pub all_part : (P : Record → Type 0) {a b : List Record} → Sublistᴰ a b → All P b → All P a
all_part P Sublistᴰ.slnil h = tt
all_part P (Sublistᴰ.cons s) h = all_part P s h.1
all_part P (Sublistᴰ.cons-cons e s) h = (rw e h.0, all_part P s h.1)

pub sorted_part : {a b : List Record} → Sublistᴰ a b → Sorted b → Sorted a
sorted_part Sublistᴰ.slnil h = tt
sorted_part (Sublistᴰ.cons s) h = sorted_part s h.1
sorted_part (Sublistᴰ.cons-cons e s) h = (all_part _ s (rw e h.0), sorted_part s h.1)

pub proper_part : {a b : List Record} → Sublistᴰ a b → Proper b → Proper a
proper_part s p =
    record { order = sorted_part s p.order; keys = all_part _ s p.keys; values = all_part _ s p.values }

-- what a key does not find in the list it does not find in the part
pub part_none : (key : List ℕ) {a b : List Record} → Sublistᴰ a b → Sorted b → find key b ≡ none → find key a ≡ none
part_none key Sublistᴰ.slnil s = λ e. e
part_none key (Sublistᴰ.cons {a = x} {l₂ = m} p) s =
    less-connected key x.key
    (λ h e. part_none key p s.1 (find_above key m (above_before key x.key m h s.0)))
    (λ h e. absurd (none-ne-some x.val (sym e ∙ find_here key x m h)))
    (λ h e. part_none key p s.1 (sym (find_later key x m h) ∙ e))
part_none key (Sublistᴰ.cons-cons {b = x} {l₁ = l} {l₂ = m} q p) s =
    rw q (less-connected key x.key
    (λ h e. find_before key x l h)
    (λ h e. absurd (none-ne-some x.val (sym e ∙ find_here key x m h)))
    (λ h e. find_later key x l h ∙ part_none key p s.1 (sym (find_later key x m h) ∙ e)))

-- ---- the records whose keys pass a test
module _ (test : List ℕ → Bool) where
  pub whose_part : (rs : List Record) → Sublistᴰ (whose test rs) rs
  unfolding whose
  whose_part [] = Sublistᴰ.slnil
  whose_part (x ∷ m) =
      cases (test x.key) (λ e. rw e (Sublistᴰ.cons-cons refl (whose_part m))) (λ e. rw e (Sublistᴰ.cons (whose_part m)))

  pub whose_few : (rs : List Record) → length (whose test rs) ≤ length rs
  unfolding whose
  whose_few [] = omega arith
  whose_few (x ∷ m) = cases (test x.key) (λ e. rw e (omega (arith, whose_few m))) (λ e. rw e (omega (arith, whose_few m)))

  either_none : (b : Bool) → ◌≡◌ {A = Option (List ℕ)} (cond b none none) none
  either_none true = refl
  either_none false = refl

  pub find_whose : (key : List ℕ) (rs : List Record) → Sorted rs → find key (whose test rs) ≡ cond (test key) (find key rs) none
  unfolding whose
  find_whose key [] s = rw find_nil (sym (either_none (test key)))
  find_whose key (x ∷ m) s =
      let later = whose test m in
      let above : Above x.key later = all_part _ (whose_part m) s.0 in
      less-connected key x.key
      (λ h. rw (find_before key x m h, either_none (test key))
      (cases (test x.key)
      (λ e. rw e (find_before key x later h))
      (λ e. rw e (find_above key later (above_before key x.key later h above)))))
      (λ h. rw (h, find_here x.key x m refl)
      (cases (test x.key)
      (λ e. rw e (find_here x.key x later refl))
      (λ e. rw e (find_above x.key later above))))
      (λ h. rw (find_later key x m h)
      (cases (test x.key)
      (λ e. rw e (find_later key x later h ∙ find_whose key m s.1))
      (λ e. rw e (find_whose key m s.1))))
