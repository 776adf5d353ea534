-- What a second set has that a first does not hold.
use Prim.Native.Nat.{◌≤◌}
use mathlib.Core.Path.{◌≡◌, refl, sym, ap, ◌∙◌}
use mathlib.Core.Bool.{cond}
use mathlib.Core.List.{List, [], ◌∷◌, ◌++◌}
use native.Mathlib.Omega.{arith}
use lib.ListN.{length}
use borrow.Table.Steps.{cases}
use Rattle.bytestring.specs.Bytes.{equal}
use Rattle.key.proofs.Laws.{less-connected}
use Rattle.tree.specs.Record.{Record}
use Rattle.promises.specs.Map.{find}
use Rattle.promises.specs.Difference.{is_value_there, holds, lacking}
use Rattle.promises.proofs.MapLaws.{Before, Above, Sorted, above_before, find_before, find_here, find_later}
use Rattle.choice.specs.Choice.{combined, sifting, sift}
use Rattle.choice.proofs.Weaving.{combined_none, combined_end, combined_first, combined_second, combined_both}

-- ---- what is lacking, case by case
lacking_none : (rs : List Record) → lacking [] rs ≡ rs
unfolding lacking holds is_value_there find
lacking_none [] = refl
lacking_none (r ∷ rs) = ap (λ (l : List Record). r ∷ l) (lacking_none rs)

-- a record before all others holds none of them
lacking_above : (x : Record) (m rs : List Record) → Above x.key rs → lacking (x ∷ m) rs ≡ lacking m rs
unfolding lacking holds
lacking_above x m [] a = refl
lacking_above x m (r ∷ rs) a = rw (find_later r.key x m a.0, lacking_above x m rs a.1)

module _ (x : Record) (m : List Record) (r : Record) (rs : List Record) where
  lacking_before : Before r.key x.key → lacking (x ∷ m) (r ∷ rs) ≡ r ∷ lacking (x ∷ m) rs
  unfolding lacking holds is_value_there
  lacking_before h = rw (find_before r.key x m h)

  lacking_same : x.key ≡ r.key → Above r.key rs → lacking (x ∷ m) (r ∷ rs) ≡ cond (equal x.val r.val) [] (r ∷ []) ++ lacking m rs
  unfolding lacking holds is_value_there
  lacking_same e a =
      rw (find_here r.key x m (sym e), lacking_above x m rs (rw (← e) at a))
      (cases (equal x.val r.val) (λ h. rw h) (λ h. rw h))

-- ---- the records combined so are what is lacking
pub sift_end : (m : List Record) → combined sifting m [] ≡ []
sift_end [] = combined_none sifting []
sift_end (x ∷ m) = combined_end sifting x m ∙ sift_end m

pub sift_lacking : (m rs : List Record) → Sorted rs → sift m rs ≡ lacking m rs
unfolding lacking
sift_lacking [] rs s = combined_none sifting rs ∙ sym (lacking_none rs)
sift_lacking (x ∷ m) [] s = sift_end (x ∷ m)
sift_lacking (x ∷ m) (r ∷ rs) s =
    less-connected x.key r.key
    (λ h. combined_first sifting x m r rs h ∙ sift_lacking m (r ∷ rs) s ∙ sym (lacking_above x m (r ∷ rs) (h, above_before x.key r.key rs h s.0)))
    (λ e. combined_both sifting x m r rs e ∙ rw (sift_lacking m rs s.1) (sym (lacking_same x m r rs e s.0)))
    (λ h. combined_second sifting x m r rs h ∙ rw (sift_lacking (x ∷ m) rs s.1) (sym (lacking_before x m r rs h)))

-- they are no more than the second set's
pub sift_few : (m rs : List Record) → length (combined sifting m rs) ≤ length rs
sift_few [] rs = rw (combined_none sifting rs) (omega arith)
sift_few (x ∷ m) [] = rw (sift_end (x ∷ m)) (omega arith)
sift_few (x ∷ m) (r ∷ rs) =
    less-connected x.key r.key
    (λ h. rw (combined_first sifting x m r rs h) (sift_few m (r ∷ rs)))
    (λ e. rw (combined_both sifting x m r rs e)
    (cases (equal x.val r.val) (λ h. rw h (omega (arith, sift_few m rs))) (λ h. rw h (omega (arith, sift_few m rs)))))
    (λ h. rw (combined_second sifting x m r rs h) (omega (arith, sift_few (x ∷ m) rs)))
