-- Laws of the elements of a list whose flag is set.
use mathlib.Core.Path.{◌≡◌, refl, ap}
use mathlib.Core.Bool.{Bool, true, false}
use mathlib.Core.List.{List, [], ◌∷◌, ◌++◌, map}
use native.Mathlib.Omega.{arith}
use lib.ListN.{length, drop}
use Rattle.opened.specs.Passing.{pick}

pub pick_none : {A : Type 0} (bs : List Bool) → pick {A = A} bs [] ≡ []
unfolding pick
pick_none [] = refl
pick_none (b ∷ bs) = refl

pub pick_map : {A B : Type 0} (f : A → B) (bs : List Bool) (l : List A) → pick bs (map f l) ≡ map f (pick bs l)
unfolding pick
pick_map f [] l = refl
pick_map f (b ∷ bs) [] = refl
pick_map f (true ∷ bs) (a ∷ l) = ap (λ m. f a ∷ m) (pick_map f bs l)
pick_map f (false ∷ bs) (a ∷ l) = pick_map f bs l

-- the flags of two rows, one after the other
pub pick_append : {A : Type 0} (bs cs : List Bool) (l : List A) → pick (bs ++ cs) l ≡ pick bs l ++ pick cs (drop (length bs) l)
unfolding pick
pick_append [] cs l = refl
pick_append (b ∷ bs) cs [] = rw (pick_none cs)
pick_append (true ∷ bs) cs (a ∷ l) = ap (λ m. a ∷ m) (pick_append bs cs l)
pick_append (false ∷ bs) cs (a ∷ l) = pick_append bs cs l

pub pick_both : {A : Type 0} (bs cs : List Bool) (l m : List A) → length bs ≡ length l → pick (bs ++ cs) (l ++ m) ≡ pick bs l ++ pick cs m
unfolding pick
pick_both [] cs [] m e = refl
pick_both [] cs (a ∷ l) m e = absurd (omega arith)
pick_both (b ∷ bs) cs [] m e = absurd (omega arith)
pick_both (true ∷ bs) cs (a ∷ l) m e = let h : length bs ≡ length l = omega arith in ap (λ k. a ∷ k) (pick_both bs cs l m h)
pick_both (false ∷ bs) cs (a ∷ l) m e = let h : length bs ≡ length l = omega arith in pick_both bs cs l m h
