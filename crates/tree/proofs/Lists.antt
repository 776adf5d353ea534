-- Lists without elements, and properties of some element.
use mathlib.Core.Path.{◌≡◌, refl}
use mathlib.Core.Logic.{◌⊎◌}
use mathlib.Core.List.{List, [], ◌∷◌, ◌++◌, map, cons≢nil}

abbrev pub Some : {A : Type 0} → (A → Type 0) → List A → Type 0
Some P [] = ⊥
Some P (a ∷ l) = P a ⊎ Some P l

pub map_none : {A B : Type 0} (f : A → B) (l : List A) → map f l ≡ [] → l ≡ []
map_none f [] e = refl
map_none f (a ∷ l) e = absurd (cons≢nil e)

pub append_none : {A : Type 0} (l m : List A) → l ++ m ≡ [] → l ≡ []
append_none [] m e = refl
append_none (a ∷ l) m e = absurd (cons≢nil e)

pub none_or_some {κ} : {A : Type 0} {C : Type κ} (l : List A) → (l ≡ [] → C) → ((l ≡ [] → ⊥) → C) → C
none_or_some [] f g = f refl
none_or_some (a ∷ l) f g = g cons≢nil
