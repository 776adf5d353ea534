-- Number by number, what a page needs to know of the pages under its links: a layer, a count, and a first and a last key.
use Prim.Native.Nat.{ℕ}
use mathlib.Core.Path.{◌≡◌, refl, sym}
use mathlib.Core.Bool.{Bool, true, ◌&&◌, and_assoc, and-true}
use mathlib.Core.Logic.{inl, inr}
use mathlib.Core.Option.{Option, none, some}
use mathlib.Core.List.{List, [], ◌∷◌, ◌++◌}
use native.Mathlib.Omega.{arith}
use Rattle.key.specs.Key.{lawful}
use Rattle.tree.specs.Tree.{page, Gap, Entries, entry}
use Rattle.tree.specs.Record.{Record, Spelt, keyed, keyed_under, keyed_from}
use Rattle.tree.specs.Judge.{all_lawful, rising, right_tree}
use Rattle.tree.proofs.Laws.{Some, Layered, layer_of_record, depths, depths_under, depths_from, layered_level, layered_filled, local_right}
use Rattle.summaries.specs.Summary.{passes}

-- ---- 8: keys rise from the last key so far, if there is one
unfoldable pub rises_after : Option (List ℕ) → List Record → Bool
rises_after l [] = true
rises_after l (r ∷ rs) = passes l r.key && rises_after (some r.key) rs

unfoldable pub last_key_after : Option (List ℕ) → List Record → Option (List ℕ)
last_key_after l [] = l
last_key_after l (r ∷ rs) = last_key_after (some r.key) rs

pub after_append : (l : Option (List ℕ)) (a b : List Record) → rises_after l (a ++ b) ≡ (rises_after l a && rises_after (last_key_after l a) b)
unfolding rises_after last_key_after
after_append l [] b = refl
after_append l (r ∷ a) b =
    rw (after_append (some r.key) a b)
    (sym (and_assoc (passes l r.key) (rises_after (some r.key) a) (rises_after (last_key_after (some r.key) a) b)))

pub last_key_append : (l : Option (List ℕ)) (a b : List Record) → last_key_after l (a ++ b) ≡ last_key_after (last_key_after l a) b
unfolding last_key_after
last_key_append l [] b = refl
last_key_append l (r ∷ a) b = last_key_append (some r.key) a b

-- it is the test of number 8
after_cons : (r : Record) (rs : List Record) → rises_after (some r.key) rs ≡ rising (r ∷ rs)
unfolding rises_after rising passes
after_cons r [] = refl
after_cons r (s ∷ rs) = rw (after_cons s rs)

pub after_rising : (rs : List Record) → rises_after none rs ≡ rising rs
unfolding rises_after passes rising
after_rising [] = refl
after_rising (r ∷ rs) = after_cons r rs

-- of a page that is known to rise, the first key decides; and its last key does not depend on what came before
pub after_known : (l : Option (List ℕ)) (r : Record) (rs : List Record) → rising (r ∷ rs) ≡ true → rises_after l (r ∷ rs) ≡ passes l r.key
unfolding rises_after
after_known l r rs h = rw (after_cons r rs, h) (and-true (passes l r.key))

pub last_known : (l : Option (List ℕ)) (r : Record) (rs : List Record) → last_key_after l (r ∷ rs) ≡ last_key_after none (r ∷ rs)
unfolding last_key_after
last_known l r rs = refl

-- ---- 7: page by page
pub all_lawful_append : (a b : List Record) → all_lawful (a ++ b) ≡ (all_lawful a && all_lawful b)
unfolding all_lawful
all_lawful_append [] b = refl
all_lawful_append (r ∷ a) b = rw (all_lawful_append a b) (sym (and_assoc (lawful r.key) (all_lawful a) (all_lawful b)))

-- ---- 9: a root with an entry, whose pages stand at their layers
some_right : {A : Type 0} (P : A → Type 0) (a b : List A) → Some P b → Some P (a ++ b)
some_right P [] b h = h
some_right P (x ∷ a) b h = inr (some_right P a b h)

at_root : (g : Gap Spelt (List ℕ)) (e : Spelt) (h : Gap Spelt (List ℕ)) (es : Entries Spelt (List ℕ))
    → Some (λ (z : ℕ × Record). z.0 ≡ 0) (depths 0 (keyed (page g (entry e h es))))
unfolding depths keyed
at_root g e h es = some_right (λ (z : ℕ × Record). z.0 ≡ 0) (depths_under 1 (keyed_under g)) (depths_from 0 (keyed_from [] (entry e h es))) (inl refl)

pub layered_root : (g : Gap Spelt (List ℕ)) (e : Spelt) (h : Gap Spelt (List ℕ)) (es : Entries Spelt (List ℕ)) (n : ℕ)
    → Layered layer_of_record n (keyed (page g (entry e h es))) → right_tree (page g (entry e h es)) ≡ true
layered_root g e h es n k =
    local_right (page g (entry e h es)) n
    (record {
      level = layered_level layer_of_record n n 0 (keyed (page g (entry e h es))) (omega arith) k;
      filled = layered_filled layer_of_record n (keyed (page g (entry e h es))) k;
      root = λ f. at_root g e h es;
    })
