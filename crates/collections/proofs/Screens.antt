-- The screens of a list of records: how many, in which order, and on which one a record stands.
use Prim.Native.Nat.{ℕ, zero, suc, ◌+◌, ◌-◌, ◌*◌, ◌/◌, ◌≤◌, ◌<◌}
use mathlib.Core.Path.{◌≡◌, refl, sym, ap, subst, ◌∙◌}
use mathlib.Core.Option.{none, some, none-ne-some}
use mathlib.Core.List.Sublistᴰ
use mathlib.Core.List.{List, [], ◌∷◌, ◌++◌, Sublistᴰ}
use native.Mathlib.Omega.{arith}
use lib.Dec.{eqb, ltb}
use lib.ListN.{length, take, drop, length-take, length-drop, length-append}
use lib.Seq.{take_all, take-add, take-append-le, take-append-add, drop-append-le, drop-append-add}
use borrow.Author.Tests.{eqb-true, eqb-false, ltb-true, ltb-false}
use borrow.Table.Steps.{cases}
use Rattle.key.proofs.Laws.{less-connected}
use Rattle.tree.specs.Record.{Record}
use Rattle.promises.specs.Map.{find}
use Rattle.promises.proofs.MapLaws.{Above, Below, Sorted, sorted_sides, find_nil, find_before, find_here, find_later, find_above, find_below, find_right}
use Rattle.promises.proofs.Parts.{all_part}
use Rattle.collections.specs.Screen.{screens, on_screen}
use Rattle.collections.specs.Promises.{ScreensSuffice, screens_before, ScreensInTurn, OnOneScreen}

-- ---- how many
pub screens_suffice : ScreensSuffice
unfolding screens
screens_suffice count =
    cases (eqb count 0)
    (λ e. let none : count ≡ 0 = eqb-true count 0 e in rw e (omega arith, omega arith, λ n h g. h))
    (λ e. let some : count ≡ 0 → ⊥ = eqb-false count 0 e in rw e (omega (arith, some), omega arith, λ n h g. omega arith))

-- ---- one after the other
before_taken : (n : ℕ) (rs : List Record) → screens_before n rs ≡ take (8 * n) rs
unfolding screens_before on_screen
before_taken zero rs = refl
before_taken (suc n) rs =
    let step : 8 * suc n ≡ 8 * n + 8 = omega arith in
    rw (before_taken n rs, step) (sym (take-add (8 * n) 8 rs))

pub screens_in_turn : ScreensInTurn
screens_in_turn rs =
    before_taken (screens (length rs)) rs ∙ take_all (8 * screens (length rs)) rs (screens_suffice (length rs)).1

-- ---- a screen is a part of the list
taken_part : (n : ℕ) (l : List Record) → Sublistᴰ (take n l) l
taken_part zero l = Sublistᴰ.nil-sublist l
taken_part (suc n) [] = Sublistᴰ.slnil
taken_part (suc n) (x ∷ l) = Sublistᴰ.cons-cons refl (taken_part n l)

dropped_part : (n : ℕ) (l : List Record) → Sublistᴰ (drop n l) l
dropped_part zero l = Sublistᴰ.refl l
dropped_part (suc n) [] = Sublistᴰ.slnil
dropped_part (suc n) (x ∷ l) = Sublistᴰ.cons (dropped_part n l)

pub screen_part : (n : ℕ) (rs : List Record) → Sublistᴰ (on_screen n rs) rs
unfolding on_screen
screen_part n rs = Sublistᴰ.trans (taken_part 8 (drop (8 * n) rs)) (dropped_part (8 * n) rs)

pub screen_few : (n : ℕ) (rs : List Record) → length (on_screen n rs) ≤ 8
unfolding on_screen
screen_few n rs = omega (arith, length-take 8 (drop (8 * n) rs))

-- ---- what a key finds stands at one place
record StandsAt (key val : List ℕ) (rs : List Record) : Type 0 where
  pub front : List Record
  pub found : Record
  pub back : List Record
  pub whole : rs ≡ front ++ (found ∷ back)
  pub name : found.key ≡ key
  pub value : found.val ≡ val

found_stands : (key val : List ℕ) (rs : List Record) → find key rs ≡ some val → StandsAt key val rs
found_stands key val [] = λ e. absurd (none-ne-some val (sym (find_nil key) ∙ e))
found_stands key val (x ∷ m) =
    less-connected key x.key
    (λ h e. absurd (none-ne-some val (sym (find_before key x m h) ∙ e)))
    (λ h e.
    let same : some x.val ≡ some val = sym (find_here key x m h) ∙ e in
    record { front = []; found = x; back = m; whole = refl; name = sym h; value = cc })
    (λ h e.
    let w = found_stands key val m (sym (find_later key x m h) ∙ e) in
    record { front = x ∷ w.front; found = w.found; back = w.back; whole = ap (λ (l : List Record). x ∷ l) w.whole; name = w.name; value = w.value })

-- ---- the screen of a record
module _ (a : List Record) (r : Record) (b : List Record) (s : Sorted (a ++ (r ∷ b))) where
  abbrev rs : List Record
  rs = a ++ (r ∷ b)

  abbrev number : ℕ
  number = length a / 8

  abbrev sides : Below r.key a × Above r.key b
  sides = sorted_sides a r b s

  number_exists : number < screens (length rs)
  number_exists = omega (arith, (screens_suffice (length rs)).1, length-append a (r ∷ b))

  shown_there : find r.key (on_screen number rs) ≡ some r.val
  unfolding on_screen
  shown_there =
      let f : List Record = drop (8 * number) a in
      let rest : ℕ = 7 - length f in
      let eight : 8 ≡ length f + suc rest = omega (arith, length-drop (8 * number) a) in
      let on : take 8 (drop (8 * number) rs) ≡ f ++ (r ∷ take rest b) =
      ap (take 8) (drop-append-le (8 * number) a (r ∷ b) (omega arith)) ∙ ap (λ (m : ℕ). take m (f ++ (r ∷ b))) eight ∙ take-append-add f (r ∷ b) (suc rest) in
      rw on (find_right r.key f (r ∷ take rest b) (all_part _ (dropped_part (8 * number) a) sides.0) ∙ find_here r.key r (take rest b) refl)

  earlier_none : (n : ℕ) → n < number → find r.key (on_screen n rs) ≡ none
  unfolding on_screen
  earlier_none n h =
      let f : List Record = drop (8 * n) a in
      let on : take 8 (drop (8 * n) rs) ≡ take 8 f =
      ap (take 8) (drop-append-le (8 * n) a (r ∷ b) (omega arith)) ∙ take-append-le 8 f (r ∷ b) (omega (arith, length-drop (8 * n) a)) in
      rw on (find_below r.key (take 8 f) (all_part _ (taken_part 8 f) (all_part _ (dropped_part (8 * n) a) sides.0)))

  later_none : (n : ℕ) → number < n → find r.key (on_screen n rs) ≡ none
  unfolding on_screen
  later_none n h =
      let d : ℕ = 8 * n - suc (length a) in
      let place : 8 * n ≡ length a + suc d = omega arith in
      let on : drop (8 * n) rs ≡ drop d b = ap (λ (m : ℕ). drop m rs) place ∙ drop-append-add a (r ∷ b) (suc d) in
      rw on (find_above r.key (take 8 (drop d b)) (all_part _ (taken_part 8 (drop d b)) (all_part _ (dropped_part d b) sides.1)))

  other_none : (n : ℕ) → (n ≡ number → ⊥) → find r.key (on_screen n rs) ≡ none
  other_none n h = cases (ltb n number) (λ e. earlier_none n (ltb-true n number e)) (λ e. later_none n (omega (arith, h, ltb-false n number e)))

  on_one : OnOneScreen rs r.key r.val
  on_one = record { number = number; exists = number_exists; shown = shown_there; nowhere_else = other_none }

pub on_one_screen : (key val : List ℕ) (rs : List Record) → Sorted rs → find key rs ≡ some val → OnOneScreen rs key val
on_one_screen key val rs s e =
    let w = found_stands key val rs e in
    let r = w.found in
    let there = on_one w.front r w.back (subst Sorted w.whole s) in
    subst (λ l. OnOneScreen l key val) (sym w.whole)
    (subst (λ k. OnOneScreen (w.front ++ (r ∷ w.back)) k val) w.name
    (subst (λ v. OnOneScreen (w.front ++ (r ∷ w.back)) r.key v) w.value there))
