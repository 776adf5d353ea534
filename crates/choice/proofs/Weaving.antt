-- Two sets combined, case by case. Two sets woven into one: with one record it is an insertion, and with the greater values a merge. And a set without one of its records.
use Prim.Native.Nat.{ℕ, zero, suc, ◌+◌, ◌<◌}
use mathlib.Core.Path.{◌≡◌, refl, sym, ap, ◌∙◌}
use mathlib.Core.Bool.{true, false}
use mathlib.Core.Option.{some}
use mathlib.Core.List.{List, [], ◌∷◌, ◌++◌}
use native.Mathlib.Numerals.{add-one}
use native.Mathlib.Omega.{arith}
use lib.ListN.{length, take, drop, get_or}
use borrow.Table.Steps.{cases}
use Rattle.key.specs.Key.{less}
use Rattle.key.proofs.Laws.{less-connected, less_asymmetric, less_same}
use Rattle.tree.specs.Record.{Record}
use Rattle.promises.specs.Map.{find, insert, put, greater, join, remove, merge}
use Rattle.row.specs.Row.{nothing}
use Rattle.row.specs.Search.{key_at, count_front, count_below, count_up_to}
use Rattle.choice.specs.Choice.{Rule, combine_before, combined, weaving, choice_of, weave}
use Rattle.promises.proofs.MapLaws.{Before, Above, Sorted, above_before, insert_before, insert_here, insert_later, find_here, find_later, remove_here, remove_later}

-- ---- two sets combined, case by case
module _ (rule : Rule) where
  pub combined_none : (rs : List Record) → combined rule [] rs ≡ rs
  unfolding combined
  combined_none rs = refl

  module _ (x : Record) (m : List Record) where
    pub combined_end : combined rule (x ∷ m) [] ≡ rule.alone x ++ combined rule m []
    unfolding combined combine_before
    combined_end = refl

    module _ (r : Record) (rs : List Record) where
      pub combined_first : Before x.key r.key → combined rule (x ∷ m) (r ∷ rs) ≡ rule.alone x ++ combined rule m (r ∷ rs)
      unfolding combined combine_before
      combined_first h = rw h

      pub combined_second : Before r.key x.key → combined rule (x ∷ m) (r ∷ rs) ≡ r ∷ combined rule (x ∷ m) rs
      unfolding combined combine_before
      combined_second h = rw (h, less_asymmetric r.key x.key h)

      pub combined_both : x.key ≡ r.key → combined rule (x ∷ m) (r ∷ rs) ≡ rule.both x r ++ combined rule m rs
      unfolding combined combine_before
      combined_both e = rw (less_same x.key r.key e, less_same r.key x.key (sym e))

-- ---- two sets woven
module _ (choose : List ℕ → List ℕ → List ℕ) where
  module _ (x : Record) (m : List Record) where
    -- a record before all of the second's comes first
    weave_above : (rs : List Record) → Above x.key rs → weave choose (x ∷ m) rs ≡ x ∷ weave choose m rs
    weave_above [] a = combined_end (weaving choose) x m
    weave_above (r ∷ rs) a = combined_first (weaving choose) x m r rs a.0

  pub weave_whole : (m : List Record) → weave choose m [] ≡ m
  weave_whole [] = combined_none (weaving choose) []
  weave_whole (x ∷ m) = combined_end (weaving choose) x m ∙ ap (λ (l : List Record). x ∷ l) (weave_whole m)

  -- the second's first record may be inserted before the rest
  pub weave_insert : (r : Record) (m rs : List Record) → Above r.key rs → weave choose m (r ∷ rs) ≡ weave choose (insert choose r m) rs
  unfolding insert
  weave_insert r [] rs a = combined_none (weaving choose) (r ∷ rs) ∙ sym (weave_above r [] rs a ∙ ap (λ (l : List Record). r ∷ l) (combined_none (weaving choose) rs))
  weave_insert r (x ∷ m) rs a =
      less-connected r.key x.key
      (λ h. combined_second (weaving choose) x m r rs h ∙ sym (weave_above r (x ∷ m) rs a) ∙ rw (insert_before choose r x m h))
      (λ e.
      let y : Record = record { key = x.key; val = choose x.val r.val } in
      combined_both (weaving choose) x m r rs (sym e) ∙ sym (weave_above y m rs (rw e at a)) ∙ rw (insert_here choose r x m e))
      (λ h.
      combined_first (weaving choose) x m r rs h
      ∙ ap (λ (l : List Record). x ∷ l) (weave_insert r m rs a)
      ∙ sym (weave_above x (insert choose r m) rs (above_before x.key r.key rs h a))
      ∙ rw (insert_later choose r x m h))

  pub weave_one : (r : Record) (m : List Record) → weave choose m (r ∷ []) ≡ insert choose r m
  weave_one r m = weave_insert r m [] tt ∙ weave_whole (insert choose r m)

-- ---- what the calls ask for
pub weave_put : (r : Record) (m : List Record) → weave (choice_of false) m (r ∷ []) ≡ put r m
unfolding put choice_of
weave_put r m = weave_one (λ old new. new) r m

pub weave_join : (r : Record) (m : List Record) → weave (choice_of true) m (r ∷ []) ≡ join r m
unfolding join choice_of
weave_join r m = weave_one greater r m

pub weave_merge : (rs m : List Record) → Sorted rs → weave (choice_of true) m rs ≡ merge m rs
unfolding merge join choice_of
weave_merge [] m s = weave_whole greater m
weave_merge (r ∷ rs) m s = weave_insert greater r m rs s.0 ∙ weave_merge rs (insert greater r m) s.1

-- ---- a set without its i-th record
above_at : (k : List ℕ) (m : List Record) (d : Record) → Above k m → (i : ℕ) → i < length m → Before k (get_or m i d).key
above_at k [] d a i h = absurd (omega arith)
above_at k (x ∷ m) d a zero h = a.0
above_at k (x ∷ m) d a (suc i) h = above_at k m d a.1 i (omega arith)

module _ (k : List ℕ) (d : Record) where
  pub remove_at : (m : List Record) → Sorted m → (i : ℕ) → i < length m → (get_or m i d).key ≡ k → remove k m ≡ take i m ++ drop (suc i) m
  remove_at [] s i h e = absurd (omega arith)
  remove_at (x ∷ m) s zero h e = remove_here k x m (sym e)
  remove_at (x ∷ m) s (suc i) h e =
      remove_later k x m (rw e at (above_at x.key m d s.0 i (omega arith)))
      ∙ ap (λ (l : List Record). x ∷ l) (remove_at m s.1 i (omega arith) e)

  -- the key finds its value there
  pub find_at : (m : List Record) → Sorted m → (i : ℕ) → i < length m → (get_or m i d).key ≡ k → find k m ≡ some (get_or m i d).val
  find_at [] s i h e = absurd (omega arith)
  find_at (x ∷ m) s zero h e = find_here k x m (sym e)
  find_at (x ∷ m) s (suc i) h e =
      find_later k x m (rw e at (above_at x.key m d s.0 i (omega arith))) ∙ find_at m s.1 i (omega arith) e

-- ---- one record woven in at the position of its key
module _ (choose : List ℕ → List ℕ → List ℕ) (x : Record) where
  -- a record before x stays where it is
  behind : (r : Record) (m l : List Record) → Before r.key x.key → weave choose m (x ∷ []) ≡ l → weave choose (r ∷ m) (x ∷ []) ≡ r ∷ l
  behind r m l h e = combined_first (weaving choose) r m x [] h ∙ ap (λ (y : List Record). r ∷ y) e

  -- where no record has its key, it is inserted
  pub weave_absent : (rs : List Record) (p : ℕ) → p ≡ count_below x.key rs → p ≡ count_up_to x.key rs
      → weave choose rs (x ∷ []) ≡ take p rs ++ (x ∷ drop p rs)
  unfolding count_front
  weave_absent [] zero = λ e f. combined_none (weaving choose) (x ∷ [])
  weave_absent [] (suc p) = λ e f. absurd (omega arith)
  weave_absent (r ∷ m) zero =
      cases (less x.key r.key)
      (λ h. rw h (λ e f. combined_second (weaving choose) r m x [] h ∙ rw (weave_whole choose (r ∷ m))))
      (λ h. rw h (λ e f. absurd (omega arith)))
  weave_absent (r ∷ m) (suc p) =
      cases (less r.key x.key)
      (λ h. rw (h, less_asymmetric r.key x.key h) (λ e f. behind r m _ h (weave_absent m p (omega arith) (omega arith))))
      (λ h. rw h (λ e f. absurd (omega arith)))

  -- where one has, its value is chosen in that one's place
  abbrev pub chosen_at : List Record → ℕ → Record
  chosen_at rs p = record { key = x.key; val = choose (get_or rs p nothing).val x.val }

  weave_there : (rs : List Record) → Sorted rs → (p : ℕ) → p < length rs → key_at rs p ≡ x.key
      → weave choose rs (x ∷ []) ≡ take p rs ++ (chosen_at rs p ∷ drop (suc p) rs)
  weave_there [] s p h e = absurd (omega arith)
  weave_there (r ∷ m) s zero h e = combined_both (weaving choose) r m x [] e ∙ rw (weave_whole choose m, e)
  weave_there (r ∷ m) s (suc p) h e =
      behind r m _ (rw e at (above_at r.key m nothing s.0 p (omega arith))) (weave_there m s.1 p (omega arith) e)

  pub weave_present : (rs : List Record) → Sorted rs → (p : ℕ) → p < length rs → key_at rs p ≡ x.key
      → weave choose rs (x ∷ []) ≡ take p rs ++ (chosen_at rs p ∷ drop (p + 1) rs)
  weave_present rs s p h e = rw (add-one p) (weave_there rs s p h e)
