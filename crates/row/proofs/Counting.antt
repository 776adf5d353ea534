-- The counts of records before a key and up to it: where they end, and which records they lead to.
use Prim.Native.Nat.{ℕ, zero, suc, ◌-◌, ◌≤◌, ◌<◌}
use mathlib.Core.Path.{◌≡◌, refl, sym, ap, ◌∙◌}
use mathlib.Core.Bool.{Bool, true, false, not, false≢true}
use mathlib.Core.Option.{none}
use mathlib.Core.List.{List, [], ◌∷◌}
use native.Mathlib.Nat.{sub-zero, suc-sub-suc}
use native.Mathlib.Omega.{arith}
use lib.ListN.{length, take, drop}
use borrow.Author.Tests.{not-false}
use borrow.Table.Steps.{cases}
use Rattle.bytestring.proofs.Tools.{All}
use Rattle.key.specs.Key.{less}
use Rattle.key.proofs.Laws.{less_transitive, is_false}
use Rattle.tree.specs.Record.{Record}
use Rattle.promises.specs.Map.{whose, nth}
use Rattle.promises.specs.Range.{is_between, at_or_after, or_else, last_before, records_between}
use Rattle.promises.proofs.MapLaws.{Above, Sorted, nth_there}
use Rattle.row.specs.Search.{key_at, count_front, count_below, count_up_to}

module _ (test : List ℕ → Bool) where
  -- a count ends at the first key that it leaves out
  pub front_ends : (rs : List Record) (n : ℕ) → n ≤ length rs → ((i : ℕ) → i < n → test (key_at rs i) ≡ true)
      → (n < length rs → test (key_at rs n) ≡ false) → n ≡ count_front test rs
  unfolding count_front
  front_ends [] n h f g = omega arith
  front_ends (x ∷ m) zero h f g = rw (g (omega arith))
  front_ends (x ∷ m) (suc n) h f g =
      rw (f 0 (omega arith)) (ap suc (front_ends m n (omega arith) (λ i l. f (suc i) (omega arith)) (λ l. g (omega arith))))

  pub front_few : (rs : List Record) → count_front test rs ≤ length rs
  unfolding count_front
  front_few [] = omega arith
  front_few (x ∷ m) = cases (test x.key) (λ e. rw e (omega (arith, front_few m))) (λ e. rw e (omega arith))

-- ---- the records beside a key
module _ (k : List ℕ) where
  pub nth_from : (rs : List Record) → at_or_after k rs ≡ nth (count_below k rs) rs
  unfolding at_or_after count_front nth
  nth_from [] = refl
  nth_from (x ∷ m) = cases (less x.key k) (λ e. rw e (nth_from m)) (λ e. rw e)

  pub none_below : (rs : List Record) → count_below k rs ≡ 0 → last_before k rs ≡ none
  unfolding count_front last_before
  none_below [] = λ h. refl
  none_below (x ∷ m) = cases (less x.key k) (λ e. rw e (λ h. absurd (omega arith))) (λ e. rw e (λ h. refl))

  -- by how many of the records behind the first are counted
  last_behind : (x : Record) (m : List Record) → ((n : ℕ) → count_below k m ≡ suc n → last_before k m ≡ nth n m)
      → (n : ℕ) → count_below k m ≡ n → or_else (last_before k m) x ≡ nth n (x ∷ m)
  unfolding or_else nth
  last_behind x m later zero e = rw (none_below m e)
  last_behind x m later (suc n) e = rw (later n e, nth_there n m x (omega (arith, front_few (λ key. less key k) m)))

  pub nth_below : (rs : List Record) (n : ℕ) → count_below k rs ≡ suc n → last_before k rs ≡ nth n rs
  unfolding count_front last_before
  nth_below [] n = λ h. absurd (omega arith)
  nth_below (x ∷ m) n =
      cases (less x.key k)
      (λ e. rw e (λ h. last_behind x m (nth_below m) n (omega arith)))
      (λ e. rw e (λ h. absurd (omega arith)))

-- ---- the records that one test counts and another does not
-- each is passed by the keys up to some place in the order
abbrev pub Falling : (List ℕ → Bool) → Type 0
Falling test = (a b : List ℕ) → less a b ≡ true → test a ≡ false → test b ≡ false

module _ {test : List ℕ → Bool} (falls : Falling test) where
  front_none : (key : List ℕ) → test key ≡ false → (m : List Record) → Above key m → count_front test m ≡ 0
  unfolding count_front
  front_none key h [] a = refl
  front_none key h (x ∷ m) a = rw (falls key x.key a.0 h)

-- `low` is passed by the keys below the records, `high` by those and the records' own
pub record Window (low high test : List ℕ → Bool) (r : Record) : Type 0 where
  pub below : low r.key ≡ true → (test r.key ≡ false) × (high r.key ≡ true)
  pub from : low r.key ≡ false → test r.key ≡ high r.key

module _ (low high test : List ℕ → Bool) (low-falls : Falling low) (high-falls : Falling high) where
  pub fronts_rise : (rs : List Record) → All (Window low high test) rs → count_front low rs ≤ count_front high rs
  unfolding count_front
  fronts_rise [] w = omega arith
  fronts_rise (x ∷ m) w =
      cases (low x.key) (λ e. rw (e, (w.0.below e).1) (omega (arith, fronts_rise m w.1))) (λ e. rw e (omega arith))

  -- behind the last record there is none
  none_behind : (key : List ℕ) → low key ≡ false → high key ≡ false → (m : List Record) → Above key m → All (Window low high test) m → whose test m ≡ []
  unfolding whose
  none_behind key l h [] a w = refl
  none_behind key l h (x ∷ m) a w =
      let out : test x.key ≡ false = w.0.from (low-falls key x.key a.0 l) ∙ high-falls key x.key a.0 h in
      rw out (none_behind key l h m a.1 w.1)

  pub window_slice : (rs : List Record) → Sorted rs → All (Window low high test) rs
      → whose test rs ≡ take (count_front high rs - count_front low rs) (drop (count_front low rs) rs)
  unfolding count_front whose
  window_slice [] s w = refl
  window_slice (x ∷ m) s w =
      cases (low x.key)
      (λ e. let b = w.0.below e in rw (e, b.0, b.1, suc-sub-suc) (window_slice m s.1 w.1))
      (λ e. cases (high x.key)
      (λ f. rw (e, w.0.from e ∙ f, f, sub-zero) (ap (λ (l : List Record). x ∷ l) (rw (front_none low-falls x.key e m s.0, sub-zero) at (window_slice m s.1 w.1))))
      (λ f. rw (e, w.0.from e ∙ f, f) (none_behind x.key e f m s.0 w.1)))

-- ---- the records between two keys
pub below_falls : (k : List ℕ) → Falling (λ key. less key k)
below_falls k a b h e = is_false (less b k) (λ l. false≢true (sym e ∙ less_transitive a b k h l))

up_to_falls : (k : List ℕ) → Falling (λ key. not (less k key))
up_to_falls k a b h e = rw (less_transitive k a b (not-false (less k a) e) h)

module _ (first last : List ℕ) (rise : less last first ≡ false) where
  between_window : (r : Record) → Window (λ key. less key first) (λ key. not (less last key)) (is_between first last) r
  between_window r = record {
    below = λ e. (rw e, rw (is_false (less last r.key) (λ l. false≢true (sym rise ∙ less_transitive last r.key first l e))));
    from = λ e. rw e;
  }

  between_all : (rs : List Record) → All (Window (λ key. less key first) (λ key. not (less last key)) (is_between first last)) rs
  between_all [] = tt
  between_all (x ∷ m) = (between_window x, between_all m)

  pub counts_rise : (rs : List Record) → count_below first rs ≤ count_up_to last rs
  counts_rise rs = fronts_rise _ _ (is_between first last) (below_falls first) (up_to_falls last) rs (between_all rs)

  pub between_slice : (rs : List Record) → Sorted rs
      → records_between first last rs ≡ take (count_up_to last rs - count_below first rs) (drop (count_below first rs) rs)
  between_slice rs s = window_slice _ _ (is_between first last) (below_falls first) (up_to_falls last) rs s (between_all rs)
