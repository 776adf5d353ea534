-- The walk's steps one after the other.
use Prim.Native.Nat.{ℕ, ◌≤◌}
use mathlib.Core.Path.{◌≡◌, refl, sym, ap, subst, ◌∙◌}
use mathlib.Core.Bool.{Bool, true, ◌&&◌, and_assoc, and-true}
use mathlib.Core.List.{List, [], ◌∷◌, ◌++◌, append_assoc, append-nil}
use native.Mathlib.Omega.{arith}
use lib.ListN.{length, length-append}
use Rattle.bytestring.proofs.Tools.{and_inv}
use Rattle.key.specs.Key.{less, lawful}
use Rattle.index.specs.Slot.{Slot, key_of, lawful_slots, rising_after, last_after}
use Rattle.index.specs.Chain.{Chain, ChainsAt}
use Rattle.index.specs.Walk.{Moved}
use Rattle.index.specs.declared.walk.WalkState.{WalkState}
use Rattle.index.proofs.ChainRows.{row_append, row_kept}

-- ---- tests on slots one after the other
pub lawful_append : (xs ys : List Slot) → lawful_slots (xs ++ ys) ≡ (lawful_slots xs && lawful_slots ys)
unfolding lawful_slots
lawful_append [] ys = refl
lawful_append (x ∷ xs) ys = rw (lawful_append xs ys) (sym (and_assoc (lawful (key_of x)) (lawful_slots xs) (lawful_slots ys)))

pub last_append : (k : List ℕ) (xs ys : List Slot) → last_after k (xs ++ ys) ≡ last_after (last_after k xs) ys
unfolding last_after
last_append k [] ys = refl
last_append k (x ∷ xs) ys = last_append (key_of x) xs ys

pub rising_append : (k : List ℕ) (xs ys : List Slot) → rising_after k (xs ++ ys) ≡ (rising_after k xs && rising_after (last_after k xs) ys)
unfolding rising_after last_after
rising_append k [] ys = refl
rising_append k (x ∷ xs) ys =
    rw (rising_append (key_of x) xs ys) (sym (and_assoc (less k (key_of x)) (rising_after (key_of x) xs) (rising_after (last_after (key_of x) xs) ys)))

-- ---- steps
-- a test that held so far, and two more
both_hold : (p a b : Bool) {q r : Bool} → q ≡ (p && a) → r ≡ (q && b) → r ≡ (p && (a && b))
both_hold p a b e f = f ∙ ap (λ x. x && b) e ∙ and_assoc p a b

pub moved_none : {s index row last : List ℕ} {st : WalkState} → st.next ≤ length s → Moved s index row last [] [] true true st st index row last
unfolding lawful_slots rising_after last_after ChainsAt
moved_none {st = st} h = record {
  ahead = omega arith;
  within = h;
  count = omega arith;
  chain_count = omega arith;
  prefixes = λ e. (e, refl);
  fill = sym (and-true st.filled);
  lawful = sym (and-true st.lawful);
  rising = λ k _ _. sym (and-true st.rising);
  latest = λ k _ l. l;
  indexed = λ before e p. rw append-nil p;
  room = refl;
  kept = λ i h. refl;
  chained = λ h. tt;
}

pub moved_seq : {s index row last index₁ row₁ last₁ index₂ row₂ last₂ : List ℕ} {xs ys : List Slot} {cs ds : List Chain} {a b c d : Bool} {st st₁ st₂ : WalkState}
    → Moved s index row last xs cs a b st st₁ index₁ row₁ last₁ → Moved s index₁ row₁ last₁ ys ds c d st₁ st₂ index₂ row₂ last₂
    → Moved s index row last (xs ++ ys) (cs ++ ds) (a && c) (b && d) st st₂ index₂ row₂ last₂
moved_seq {s} {row = row} {row₁ = row₁} {row₂ = row₂} {xs = xs} {ys = ys} {cs} {ds} {a} {b} {c} {d} {st} {st₁} m n =
    let split : lawful_slots (xs ++ ys) ≡ true → (lawful_slots xs ≡ true) × (lawful_slots ys ≡ true) = λ h. and_inv (lawful_slots xs) (rw lawful_append at h) in
    record {
      ahead = omega (arith, m.ahead, n.ahead);
      within = n.within;
      count = omega (arith, m.count, n.count, length-append xs ys);
      chain_count = omega (arith, m.chain_count, n.chain_count, length-append cs ds);
      prefixes = λ e. let q = n.prefixes e in let p = m.prefixes q.0 in (p.0, rw (p.1, q.1));
      fill = both_hold st.filled b d m.fill n.fill;
      lawful = rw lawful_append (both_hold st.lawful (lawful_slots xs) (lawful_slots ys) m.lawful n.lawful);
      rising = λ k h l.
          rw rising_append (both_hold st.rising (rising_after k xs) (rising_after (last_after k xs) ys)
          (m.rising k (split h).0 l) (n.rising (last_after k xs) (split h).1 (m.latest k (split h).0 l)));
      latest = λ k h l. rw last_append (n.latest (last_after k xs) (split h).1 (m.latest k (split h).0 l));
      indexed = λ before p q.
          let z : length (before ++ xs) ≡ st₁.count = omega (arith, length-append before xs, m.count) in
          rw (← append_assoc) (n.indexed (before ++ xs) z (m.indexed before p q));
      room = n.room ∙ m.room;
      kept = λ i h. n.kept i (omega (arith, m.chain_count)) ∙ m.kept i h;
      chained = λ h.
          row_append s row₂ st.chains cs ds
          (row_kept s row₁ row₂ st.chains cs n.room (λ i p q. n.kept i (omega (arith, m.chain_count))) (m.chained (omega (arith, n.count))))
          (subst (λ (k : ℕ). ChainsAt s row₂ k ds) m.chain_count (n.chained h));
    }
