-- A chain of a row, by its number.
use Prim.Native.Nat.{ℕ, zero, suc, ◌+◌, ◌-◌, ◌*◌, ◌≤◌, ◌<◌}
use mathlib.Core.Path.{◌≡◌, refl, sym, subst}
use mathlib.Core.List.{List, [], ◌∷◌}
use native.Mathlib.Omega.{arith}
use native.Mathlib.Nat.{add-zero}
use lib.ListN.{length, take, drop, get_or, length-take, length-drop}
use lib.Seq.{drop-cons, get_or-take, get_or-drop, take-nil}
use Rattle.index.proofs.ChainRows.{words_at}
use Rattle.index.specs.Chain.{Chain, chains, LabelsAt, ChainWords, ChainsAt, no_chain}
use Rattle.index.specs.Accepted.{ChainRow}
use Rattle.digests.specs.Digests.{ChainsNoted}

-- the chains of an accepted register
abbrev pub row_noted : {s row : List ℕ} {n : ℕ} → ChainRow s row n → ChainsNoted s row n
row_noted w = record { chains = chains 0 0 [] w.tree; number = sym w.size; room = w.room; words = w.stands }

module _ {s row : List ℕ} {n : ℕ} (d : ChainsNoted s row n) (i : ℕ) (h : i < n) where
  pub chain_words : ChainWords s (get_or row (2 * i) 0) (get_or row (2 * i + 1) 0) (get_or d.chains i no_chain)
  chain_words =
      let e : 0 + i ≡ i = omega arith in
      subst (λ (k : ℕ). ChainWords s (get_or row (2 * k) 0) (get_or row (2 * k + 1) 0) (get_or d.chains i no_chain)) e
      (words_at s row 0 d.chains d.words i (omega (arith, d.number)) (omega (arith, d.room)))

  pub chain_next : drop i d.chains ≡ get_or d.chains i no_chain ∷ drop (suc i) d.chains
  chain_next = drop-cons d.chains i no_chain (omega (arith, d.number))

-- ---- the two parts of a row
pub first_at : (s row : List ℕ) (k m : ℕ) (cs : List Chain) (n : ℕ) → ChainsAt s row k cs → ChainsAt s (take m row) k (take n cs)
unfolding ChainsAt
first_at s row k m [] n h = subst (ChainsAt s (take m row) k) (sym (take-nil n)) tt
first_at s row k m (c ∷ cs) zero h = tt
first_at s row k m (c ∷ cs) (suc n) h = (
  λ g.
      let low : 2 * k + 1 < m = omega (arith, length-take m row) in
      rw (get_or-take m row (2 * k) 0 (omega arith), get_or-take m row (2 * k + 1) 0 low) (h.0 (omega (arith, length-take m row))),
  first_at s row (suc k) m cs n h.1,
)

pub others_at : (s row : List ℕ) (k : ℕ) (cs : List Chain) (n : ℕ) → ChainsAt s row k cs → ChainsAt s row (k + n) (drop n cs)
unfolding ChainsAt
others_at s row k cs zero h = rw (add-zero k) h
others_at s row k [] (suc n) h = tt
others_at s row k (c ∷ cs) (suc n) h =
    let e : k + suc n ≡ suc k + n = omega arith in
    rw e (others_at s row (suc k) cs n h.1)

pub moved_at : (s row : List ℕ) (n k : ℕ) (cs : List Chain) → ChainsAt s row (n + k) cs → ChainsAt s (drop (2 * n) row) k cs
unfolding ChainsAt
moved_at s row n k [] h = tt
moved_at s row n k (c ∷ cs) h =
    let e : suc (n + k) ≡ n + suc k = omega arith in
    let p : 2 * n + 2 * k ≡ 2 * (n + k) = omega arith in
    let q : 2 * n + (2 * k + 1) ≡ 2 * (n + k) + 1 = omega arith in (
      λ g. rw (get_or-drop (2 * n) row (2 * k) 0, get_or-drop (2 * n) row (2 * k + 1) 0, p, q) (h.0 (omega (arith, length-drop (2 * n) row))),
      moved_at s row n (suc k) cs (rw e at h.1),
    )

module _ {s row : List ℕ} {n : ℕ} (d : ChainsNoted s row n) (half : ℕ) (part : half ≤ n) where
  unfoldable pub front_chained : ChainsNoted s (take (2 * half) row) half
  front_chained = record {
    chains = take half d.chains;
    number = omega (arith, length-take half d.chains, d.number);
    room = omega (arith, length-take (2 * half) row, d.room);
    words = first_at s row 0 (2 * half) d.chains half d.words;
  }

  unfoldable pub back_chained : ChainsNoted s (drop (2 * half) row) (n - half)
  back_chained = record {
    chains = drop half d.chains;
    number = omega (arith, length-drop half d.chains, d.number);
    room = omega (arith, length-drop (2 * half) row, d.room);
    words =
        let e : 0 + half ≡ half + 0 = omega arith in
        moved_at s row half 0 (drop half d.chains) (subst (λ (k : ℕ). ChainsAt s row k (drop half d.chains)) e (others_at s row 0 d.chains half d.words));
  }

-- a chain has a label unless its link is 0
pub linked_labels : (s : List ℕ) (link at : ℕ) (labels : List (List ℕ)) (to : ℕ) → (link ≡ 0 → ⊥) → LabelsAt s link at labels to → length labels ≡ suc (length labels - 1)
unfolding LabelsAt
linked_labels s link at [] to f h = absurd (f h.0)
linked_labels s link at (x ∷ labels) to f h = omega arith

pub no_labels : (s : List ℕ) (link at : ℕ) (labels : List (List ℕ)) (to : ℕ) → link ≡ 0 → LabelsAt s link at labels to → labels ≡ []
unfolding LabelsAt
no_labels s link at [] to e h = refl
no_labels s link at (x ∷ []) to e h = absurd (omega (arith, h.0))
no_labels s link at (x ∷ (y ∷ labels)) to e h = absurd (omega (arith, h.0))
