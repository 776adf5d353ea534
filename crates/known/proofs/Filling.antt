-- The table is cleared and filled with the labels of chains, and a digest is looked for in it.
use Prim.Native.Nat.{ℕ, zero, suc, ◌+◌, ◌-◌, ◌*◌, ◌^◌, ◌≤◌, ◌<◌}
use mathlib.Core.Path.{◌≡◌, refl, sym, ap, subst, ◌∙◌}
use mathlib.Core.Bool.{Bool, true, false}
use mathlib.Core.List.{List, [], ◌∷◌, ◌++◌, append_assoc, append-nil}
use native.Mathlib.Omega.{arith}
use native.Mathlib.Numerals.{add-one}
use lib.ListN.{length, take, drop, get_or, set, length-replicate, get_or-replicate}
use lib.Seq.{get_or-set_same, get_or-set_other, ext_get_or, take-suc, take_all}
use lib.Dec.{eqb}
use borrow.Author.Tests.{eqb-true, eqb-false}
use borrow.Table.Steps.{cases}
use Rattle.bytestring.specs.Bytes.{zeros, equal}
use Rattle.index.specs.Chain.{Chain, no_chain}
use Rattle.known.specs.Rows.{Chained, SomeChains, labels_of, label_count}
use Rattle.known.specs.Known.{is_among, Linked, digests_in, InTable, AddedChain, Filled, IsKnown}
use Rattle.known.proofs.Labels.{row_labels, row_few}

-- ---- an empty table
pub cleared_none : (heads : List ℕ) (j : ℕ) → j < 0 → get_or heads j 0 ≡ 0
cleared_none heads j h = absurd (omega arith)

pub cleared_more : (heads : List ℕ) (i : ℕ) → i < length heads → ((j : ℕ) → j < i → get_or heads j 0 ≡ 0) → (j : ℕ) → j < i + 1 → get_or (set heads i 0) j 0 ≡ 0
cleared_more heads i l f j h =
    cases (eqb j i)
    (λ e. rw (eqb-true j i e) (get_or-set_same heads i 0 0 l))
    (λ e. get_or-set_other heads i j 0 0 (eqb-false j i e) ∙ f j (omega (arith, eqb-false j i e)))

pub cleared_all : (n : ℕ) (heads : List ℕ) (i : ℕ) → length heads ≡ n → n ≤ i → ((j : ℕ) → j < i → get_or heads j 0 ≡ 0) → heads ≡ zeros n
cleared_all n heads i e h f =
    ext_get_or 0 heads (zeros n) (e ∙ sym (length-replicate n 0)) (λ j k. f j (omega arith) ∙ sym (get_or-replicate n j 0 0 (omega arith)))

zero_head_lem : (n b : ℕ) → get_or (zeros n) b 0 ≡ 0
zero_head_lem zero b = refl
zero_head_lem (suc n) zero = refl
zero_head_lem (suc n) (suc b) = zero_head_lem n b

pub none_linked : (s heads words : List ℕ) (n : ℕ) → heads ≡ zeros n → n ≡ 4096 → length words ≡ 4096 → length s < 2 ^ 32 → Linked s heads words 0
none_linked s heads words n e z h k = record {
  room = omega arith;
  buckets = ap length e ∙ length-replicate {A = ℕ} n 0 ∙ z;
  places = k;
  numbers = omega arith;
  last = λ b. omega (arith, ap (λ (l : List ℕ). get_or l b 0) e, zero_head_lem n b);
  falls = λ j z. absurd (omega arith);
  within = λ j z. absurd (omega arith);
  found = λ j z. absurd (omega arith);
}

-- ---- chain by chain
pub labels_append : (xs ys : List Chain) → labels_of (xs ++ ys) ≡ labels_of xs ++ labels_of ys
unfolding labels_of
labels_append [] ys = refl
labels_append (c ∷ xs) ys = rw (labels_append xs ys) (simp append_assoc)

-- the table has the labels of the chains from the start-th to before the i-th
abbrev pub Filling : List ℕ → List ℕ → ℕ → ℕ → List ℕ → ℕ → ℕ → Type 0
Filling s row n start words count i =
    (cs : List Chain) → Chained s row n cs → labels_of (take start cs) ++ digests_in s (take count words) ≡ labels_of (take i cs)

pub none_filled : (s row : List ℕ) (n start : ℕ) (words : List ℕ) → Filling s row n start words 0 start
none_filled s row n start words cs x = append-nil (labels_of (take start cs))

pub one_filled : (s row : List ℕ) (n start : ℕ) (words : List ℕ) (count i : ℕ) → Filling s row n start words count i → i < n
    → (heads' words' : List ℕ) (count' : ℕ) → AddedChain s words (get_or row (2 * i) 0) count heads' words' count' → Filling s row n start words' count' (i + 1)
unfolding labels_of
one_filled s row n start words count i so_far h heads' words' count' added cs x =
    let c : Chain = get_or cs i no_chain in
    let l : i < length cs = omega (arith, x.size) in
    let more : labels_of (take (suc i) cs) ≡ labels_of (take i cs) ++ c.labels =
    ap labels_of (take-suc cs i no_chain l) ∙ labels_append (take i cs) (c ∷ []) ∙ rw append-nil in
    rw (added.digests c.labels (row_labels s row n i h cs x), add-one i, more, ← so_far cs x)
    (sym (append_assoc (labels_of (take start cs)) (digests_in s (take count words)) c.labels))

module _ (s row : List ℕ) (n start : ℕ) (heads words : List ℕ) (count i : ℕ) (x : SomeChains s row n) (l : Linked s heads words count)
    (ahead : start ≤ i) (size : length words ≡ 4096) (few : count ≤ 129 * (i - start)) (so_far : Filling s row n start words count i) where
  pub filled_to : i < n → length words - count < label_count (get_or row (2 * i) 0) → Filled s row n start heads words i
  filled_to h k = record {
    ahead = ahead;
    most = omega arith;
    onward = λ z. omega (arith, row_few s row n i h x);
    count = count;
    linked = l;
    digests = so_far;
  }

  pub filled_all : i ≡ n → Filled s row n start heads words n
  filled_all e =
      subst (Filled s row n start heads words) e (record { ahead = ahead; most = omega arith; onward = λ z. omega arith; count = count; linked = l; digests = so_far })

-- ---- a digest
module _ (s heads words root digest : List ℕ) (size : length root ≡ 32) (a : Bool) (ea : a ≡ equal (take 32 (drop 0 root)) digest) where
  root_test : equal root digest ≡ a
  root_test = sym (ea ∙ rw (take_all 32 root (omega arith)))

  pub known_root : a ≡ true → IsKnown s heads words root digest true
  unfolding is_among
  known_root h count l = rw (root_test, h)

  pub known_link : a ≡ false → (b : Bool) → InTable s heads words digest b → IsKnown s heads words root digest b
  unfolding is_among
  known_link h b eb count l = rw (root_test, h) (eb count l)
