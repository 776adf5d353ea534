-- The labels of one chain.
use Prim.Native.Nat.{ℕ, suc, ◌+◌, ◌-◌, ◌*◌, ◌≤◌, ◌<◌}
use mathlib.Core.Path.{◌≡◌, refl, sym, ap, subst, ◌∙◌}
use mathlib.Core.Bool.{Bool, true, false, not}
use mathlib.Core.List.{List, [], ◌∷◌}
use native.Mathlib.Omega.{arith}
use lib.ListN.{length, take, drop}
use borrow.Author.Tests.{not-true, not-false}
use Rattle.bytestring.specs.Bytes.{equal}
use Rattle.fips180.specs.Hash.{sha256}
use Rattle.word.specs.Word.{page_in, link_in, above_in, end_in}
use Rattle.tree.specs.Table.{SpeltTree, bytes_of_page}
use Rattle.index.specs.Chain.{labels_right, LabelsAt}
use Rattle.digests.specs.Digests.{LabelsSay, ChainSays}
use Rattle.digests.proofs.ChainReads.{linked_labels, no_labels}

-- Of a chain's labels those from `label` on are left, for k pages without entries and the last page.
pub record LabelsLeft (s : List ℕ) (at : ℕ) (labels : List (List ℕ)) (label k : ℕ) : Type 0 where
  pub left : List (List ℕ)
  pub number : length left ≡ suc k
  pub there : LabelsAt s label (at - 47 * k) left at
  pub same : (t : SpeltTree) → labels_right labels t ≡ labels_right left t

unfoldable pub SoFar : List ℕ → ℕ → ℕ → ℕ → ℕ → ℕ → Type 0
SoFar s link above at label k = (labels : List (List ℕ)) → length labels ≡ suc above → LabelsAt s link (at - 47 * above) labels at → LabelsLeft s at labels label k

pub labels_start : (s : List ℕ) (link above at k : ℕ) → k ≡ above → SoFar s link above at link k
unfolding SoFar
labels_start s link above at k e labels n w = rw e (record { left = labels; number = n; there = w; same = λ t. refl })

module _ (s : List ℕ) (at label k : ℕ) (labels : List (List ℕ)) (inside : 47 * k ≤ at) (r : Bool)
    (tested : r ≡ equal (take 32 (drop label s)) (sha256 (take (at - 47 * k + 47 - (at - 47 * k)) (drop (at - 47 * k) s)))) where
  tested_at : (n : ℕ) → n ≡ 47 → r ≡ equal (take 32 (drop label s)) (sha256 (take n (drop (at - 47 * k) s)))
  tested_at n e =
      let m : at - 47 * k + 47 - (at - 47 * k) ≡ n = omega arith in
      subst (λ (x : ℕ). r ≡ equal (take 32 (drop label s)) (sha256 (take x (drop (at - 47 * k) s)))) m tested

  -- one label wrong
  label_wrong : (left : List (List ℕ)) → length left ≡ suc k → 0 < k → LabelsAt s label (at - 47 * k) left at → not r ≡ true → (t : SpeltTree) → labels_right left t ≡ false
  unfolding LabelsAt labels_right
  label_wrong [] n h w f t = absurd (omega arith)
  label_wrong (d ∷ []) n h w f t = absurd (omega arith)
  label_wrong (d ∷ (e ∷ more)) n h w f t = rw (← w.2, ← w.3, ← tested_at 47 refl, not-true r f)

  -- one label right
  label_right : (left : List (List ℕ)) → length left ≡ suc k → 0 < k → LabelsAt s label (at - 47 * k) left at → not r ≡ false
      → ((t : SpeltTree) → labels_right labels t ≡ labels_right left t) → LabelsLeft s at labels (at - 47 * k + 15) (k - 1)
  unfolding LabelsAt labels_right
  label_right [] n h w f q = absurd (omega arith)
  label_right (d ∷ []) n h w f q = absurd (omega arith)
  label_right (d ∷ (e ∷ more)) n h w f q =
      let place : at - 47 * k + 47 ≡ at - 47 * (k - 1) = omega arith in
      record {
        left = e ∷ more;
        number = omega arith;
        there = subst (λ (x : ℕ). LabelsAt s (at - 47 * k + 15) x (e ∷ more) at) place w.4;
        same = λ t. q t ∙ rw (← w.2, ← w.3, ← tested_at 47 refl, not-false r f);
      }

module _ (s : List ℕ) (link above at label k : ℕ) (u : SoFar s link above at label k) where
  module _ (h : 0 < k) (inside : 47 * k ≤ at) (r : Bool)
      (tested : r ≡ equal (take 32 (drop label s)) (sha256 (take (at - 47 * k + 47 - (at - 47 * k)) (drop (at - 47 * k) s)))) where
    pub labels_wrong : not r ≡ true → (to : ℕ) → LabelsSay s link above at to false
    unfolding SoFar LabelsSay
    labels_wrong f to labels t n w b =
        let x = u labels n w in
        sym (x.same t ∙ label_wrong s at label k labels inside r tested x.left x.number h x.there f t)

    pub labels_more : not r ≡ false → (k' : ℕ) → k' ≡ k - 1 → SoFar s link above at (at - 47 * k + 15) k'
    unfolding SoFar
    labels_more f k' e labels n w =
        let x = u labels n w in
        rw e (label_right s at label k labels inside r tested x.left x.number h x.there f x.same)

  last_label_lem : k ≤ 0 → (to : ℕ) (t : SpeltTree) → take (to - at) (drop at s) ≡ bytes_of_page t → (left : List (List ℕ)) → length left ≡ suc k
      → LabelsAt s label (at - 47 * k) left at → labels_right left t ≡ equal (take 32 (drop label s)) (sha256 (take (to - at) (drop at s)))
  unfolding LabelsAt labels_right
  last_label_lem h to t b [] m v = absurd (omega arith)
  last_label_lem h to t b (d ∷ []) m v = rw (v.2, b)
  last_label_lem h to t b (d ∷ (e ∷ more)) m v = absurd (omega arith)

  pub labels_end : k ≤ 0 → (to : ℕ) (r : Bool) → r ≡ equal (take 32 (drop label s)) (sha256 (take (to - at) (drop at s))) → LabelsSay s link above at to r
  unfolding SoFar LabelsSay
  labels_end h to r tested labels t n w b = let x = u labels n w in sym (x.same t ∙ last_label_lem h to t b x.left x.number x.there ∙ sym tested)

-- ---- a chain with labels or without
pub chain_root : (s : List ℕ) (w v link : ℕ) → link ≡ link_in w → link ≡ 0 → ChainSays s w v true
unfolding ChainSays labels_right
chain_root s w v link a e labels t n x b = rw (no_labels s (link_in w) (page_in w - 47 * above_in w) labels (page_in w) (sym a ∙ e) x)

pub chain_linked : (s : List ℕ) (w v link above at to : ℕ) → link ≡ link_in w → above ≡ above_in w → at ≡ page_in w → to ≡ end_in v
    → (link ≡ 0 → ⊥) → (r : Bool) → LabelsSay s link above at to r → ChainSays s w v r
unfolding ChainSays LabelsSay
chain_linked s w v link above at to el ea ep ee f r says labels t n x b =
    let y : LabelsAt s link (at - 47 * above) labels at = rw (el, ea, ep) x in
    says labels t (linked_labels s link (at - 47 * above) labels at f y ∙ ap suc (sym n ∙ sym ea)) y (rw (ee, ep) b)
