-- In the row of an accepted register's chains the label that leads to a page with entries is its digest.
use Prim.Native.Nat.{ℕ, zero, suc, ◌+◌, ◌-◌, ◌≤◌, ◌<◌}
use mathlib.Core.Path.{◌≡◌, refl, sym, ap, subst, ◌∙◌}
use mathlib.Core.Bool.{true}
use mathlib.Core.List.{List, [], ◌∷◌}
use native.Mathlib.Omega.{arith}
use lib.Dec.{eqb}
use lib.ListN.{length, take, drop, get_or}
use borrow.Author.Tests.{eqb-true, eqb-false}
use borrow.Table.Steps.{cases}
use Rattle.bytestring.proofs.Equal.{equal_true}
use Rattle.bytestring.specs.Bytes.{equal}
use Rattle.bytestring.proofs.Tools.{and_inv}
use Rattle.fips180.specs.Hash.{sha256}
use Rattle.tree.specs.Table.{SpeltTree, bytes_of_page}
use Rattle.word.specs.Word.{link_in, above_in}
use Rattle.index.specs.Chain.{Chain, only_link, chains, labels_right, chains_right, LabelsAt, ChainWords, last_label, Labelled, no_chain}
use Rattle.index.specs.Accepted.{ChainRow}
use Rattle.digests.proofs.ChainReads.{row_noted, chain_words, linked_labels}

-- ---- the last label
first_right : (labels : List (List ℕ)) (t : SpeltTree) (s : List ℕ) (link at to : ℕ) → length labels ≡ 1 → LabelsAt s link at labels to → labels_right labels t ≡ true
    → (link + 32 ≤ length s) × (take 32 (drop link s) ≡ sha256 (bytes_of_page t))
unfolding LabelsAt labels_right
first_right [] t s link at to n w r = absurd (omega arith)
first_right (d ∷ []) t s link at to n w r = (w.1, w.2 ∙ equal_true d (sha256 (bytes_of_page t)) r)
first_right (d ∷ (e ∷ more)) t s link at to n w r = absurd (omega arith)

last_right : (labels : List (List ℕ)) (t : SpeltTree) (s : List ℕ) (link at to : ℕ) → 1 < length labels → LabelsAt s link at labels to → labels_right labels t ≡ true
    → (to - 32 + 32 ≤ length s) × (take 32 (drop (to - 32) s) ≡ sha256 (bytes_of_page t))
unfolding LabelsAt labels_right
last_right [] t s link at to n w r = absurd (omega arith)
last_right (d ∷ []) t s link at to n w r = absurd (omega arith)
last_right (d ∷ (e ∷ [])) t s link at to n w r =
    let v = w.4 in
    let place : at + 15 ≡ to - 32 = omega (arith, v.3) in
    let k = first_right (e ∷ []) t s (at + 15) (at + 47) to refl v (and_inv (equal d (sha256 (only_link e))) r).1 in
    (omega (arith, k.0), subst (λ (p : ℕ). take 32 (drop p s) ≡ sha256 (bytes_of_page t)) place k.1)
last_right (d ∷ (e ∷ (f ∷ more))) t s link at to n w r =
    last_right (e ∷ (f ∷ more)) t s (at + 15) (at + 47) to (omega arith) w.4 (and_inv (equal d (sha256 (only_link e))) r).1

-- ---- each chain of a row
right_at : (cs : List Chain) (i : ℕ) → i < length cs → chains_right cs ≡ true → labels_right (get_or cs i no_chain).labels (get_or cs i no_chain).here ≡ true
unfolding chains_right
right_at [] i h r = absurd (omega arith)
right_at (c ∷ cs) zero h r = (and_inv (labels_right c.labels c.here) r).0
right_at (c ∷ cs) (suc i) h r = right_at cs i (omega arith) (and_inv (labels_right c.labels c.here) r).1

module _ {s : List ℕ} {w v : ℕ} {c : Chain} (words : ChainWords s w v c) (right : labels_right c.labels c.here ≡ true) (linked : 0 < link_in w) where
  number : length c.labels ≡ suc (above_in w)
  number = omega (arith, linked_labels s (link_in w) _ c.labels c.page (λ e. omega arith) words.labels, words.above)

  label_here : (last_label w + 32 ≤ length s) × (take 32 (drop (last_label w) s) ≡ sha256 (bytes_of_page c.here))
  unfolding last_label
  label_here =
      cases (eqb (above_in w) 0)
      (λ q. rw q (first_right c.labels c.here s (link_in w) _ c.page (omega (arith, number, eqb-true (above_in w) 0 q)) words.labels right))
      (λ q. rw (q, words.page) (last_right c.labels c.here s (link_in w) _ c.page (omega (arith, number, eqb-false (above_in w) 0 q)) words.labels right))

pub row_labelled : {s row : List ℕ} {n : ℕ} → ChainRow s row n → Labelled s row n
row_labelled {s} {row} {n} r = record {
  room = r.room;
  pages = λ i h.
      let w = chain_words (row_noted r) i h in
      let right = right_at (chains 0 0 [] r.tree) i (omega (arith, r.size)) r.right in
      record {
        ahead = omega (arith, w.page, w.ends);
        within = w.within;
        fits = λ k. (label_here w right k).0;
        digest = λ k. (label_here w right k).1 ∙ ap sha256 (rw w.page (sym w.bytes));
      };
}

-- no chains at all
pub none_labelled : (s row : List ℕ) → Labelled s row 0
none_labelled s row = record { room = omega arith; pages = λ i h. absurd (omega arith) }
