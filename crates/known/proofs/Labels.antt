-- The labels of a chain: how many there are, where they stand, and adding them to the table.
use Prim.Native.Nat.{ℕ, zero, suc, ◌+◌, ◌-◌, ◌*◌, ◌≤◌, ◌<◌}
use mathlib.Core.Path.{◌≡◌, refl, sym, ◌∙◌}
use mathlib.Core.List.{List, [], ◌∷◌, ◌++◌, append_assoc, append-nil}
use native.Mathlib.Omega.{arith}
use native.Mathlib.Numerals.{add-one}
use lib.ListN.{length, take, get_or}
use lib.Seq.{take-suc, take-length}
use borrow.Author.Tests.{eq-eqb, ne_eqb}
use lib.Dec.{eqb}
use borrow.Table.Steps.{cases}
use Rattle.word.specs.Word.{page_in, link_in, above_in}
use Rattle.page_reader.specs.Place.{link_at}
use Rattle.index.specs.Chain.{Chain, LabelsAt, ChainWords, no_chain}
use Rattle.known.specs.Rows.{Chained, SomeChains, label_count, place_from, label_place, LabelAt, LabelsStand, SomeLabels}
use Rattle.known.specs.Known.{link_or, LinkFits, Linked, digests_in, AddedLink, AddedChain}
use Rattle.known.proofs.LinkTable.{link_there}

-- ---- how many
pub no_labels : (w : ℕ) → link_in w ≡ 0 → 0 ≡ label_count w
unfolding label_count
no_labels w e = rw (eq-eqb (link_in w) 0 e)

pub some_labels : (w : ℕ) → (link_in w ≡ 0 → ⊥) → above_in w + 1 ≡ label_count w
unfolding label_count
some_labels w f = rw (ne_eqb (link_in w) 0 f)

pub count_above : (w : ℕ) → label_count w ≤ above_in w + 1
unfolding label_count
count_above w = cases (eqb (link_in w) 0) (λ e. rw e (omega arith)) (λ e. rw e (omega arith))

pub label_above : (w k : ℕ) → k < label_count w → k ≤ above_in w
label_above w k h = omega (arith, count_above w)

-- ---- where
pub first_place : (w k : ℕ) → k ≡ 0 → link_in w ≡ label_place w k
unfolding place_from
first_place w k e = rw e

pub later_place : (w k : ℕ) → (k ≡ 0 → ⊥) → page_in w - 47 * above_in w + 47 * (k - 1) + 15 ≡ label_place w k
unfolding place_from
later_place w zero f = absurd (f refl)
later_place w (suc k) f = omega arith

label_at : (s : List ℕ) (link at : ℕ) (labels : List (List ℕ)) (to k : ℕ) → LabelsAt s link at labels to → k < length labels
    → LabelAt s (place_from link at k) (get_or labels k [])
unfolding LabelsAt place_from
label_at s link at [] to k h l = absurd (omega arith)
label_at s link at (d ∷ []) to zero h l = record { after = h.0; within = h.1; bytes = h.2 }
label_at s link at (d ∷ []) to (suc k) h l = absurd (omega arith)
label_at s link at (d ∷ (e ∷ more)) to zero h l = record { after = h.0; within = h.1; bytes = h.2 }
label_at s link at (d ∷ (e ∷ more)) to (suc zero) h l =
    let q : at + 47 * 0 + 15 ≡ at + 15 = omega arith in
    rw q (label_at s (at + 15) (at + 47) (e ∷ more) to zero h.4 (omega arith))
label_at s link at (d ∷ (e ∷ more)) to (suc (suc k)) h l =
    let q : at + 47 * suc k + 15 ≡ (at + 47) + 47 * k + 15 = omega arith in
    rw q (label_at s (at + 15) (at + 47) (e ∷ more) to (suc k) h.4 (omega arith))

labels_counted : (s : List ℕ) (w at : ℕ) (labels : List (List ℕ)) (to : ℕ) → LabelsAt s (link_in w) at labels to → above_in w ≡ length labels - 1 → label_count w ≡ length labels
unfolding LabelsAt
labels_counted s w at [] to h a = sym (no_labels w h.0)
labels_counted s w at (d ∷ []) to h a = omega (arith, some_labels w (λ e. omega (arith, h.0)))
labels_counted s w at (d ∷ (e ∷ more)) to h a = omega (arith, some_labels w (λ e. omega (arith, h.0)))

pub chain_labels : (s : List ℕ) (w v : ℕ) (c : Chain) → ChainWords s w v c → LabelsStand s w c.labels
chain_labels s w v c x = record {
  count = labels_counted s w (c.page - 47 * above_in w) c.labels c.page x.labels x.above;
  start = omega (arith, x.page, x.start);
  stand = λ k h. rw x.page (label_at s (link_in w) (c.page - 47 * above_in w) c.labels c.page k x.labels h);
}

module _ (s row : List ℕ) (n : ℕ) (i : ℕ) (h : i < n) where
  pub row_labels : (cs : List Chain) → Chained s row n cs → LabelsStand s (get_or row (2 * i) 0) (get_or cs i no_chain).labels
  row_labels cs x = chain_labels s (get_or row (2 * i) 0) (get_or row (2 * i + 1) 0) (get_or cs i no_chain) (x.words i h)

  pub some_row_labels : SomeChains s row n → SomeLabels s (get_or row (2 * i) 0)
  some_row_labels x = record { labels = (get_or x.list i no_chain).labels; stand = row_labels x.list x.chained }

  pub row_few : SomeChains s row n → label_count (get_or row (2 * i) 0) ≤ 129
  row_few x = omega (arith, (row_labels x.list x.chained).count, x.chained.short i h)

-- ---- a label within s
module _ (s : List ℕ) (w : ℕ) (x : SomeLabels s w) (k : ℕ) (h : k < label_count w) where
  abbrev here : LabelAt s (label_place w k) (get_or x.labels k [])
  here = x.stand.stand k (omega (arith, x.stand.count))

  pub label_within : (at : ℕ) → at ≡ label_place w k → at + 32 ≤ length s
  label_within at e = omega (arith, here.within)

  pub label_fits : (at : ℕ) → at ≡ label_place w k → LinkFits s at
  label_fits at e z = label_within at e

-- ---- adding the labels to the table
-- the first k labels were added
abbrev pub Adding : List ℕ → ℕ → List ℕ → ℕ → List ℕ → ℕ → ℕ → Type 0
Adding s w words₀ count words total k =
    (labels : List (List ℕ)) → LabelsStand s w labels → digests_in s (take total words) ≡ digests_in s (take count words₀) ++ take k labels

pub none_added : (s words : List ℕ) (w count : ℕ) → Adding s w words count words count 0
none_added s words w count labels x = sym (append-nil (digests_in s (take count words)))

pub one_added : (s words₀ words : List ℕ) (w count total k : ℕ) → Adding s w words₀ count words total k → k < label_count w
    → (at : ℕ) → at ≡ label_place w k → (heads' words' : List ℕ) (total' : ℕ) → AddedLink s words at total heads' words' total'
    → Adding s w words₀ count words' total' (k + 1)
one_added s words₀ words w count total k adding h at e heads' words' total' added labels x =
    let l : k < length labels = omega (arith, x.count) in
    let here = x.stand k l in
    let there : link_or (link_at s at) [] ≡ get_or labels k [] ∷ [] = link_there s at (λ z. omega (arith, here.after)) ∙ rw (e, here.bytes) in
    added.digests ∙ rw (adding labels x, there, add-one k, take-suc labels k [] l) (append_assoc (digests_in s (take count words₀)) (take k labels) (get_or labels k [] ∷ []))

pub all_added : (s words₀ heads words : List ℕ) (w count total k : ℕ) → Linked s heads words total → total ≤ count + k → k ≤ label_count w → label_count w ≤ k
    → Adding s w words₀ count words total k → AddedChain s words₀ w count heads words total
all_added s words₀ heads words w count total k l few h g adding = record {
  linked = l;
  few = omega arith;
  digests = λ labels x.
      let e : k ≡ length labels = omega (arith, x.count) in
      adding labels x ∙ rw (e, take-length labels);
}
