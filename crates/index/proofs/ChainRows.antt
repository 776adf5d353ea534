-- The row of chains, as the walk fills it.
use Rattle.page_reader.specs.declared.Stop.{Stop}
use Rattle.index.specs.declared.walk.WalkState.{WalkState}
use Rattle.std.specs.Prelude.{Result, Ok, Err}
use Prim.Native.Nat.{ℕ, suc, ◌+◌, ◌-◌, ◌*◌, ◌≤◌, ◌<◌, zero}
use mathlib.Core.Path.{◌≡◌, sym, subst}
use mathlib.Core.List.{List, [], ◌∷◌, ◌++◌}
use native.Mathlib.Omega.{arith}
use native.Mathlib.Nat.{add-zero}
use lib.ListN.{length, take, drop, get_or, length-append}
use Rattle.tree.specs.Tree.{page, Gap, empty, under, Entries, end, entry, items, items_under, items_from}
use Rattle.tree.specs.Record.{Spelt}
use Rattle.tree.specs.Table.{SpeltTree, bytes_of_page, table_under}
use Rattle.index.specs.Walk.{ChainNoted}
use Rattle.index.specs.Chain.{Chain, labels_on, chain_if, chains, chains_under, chains_from, only_link, LabelsAt, ChainsAt, no_chain, ChainWords}

-- ---- rows
pub row_append : (s row : List ℕ) (k : ℕ) (cs ds : List Chain) → ChainsAt s row k cs → ChainsAt s row (k + length cs) ds → ChainsAt s row k (cs ++ ds)
unfolding ChainsAt
row_append s row k [] ds h g = simp add-zero at g
row_append s row k (c ∷ cs) ds h g =
    let e : k + suc (length cs) ≡ suc k + length cs = omega arith in
    (h.0, row_append s row (suc k) cs ds h.1 (subst (λ (n : ℕ). ChainsAt s row n ds) e g))

-- the words of these chains stayed as they were
pub row_kept : (s row row' : List ℕ) (k : ℕ) (cs : List Chain) → length row' ≡ length row
    → ((i : ℕ) → 2 * k ≤ i → i < 2 * (k + length cs) → get_or row' i 0 ≡ get_or row i 0) → ChainsAt s row k cs → ChainsAt s row' k cs
unfolding ChainsAt
row_kept s row row' k [] e f h = tt
row_kept s row row' k (c ∷ cs) e f h = (
  λ g. rw (f (2 * k) (omega arith) (omega arith), f (2 * k + 1) (omega arith) (omega arith)) (h.0 (rw e at g)),
  row_kept s row row' (suc k) cs e (λ i p q. f i (omega arith) (omega arith)) h.1,
)

-- ---- a chain is left
-- it is noted when the walk has gone through all that is below it
abbrev pub Left : List ℕ → ℕ → ℕ → ℕ → ℕ → ℕ → ℕ → Result WalkState Stop → List ℕ → Type 0
Left row k at link above to from (Ok st) row' = ChainNoted row k at link above to from (st.count - from) (st.chains - (k + 1)) row'
Left row k at link above to from (Err stop) row' = row' ≡ row

-- ---- labels
pub labels_end : (s : List ℕ) (link at : ℕ) (labels : List (List ℕ)) (to : ℕ) → LabelsAt s link at labels to → at + 47 * (length labels - 1) ≡ to
unfolding LabelsAt
labels_end s link at [] to h = omega (arith, h)
labels_end s link at (d ∷ []) to h = omega (arith, h)
labels_end s link at (d ∷ (e ∷ more)) to h = omega (arith, labels_end s (at + 15) (at + 47) (e ∷ more) to h.4)

pub labels_linked : (s : List ℕ) (link at : ℕ) (d : List ℕ) (more : List (List ℕ)) (to : ℕ) → LabelsAt s link at (d ∷ more) to → 0 < link
unfolding LabelsAt
labels_linked s link at d [] to h = h.0
labels_linked s link at d (e ∷ more) to h = h.0

-- one page without entries more
pub labels_more : (s : List ℕ) (link at : ℕ) (d : List ℕ) (more : List (List ℕ)) (to : ℕ) (next : List ℕ) → LabelsAt s link at (d ∷ more) to
    → to + 47 ≤ length s → take 47 (drop to s) ≡ only_link next → take 32 (drop (to + 15) s) ≡ next → LabelsAt s link at (d ∷ (more ++ (next ∷ []))) (to + 47)
unfolding LabelsAt
labels_more s link at d [] to next h f p q =
    (h.0, h.1, h.2, rw h.3 p, (omega arith, omega (arith, h.3), rw h.3 q, omega (arith, h.3)))
labels_more s link at d (e ∷ more) to next h f p q =
    (h.0, h.1, h.2, h.3, labels_more s (at + 15) (at + 47) e more to next h.4 f p q)

-- ---- each chain has a record
abbrev Few : Entries Spelt (List ℕ) → ℕ → ℕ → Type 0
Few end cs xs = cs ≤ xs
Few (entry e g es) cs xs = 1 + cs ≤ xs

few_if : (es : Entries Spelt (List ℕ)) (c : Chain) (later : List Chain) (n m : ℕ) → Few es n m → length later ≤ n → length (chain_if es c later) ≤ m
unfolding chain_if
few_if end c later n m h f = omega arith
few_if (entry e g es) c later n m h f = omega arith

few_both : (es : Entries Spelt (List ℕ)) (a b m n : ℕ) → a ≤ m → Few es b n → Few es (a + b) (m + n)
few_both end a b m n h f = omega arith
few_both (entry e g es) a b m n h f = omega arith

few_at : (es : Entries Spelt (List ℕ)) (n m k : ℕ) → Few es n m → m ≡ k → Few es n k
few_at es n m k h e = rw (← e) h

few_least : (es : Entries Spelt (List ℕ)) (n m : ℕ) → Few es n m → n ≤ m
few_least end n m h = h
few_least (entry e g es) n m h = omega arith

mutual
  unfolding chains items

  pub few_chains_lem : (from at : ℕ) (labels : List (List ℕ)) (t : SpeltTree) → length (chains from at labels t) ≤ length (items t)
  few_chains_lem from at labels (page g es) =
      let start : ℕ = at + length (bytes_of_page (page g es)) in
      let under-gap : List Chain = chains_under from start (labels_on labels es) g in
      let behind : List Chain = chains_from (from + length (items_under g)) (start + length (table_under g)) es in
      few_if es _ (under-gap ++ behind) (length under-gap + length behind) _
      (few_at es _ _ _ (few_both es _ _ _ _ (few_under from start (labels_on labels es) g) (few_from (from + length (items_under g)) (start + length (table_under g)) es))
      (sym (length-append (items_under g) (items_from es))))
      (omega (arith, length-append under-gap behind))

  few_under : (from at : ℕ) (labels : List (List ℕ)) (g : Gap Spelt (List ℕ)) → length (chains_under from at labels g) ≤ length (items_under g)
  few_under from at labels empty = omega arith
  few_under from at labels (under d p) = few_chains_lem from at (labels ++ (d ∷ [])) p

  few_from : (from at : ℕ) (es : Entries Spelt (List ℕ)) → Few es (length (chains_from from at es)) (length (items_from es))
  few_from from at end = omega arith
  few_from from at (entry e g es) =
      omega (
        arith,
        few_under (from + 1) at [] g,
        few_least es _ _ (few_from (from + 1 + length (items_under g)) (at + length (table_under g)) es),
        length-append (chains_under (from + 1) at [] g) (chains_from (from + 1 + length (items_under g)) (at + length (table_under g)) es),
        length-append (items_under g) (items_from es),
      )

-- ---- a chain of a row, by its number
pub words_at : (s row : List ℕ) (k : ℕ) (cs : List Chain) → ChainsAt s row k cs → (i : ℕ) → i < length cs → 2 * (k + i) + 1 < length row
    → ChainWords s (get_or row (2 * (k + i)) 0) (get_or row (2 * (k + i) + 1) 0) (get_or cs i no_chain)
unfolding ChainsAt
words_at s row k [] w i h g = absurd (omega arith)
words_at s row k (c ∷ cs) w zero h g = let e : k + 0 ≡ k = add-zero k in rw e (w.0 (omega arith))
words_at s row k (c ∷ cs) w (suc i) h g =
    let e : k + suc i ≡ suc k + i = omega arith in
    rw e (words_at s row (suc k) cs w.1 i (omega arith) (omega arith))
