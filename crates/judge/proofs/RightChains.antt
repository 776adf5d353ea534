-- The tests of a tree's digests and of its prefix lengths are those of its chains.
use Prim.Native.Nat.{ℕ, ◌+◌}
use mathlib.Core.Path.{◌≡◌, refl, sym, ap, ◌∙◌}
use mathlib.Core.Bool.{Bool, true, false, not, ◌&&◌, and-true, and_assoc, false≢true}
use mathlib.Core.List.{List, [], ◌∷◌, ◌++◌}
use lib.ListN.{length, take, drop, take-append-drop}
use lib.Dec.{eqb}
use Rattle.bytestring.specs.Bytes.{equal}
use Rattle.bytestring.proofs.Tools.{and_inv}
use Rattle.fips180.specs.Hash.{sha256}
use Rattle.key.specs.Key.{shared}
use Rattle.tree.specs.OnePage.{prefixes_of}
use Rattle.tree.specs.Tree.{page, Gap, empty, under, Entries, end, entry, items_under}
use Rattle.tree.specs.Record.{Spelt}
use Rattle.tree.specs.Table.{SpeltTree, link_of, raw_entries, raw_page, bytes_of_page, table_under}
use Rattle.tree.specs.Judge.{prefixes_right, prefixes_right_under, prefixes_right_from, digests_right, digests_right_under, digests_right_from}
use Rattle.index.specs.Slot.{bare, filled, filled_under, filled_from}
use Rattle.index.specs.Chain.{Chain, only_link, labels_on, chain_if, chains, chains_under, chains_from, labels_right, chains_right}
use Rattle.judge.specs.Prefixes.{prefixes_in}

-- ---- tests of chains one after the other
right_append : (cs ds : List Chain) → chains_right (cs ++ ds) ≡ (chains_right cs && chains_right ds)
unfolding chains_right
right_append [] ds = refl
right_append (c ∷ cs) ds = rw (right_append cs ds) (sym (and_assoc (labels_right c.labels c.here) (chains_right cs) (chains_right ds)))

prefixes_append : (cs ds : List Chain) → prefixes_in (cs ++ ds) ≡ (prefixes_in cs && prefixes_in ds)
unfolding prefixes_in
prefixes_append [] ds = refl
prefixes_append (c ∷ cs) ds = rw (prefixes_append cs ds) (sym (and_assoc (prefixes_of [] (raw_page c.here).entries) (prefixes_in cs) (prefixes_in ds)))

pub prefixes_split : (n : ℕ) (cs : List Chain) → prefixes_in cs ≡ (prefixes_in (take n cs) && prefixes_in (drop n cs))
prefixes_split n cs = ap prefixes_in (sym (take-append-drop n cs)) ∙ prefixes_append (take n cs) (drop n cs)

chains_none : chains_right [] ≡ true
unfolding chains_right
chains_none = refl

pub prefixes_none : prefixes_in [] ≡ true
unfolding prefixes_in
prefixes_none = refl

-- ---- digests
-- one label more leads from a page without entries to the page below it
link_bytes_lem : (d : List ℕ) (p : SpeltTree) → bytes_of_page (page (under d p) end) ≡ only_link d
unfolding bytes_of_page raw_page raw_entries link_of
link_bytes_lem d p = refl

labels_more : (labels : List (List ℕ)) (d : List ℕ) (p : SpeltTree)
    → labels_right (labels ++ (d ∷ [])) p ≡ (labels_right labels (page (under d p) end) && equal d (sha256 (bytes_of_page p)))
unfolding labels_right
labels_more [] d p = refl
labels_more (x ∷ []) d p = rw (link_bytes_lem d p)
labels_more (x ∷ (y ∷ more)) d p =
    rw (labels_more (y ∷ more) d p)
    (sym (and_assoc (equal x (sha256 (only_link y))) (labels_right (y ∷ more) (page (under d p) end)) (equal d (sha256 (bytes_of_page p)))))

-- the labels that lead to what is under a gap, and the digests in it
abbrev gap_right : List (List ℕ) → Gap Spelt (List ℕ) → Bool
gap_right labels empty = true
gap_right labels (under d p) = labels_right (labels ++ (d ∷ [])) p && digests_right p

gap_right_lem : (g : Gap Spelt (List ℕ)) → gap_right [] g ≡ digests_right_under g
unfolding labels_right digests_right
gap_right_lem empty = refl
gap_right_lem (under d p) = refl

-- a page, where its gaps are right
page_right : (labels : List (List ℕ)) (g : Gap Spelt (List ℕ)) (es : Entries Spelt (List ℕ)) (c : Chain) (later : List Chain)
    → c.labels ≡ labels → c.here ≡ page g es → (bare (page g es) ≡ true → labels ≡ [])
    → chains_right later ≡ (gap_right (labels_on labels es) g && digests_right_from es)
    → chains_right (chain_if es c later) ≡ (labels_right labels (page g es) && digests_right (page g es))
unfolding chain_if labels_on chains_right labels_right digests_right bare
page_right labels empty end c later p q b h = h ∙ rw (b refl)
page_right labels (under d t) end c later p q b h =
    h ∙ rw (and-true (labels_right (labels ++ (d ∷ [])) t && digests_right t), and-true (equal d (sha256 (bytes_of_page t)) && digests_right t), labels_more labels d t)
    (and_assoc (labels_right labels (page (under d t) end)) (equal d (sha256 (bytes_of_page t))) (digests_right t))
page_right labels g (entry e k es) c later p q b h = rw (p, q, h, gap_right_lem g)

filled_linked : (d : List ℕ) (p : SpeltTree) → filled_under (under d p) ≡ true → (filled p ≡ true) × (bare p ≡ true → ⊥)
unfolding filled
filled_linked d p h =
    let k = and_inv (not (bare p)) h in
    (k.1, λ e. absurd (false≢true (sym (ap not e) ∙ k.0)))

mutual
  unfolding chains digests_right filled

  pub right_chains : (from at : ℕ) (labels : List (List ℕ)) (t : SpeltTree) → filled t ≡ true → (bare t ≡ true → labels ≡ [])
      → chains_right (chains from at labels t) ≡ (labels_right labels t && digests_right t)
  right_chains from at labels (page g es) f b =
      let k = and_inv (filled_under g) f in
      let start : ℕ = at + length (bytes_of_page (page g es)) in
      let cs : List Chain = chains_under from start (labels_on labels es) g in
      let ds : List Chain = chains_from (from + length (items_under g)) (start + length (table_under g)) es in
      page_right labels g es _ (cs ++ ds) refl refl b
      (right_append cs ds
      ∙ rw (right_under from start (labels_on labels es) g k.0, right_from (from + length (items_under g)) (start + length (table_under g)) es k.1))

  right_under : (from at : ℕ) (labels : List (List ℕ)) (g : Gap Spelt (List ℕ)) → filled_under g ≡ true
      → chains_right (chains_under from at labels g) ≡ gap_right labels g
  right_under from at labels empty f = chains_none
  right_under from at labels (under d p) f =
      let k = filled_linked d p f in
      right_chains from at (labels ++ (d ∷ [])) p k.0 (λ e. absurd (k.1 e))

  right_from : (from at : ℕ) (es : Entries Spelt (List ℕ)) → filled_from es ≡ true → chains_right (chains_from from at es) ≡ digests_right_from es
  right_from from at end f = chains_none
  right_from from at (entry e g es) f =
      let k = and_inv (filled_under g) f in
      right_append (chains_under (from + 1) at [] g) (chains_from (from + 1 + length (items_under g)) (at + length (table_under g)) es)
      ∙ rw (
        right_under (from + 1) at [] g k.0,
        gap_right_lem g,
        right_from (from + 1 + length (items_under g)) (at + length (table_under g)) es k.1,
      )

-- ---- prefix lengths
-- two tests change places
swap : (a b c : Bool) → (a && (b && c)) ≡ (b && (a && c))
swap true b c = refl
swap false true c = refl
swap false false c = refl

four : (a b c d : Bool) → (a && (b && (c && d))) ≡ ((a && c) && (b && d))
four true b c d = swap b c d
four false b c d = refl

-- the prefixes of a row of entries are those of its own entries, and those of the pages under their gaps
abbrev prefixes_below : Entries Spelt (List ℕ) → Bool
prefixes_below end = true
prefixes_below (entry e g es) = prefixes_right_under g && prefixes_below es

row_prefixes : (before : List ℕ) (es : Entries Spelt (List ℕ)) → prefixes_right_from before es ≡ (prefixes_of before (raw_entries es) && prefixes_below es)
unfolding prefixes_right prefixes_of raw_entries
row_prefixes before end = refl
row_prefixes before (entry e g es) =
    let k : List ℕ = take e.shares before ++ e.remainder in
    rw (row_prefixes k es)
    (four (eqb e.shares (shared before k)) (prefixes_right_under g) (prefixes_of k (raw_entries es)) (prefixes_below es))

page_prefixes : (g : Gap Spelt (List ℕ)) (es : Entries Spelt (List ℕ)) (c : Chain) (later : List Chain) → c.here ≡ page g es
    → prefixes_in later ≡ (prefixes_right_under g && prefixes_below es) → prefixes_in (chain_if es c later) ≡ prefixes_right (page g es)
unfolding chain_if prefixes_in prefixes_right raw_page
page_prefixes g end c later q h = h
page_prefixes g (entry e k es) c later q h =
    rw (q, h, row_prefixes [] (entry e k es)) (swap (prefixes_of [] (raw_entries (entry e k es))) (prefixes_right_under g) (prefixes_below (entry e k es)))

mutual
  unfolding chains prefixes_right

  pub prefix_chains : (from at : ℕ) (labels : List (List ℕ)) (t : SpeltTree) → prefixes_in (chains from at labels t) ≡ prefixes_right t
  prefix_chains from at labels (page g es) =
      let start : ℕ = at + length (bytes_of_page (page g es)) in
      let cs : List Chain = chains_under from start (labels_on labels es) g in
      let ds : List Chain = chains_from (from + length (items_under g)) (start + length (table_under g)) es in
      page_prefixes g es _ (cs ++ ds) refl
      (prefixes_append cs ds
      ∙ rw (prefix_under from start (labels_on labels es) g, prefix_from (from + length (items_under g)) (start + length (table_under g)) es))

  prefix_under : (from at : ℕ) (labels : List (List ℕ)) (g : Gap Spelt (List ℕ)) → prefixes_in (chains_under from at labels g) ≡ prefixes_right_under g
  prefix_under from at labels empty = prefixes_none
  prefix_under from at labels (under d p) = prefix_chains from at (labels ++ (d ∷ [])) p

  prefix_from : (from at : ℕ) (es : Entries Spelt (List ℕ)) → prefixes_in (chains_from from at es) ≡ prefixes_below es
  prefix_from from at end = prefixes_none
  prefix_from from at (entry e g es) =
      prefixes_append (chains_under (from + 1) at [] g) (chains_from (from + 1 + length (items_under g)) (at + length (table_under g)) es)
      ∙ rw (prefix_under (from + 1) at [] g, prefix_from (from + 1 + length (items_under g)) (at + length (table_under g)) es)
