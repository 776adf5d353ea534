-- The root of an accepted register has entries, or the register is that one page.
use Prim.Native.Nat.{ℕ, zero, suc, ◌≤◌, ◌<◌}
use mathlib.Core.Path.{◌≡◌, refl, sym, ap, ◌∙◌}
use mathlib.Core.List.{List, [], ◌∷◌, append-nil, map, cons≢nil}
use native.Mathlib.Omega.{arith}
use native.Mathlib.Nat.{sub-zero}
use lib.Dec.{eqb}
use lib.ListN.{length, take, get_or}
use lib.Seq.{take_all}
use borrow.Author.Tests.{eqb-false}
use borrow.Table.Steps.{cases}
use Rattle.bytestring.specs.Bytes.{Bytes}
use Rattle.word.specs.Word.{end_in}
use Rattle.tree.specs.Tree.{page, Gap, empty, end, entry, Placed, top_layer, part, entries_of, page_of, gap_of, build, tree_of}
use Rattle.tree.specs.Record.{Record, Spelt, spelt, spelt_from, records, placed}
use Rattle.tree.specs.Table.{SpeltTree, bytes_of_page, table, digest_of, tree_of_set, table_of}
use Rattle.tree.proofs.Lists.{map_none}
use Rattle.tree.proofs.Laws.{Accepted, accepted_table, one_tree}
use Rattle.index.specs.Chain.{chain_if, chains, no_chain}
use Rattle.index.specs.Accepted.{ChainRow}
use Rattle.digests.specs.Digests.{RootEnd}
use Rattle.digests.proofs.ChainReads.{row_noted, chain_words}

-- ---- a root without entries is that of the empty set
-- some item of a row stands at its highest layer
none_highest : (n : ℕ) (xs : List (Placed Record)) → top_layer xs ≡ n → (part n xs).rest ≡ [] → xs ≡ []
unfolding top_layer part
none_highest n [] e h = refl
none_highest n (x ∷ xs) e h =
    cases (eqb x.layer n)
    (λ q. absurd (cons≢nil (rw q at h)))
    (λ q.
    let other = eqb-false x.layer n q in
    let none : xs ≡ [] = none_highest n xs (omega arith) (rw q at h) in
    absurd (omega (arith, other, ap top_layer none)))

no_rest : (gap : List (Placed Record) → Gap Record (List ℕ)) (rs : List (Record × List (Placed Record))) → spelt_from [] (entries_of gap rs) ≡ end → rs ≡ []
unfolding entries_of spelt_from
no_rest gap [] h = refl
no_rest gap (r ∷ rs) h = let z : ◌≡◌ {A = ℕ} 0 1 = cc in absurd (omega arith)

no_part : (n : ℕ) (xs : List (Placed Record)) (g : Gap Spelt (List ℕ)) → page g end ≡ spelt (build digest_of n xs) → (part n xs).rest ≡ []
unfolding build page_of spelt
no_part zero xs g h = no_rest (λ _. empty) (part zero xs).rest (cc)
no_part (suc n) xs g h = no_rest (gap_of digest_of (build digest_of n)) (part (suc n) xs).rest (cc)

no_record : (rs : List Record) (g : Gap Spelt (List ℕ)) → page g end ≡ spelt (tree_of_set rs) → rs ≡ []
unfolding tree_of_set tree_of
no_record rs g h = map_none placed rs (none_highest (top_layer (map placed rs)) (map placed rs) refl (no_part (top_layer (map placed rs)) (map placed rs) g h))

only_page : (g : Gap Spelt (List ℕ)) (rs : List Record) → page g end ≡ spelt (tree_of_set rs) → g ≡ empty
unfolding tree_of_set tree_of build page_of top_layer spelt
only_page g rs h =
    let e : page g end ≡ spelt (tree_of_set []) = h ∙ ap (λ (l : List Record). spelt (tree_of_set l)) (no_record rs g h) in
    cc

-- ---- the root's chain
abbrev Spells : SpeltTree → Type 0
Spells t = t ≡ spelt (tree_of_set (records t))

root_first : (t : SpeltTree) → Spells t → 0 < length (chains 0 0 [] t)
    → ((get_or (chains 0 0 [] t) 0 no_chain).page ≡ 0) × ((get_or (chains 0 0 [] t) 0 no_chain).here ≡ t)
unfolding chains chain_if
root_first (page g end) w h = let none = rw (only_page g _ w) at h in absurd (omega arith)
root_first (page g (entry e i es)) w h = (refl, refl)

root_alone : (t : SpeltTree) → Spells t → length (chains 0 0 [] t) ≡ 0 → table t ≡ bytes_of_page t
unfolding chains chain_if table
root_alone (page g end) w h = rw (only_page g _ w) (append-nil (bytes_of_page (page empty end)))
root_alone (page g (entry e i es)) w h = absurd (omega arith)

module _ {s row : List ℕ} {n : ℕ} (w : ChainRow s row n) (bytes : Bytes s) where
  abbrev facts : Accepted s w.tree
  facts = accepted_table s bytes w.tree w.judged

  root_ends : (to : ℕ) → to ≤ length s → take to s ≡ bytes_of_page w.tree → RootEnd s to
  root_ends to h e = record {
    within = h;
    bytes = λ t j. rw (← one_tree s w.judged j) e;
  }

  pub none_ends : n ≡ 0 → RootEnd s (length s)
  unfolding table_of
  none_ends h =
      root_ends (length s) (omega arith)
      (take_all (length s) s (omega arith) ∙ facts.written ∙ ap table (sym facts.spells) ∙ root_alone w.tree facts.spells (sym w.size ∙ h))

  pub first_ends : 0 < n → {to : ℕ} → to ≡ end_in (get_or row 1 0) → RootEnd s to
  first_ends h {to} e =
      let x = chain_words (row_noted w) 0 h in
      let r = root_first w.tree facts.spells (omega (arith, w.size)) in
      root_ends to (omega (arith, x.within)) (rw (r.0, r.1, ← e, sub-zero) at x.bytes)
