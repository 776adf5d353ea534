-- The row of a register that is accepted: its words are those of the chains of its tree.
use Prim.Native.Nat.{ℕ, zero, suc, ◌+◌, ◌*◌, ◌≤◌}
use mathlib.Core.Path.{◌≡◌, sym, subst}
use mathlib.Core.Bool.{true}
use mathlib.Core.List.{List, [], ◌∷◌, ◌++◌, append-nil}
use native.Mathlib.Omega.{arith}
use lib.ListN.{length, get_or, length-append}
use Rattle.index.proofs.ChainRows.{words_at}
use Rattle.limits.specs.Limits.{deepest}
use Rattle.bytestring.proofs.Tools.{All, all_append, all_weaken, all_at}
use Rattle.bytestring.specs.Bytes.{Bytes}
use Rattle.tree.specs.Tree.{page, Gap, empty, under, Entries, end, entry, items_under}
use Rattle.tree.specs.Record.{Spelt, records}
use Rattle.tree.specs.Table.{SpeltTree, bytes_of_page, table_under, tree_of_set, digest_of}
use Rattle.tree.specs.Judge.{right_tree, accepted, judge}
use Rattle.tree.proofs.Laws.{right_local, tree_right}
use Rattle.tree.proofs.Tables.{AllUnder, AllFrom, Good}
use Rattle.tree.proofs.Accept.{accepted_table}
use Rattle.index.specs.Accepted.{ChainRow}
use Rattle.index.specs.Slot.{filled}
use Rattle.index.specs.Chain.{Chain, chains, chains_under, chains_from, labels_on, chain_if, ChainWords, no_chain}
use Rattle.index.proofs.BarePages.{holds_filled}
use Rattle.known.specs.Rows.{Nested, Chained}

-- ---- a chain has no more labels than the tree is deep
abbrev Short : ℕ → Chain → Type 0
Short n c = length c.labels ≤ n

shorter : (m n : ℕ) → m ≤ n → (cs : List Chain) → All (Short m) cs → All (Short n) cs
shorter m n h = all_weaken (Short m) (Short n) (λ c k. omega arith)

short_page : (from at : ℕ) (labels : List (List ℕ)) (d : ℕ) (g : Gap Spelt (List ℕ)) (es : Entries Spelt (List ℕ))
    → ((at : ℕ) (labels : List (List ℕ)) → All (Short (length labels + suc d)) (chains_under from at labels g))
    → ((at : ℕ) → All (Short (suc d)) (chains_from (from + length (items_under g)) at es)) → All (Short (length labels + suc d)) (chains from at labels (page g es))
unfolding chains labels_on chain_if
short_page from at labels d g end gap row =
    let start : ℕ = at + length (bytes_of_page (page g end)) in
    rw (append-nil (chains_under from start labels g)) (gap start labels)
short_page from at labels d g (entry e h es) gap row =
    let below : ℕ = at + length (bytes_of_page (page g (entry e h es))) in
    let next : ℕ = below + length (table_under g) in
    let later : List Chain = chains_under from below [] g ++ chains_from (from + length (items_under g)) next (entry e h es) in (
      omega arith,
      shorter (suc d) (length labels + suc d) (omega arith) later
          (all_append (Short (suc d)) (chains_under from below [] g) (chains_from (from + length (items_under g)) next (entry e h es))
          (shorter (0 + suc d) (suc d) (omega arith) (chains_under from below [] g) (gap below [])) (row next)),
    )

mutual
  unfolding chains

  short_tree : (t : SpeltTree) (d : ℕ) → Good d t → (from at : ℕ) (labels : List (List ℕ)) → All (Short (length labels + d)) (chains from at labels t)
  short_tree (page g es) zero h from at labels = absurd h
  short_tree (page g es) (suc d) h from at labels =
      short_page from at labels d g es (λ at' ls. short_gap g d h.1 from at' ls) (λ at'. short_row es d h.2 (from + length (items_under g)) at')

  short_gap : (g : Gap Spelt (List ℕ)) (d : ℕ) → AllUnder (Good d) g → (from at : ℕ) (labels : List (List ℕ)) → All (Short (length labels + suc d)) (chains_under from at labels g)
  short_gap empty d h from at labels = tt
  short_gap (under digest p) d h from at labels =
      shorter (length (labels ++ (digest ∷ [])) + d) (length labels + suc d) (omega (arith, length-append labels (digest ∷ []))) (chains from at (labels ++ (digest ∷ [])) p)
      (short_tree p d h from at (labels ++ (digest ∷ [])))

  short_row : (es : Entries Spelt (List ℕ)) (d : ℕ) → AllFrom (Good d) es → (from at : ℕ) → All (Short (suc d)) (chains_from from at es)
  short_row end d h from at = tt
  short_row (entry e g es) d h from at =
      all_append (Short (suc d)) (chains_under (from + 1) at [] g) (chains_from (from + 1 + length (items_under g)) (at + length (table_under g)) es)
      (shorter (0 + suc d) (suc d) (omega arith) (chains_under (from + 1) at [] g) (short_gap g d h.0 (from + 1) at []))
      (short_row es d h.1 (from + 1 + length (items_under g)) (at + length (table_under g)))

-- ---- one of a row
-- ---- the row of a register that is accepted
pub accepted_filled : (s : List ℕ) → Bytes s → (t : SpeltTree) → judge s ≡ accepted t → filled t ≡ true
unfolding tree_of_set
accepted_filled s bytes t h =
    let right : right_tree t ≡ true = rw (accepted_table s bytes t h).spells (tree_right digest_of (records t)) in
    holds_filled t (right_local t right).filled

pub row_chained : (s row : List ℕ) (n : ℕ) → Bytes s → (w : ChainRow s row n) → Nested (chains 0 0 [] w.tree) → Chained s row n (chains 0 0 [] w.tree)
row_chained s row n bytes w nested =
    let t : SpeltTree = w.tree in
    record {
      size = sym w.size;
      few = w.few;
      room = w.room;
      words = λ i h.
          let e : 0 + i ≡ i = omega arith in
          subst (λ (k : ℕ). ChainWords s (get_or row (2 * k) 0) (get_or row (2 * k + 1) 0) (get_or (chains 0 0 [] t) i no_chain)) e
          (words_at s row 0 (chains 0 0 [] t) w.stands i (omega (arith, w.size)) (omega (arith, w.room)));
      short = λ i h. all_at (Short 129) no_chain (chains 0 0 [] t) (short_tree t deepest (accepted_table s bytes t w.judged).good 0 0 []) i (omega (arith, w.size));
      nested = nested;
    }
