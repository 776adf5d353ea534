-- The pass over the row of chains, which copies the pages of some of them.
use Prim.Native.Nat.{ℕ, ◌+◌, ◌-◌, ◌*◌, ◌≤◌, ◌<◌}
use mathlib.Core.Path.{◌≡◌, refl, sym, ap, ◌∙◌}
use mathlib.Core.Bool.{true, false}
use mathlib.Core.List.{List, [], ◌∷◌, ◌++◌, append_assoc, append-nil}
use native.Mathlib.Numerals.{add-one}
use native.Mathlib.Omega.{arith}
use lib.ListN.{length, take, drop, get_or, length-append, take-append-drop}
use lib.Seq.{take-suc, take-add, take_all, drop-drop}
use Rattle.bytestring.specs.Bytes.{front}
use Rattle.bytestring.proofs.Lending.{lent, back, onto}
use Rattle.word.specs.Word.{link_in, above_in, end_in, from_in, records_in}
use Rattle.index.specs.Chain.{Chain, only_link, chains, LabelsAt, ChainWords, no_chain}
use Rattle.index.specs.Accepted.{ChainRow}
use Rattle.index.proofs.ChainRows.{labels_end}
use Rattle.digests.proofs.ChainReads.{row_noted, chain_words}
use Rattle.path_writer.specs.Chains.{covers, empty_pages, chain_bytes, pages_at, covering}
use Rattle.path_writer.proofs.Covering.{covering_append}

-- ---- the pages of a chain, by its words
-- those without entries, and so many bytes behind them
labels_part : (s : List ℕ) (link at : ℕ) (labels : List (List ℕ)) (to : ℕ) → LabelsAt s link at labels to → (n size : ℕ) → at + n ≡ to + size
    → take n (drop at s) ≡ empty_pages labels ++ take size (drop to s)
unfolding LabelsAt empty_pages
labels_part s link at [] to h n size e = let k : n ≡ size = omega (arith, h.1) in rw (k, h.1)
labels_part s link at (d ∷ []) to h n size e = let k : n ≡ size = omega (arith, h.3) in rw (k, h.3)
labels_part s link at (d ∷ (next ∷ more)) to h n size e =
    let m : ℕ = n - 47 in
    let k : n ≡ 47 + m = omega (arith, labels_end s (at + 15) (at + 47) (next ∷ more) to h.4) in
    ap (λ (j : ℕ). take j (drop at s)) k
    ∙ take-add 47 m (drop at s)
    ∙ rw (h.3, drop-drop 47 at s, labels_part s (at + 15) (at + 47) (next ∷ more) to h.4 m size (omega arith))
    (sym (append_assoc (only_link next) (empty_pages (next ∷ more)) (take size (drop to s))))

chain_bytes_lem : {s : List ℕ} {w v : ℕ} {c : Chain} → ChainWords s w v c → pages_at s w v ≡ chain_bytes c
unfolding chain_bytes
chain_bytes_lem {s} {w} {v} {c} words =
    let start : ℕ = c.page - 47 * above_in w in
    let size : start + (end_in v - start) ≡ c.page + (end_in v - c.page) = omega (arith, words.start, words.ends) in
    rw words.page (labels_part s (link_in w) start c.labels c.page words.labels (end_in v - start) (end_in v - c.page) size ∙ rw words.bytes)

-- ---- chain by chain
-- The output o has got the pages of those of the first i chains that hold the positions.
pub record Copied (cs : List Chain) (low high : ℕ) (o out : List ℕ) (next i : ℕ) : Type 0 where
  pub size : next ≡ length (covering low high (take i cs))
  pub bytes : out ≡ front (covering low high (take i cs)) o

abbrev pub CopiedTo : List ℕ → List ℕ → ℕ → ℕ → ℕ → List ℕ → List ℕ → ℕ → ℕ → Type 0
CopiedTo s row n low high o out next i = (w : ChainRow s row n) → Copied (chains 0 0 [] w.tree) low high o out next i

pub none_copied : (s row : List ℕ) (n low high : ℕ) (o : List ℕ) → CopiedTo s row n low high o o 0 0
unfolding covering
none_copied s row n low high o w = record { size = refl; bytes = refl }

module _ {s row : List ℕ} {n low high : ℕ} {o out : List ℕ} {next i : ℕ} (so_far : CopiedTo s row n low high o out next i) where
  -- after the last chain
  pub all_copied : n ≤ i → (w : ChainRow s row n)
      → (next ≡ length (covering low high (chains 0 0 [] w.tree))) × (out ≡ front (covering low high (chains 0 0 [] w.tree)) o)
  all_copied h w =
      let e : take i (chains 0 0 [] w.tree) ≡ chains 0 0 [] w.tree = take_all i (chains 0 0 [] w.tree) (omega (arith, w.size)) in
      (rw e at (so_far w).size, rw e at (so_far w).bytes)

  -- the i-th chain
  module _ (h : i < n) where
    abbrev word : ℕ
    word = get_or row (2 * i) 0

    abbrev span : ℕ
    span = get_or row (2 * i + 1) 0

    module _ (w : ChainRow s row n) where
      abbrev cs : List Chain
      cs = chains 0 0 [] w.tree

      abbrev chain : Chain
      chain = get_or cs i no_chain

      words : ChainWords s word span chain
      words = chain_words (row_noted w) i h

      one_more : covering low high (take (i + 1) cs) ≡ covering low high (take i cs) ++ covering low high (chain ∷ [])
      one_more =
          ap (λ (j : ℕ). covering low high (take j cs)) (add-one i)
          ∙ rw (take-suc cs i no_chain (omega (arith, w.size))) (covering_append low high (take i cs) (chain ∷ []))

      without : covers low high (from_in span) (records_in span) ≡ false → covering low high (take (i + 1) cs) ≡ covering low high (take i cs)
      unfolding covering
      without q = one_more ∙ rw (← words.from, ← words.records, q) (append-nil (covering low high (take i cs)))

      with_pages_lem : covers low high (from_in span) (records_in span) ≡ true → {pages : List ℕ} → pages ≡ pages_at s word span
          → covering low high (take (i + 1) cs) ≡ covering low high (take i cs) ++ pages
      unfolding covering
      with_pages_lem q e = one_more ∙ rw (← words.from, ← words.records, q, append-nil (chain_bytes chain), e, chain_bytes_lem words)

    pub chain_passed : covers low high (from_in span) (records_in span) ≡ false → CopiedTo s row n low high o out next (i + 1)
    chain_passed q w = record { size = rw (without w q) (so_far w).size; bytes = rw (without w q) (so_far w).bytes }

    module _ (q : covers low high (from_in span) (records_in span) ≡ true) (pages : List ℕ) (e : pages ≡ pages_at s word span) where
      pub chain_copied : (ys : List ℕ) → ys ≡ front pages (lent next out) → CopiedTo s row n low high o (back next out ys) (next + length pages) (i + 1)
      chain_copied ys f w =
          let before : List ℕ = covering low high (take i (cs w)) in
          record {
            size = rw (with_pages_lem w q e, length-append before pages, ← (so_far w).size);
            bytes = rw (with_pages_lem w q e) (onto o before pages next out ys (so_far w).bytes (sym (so_far w).size) f);
          }

      pub chain_lacks : length o - next < length pages → (w : ChainRow s row n) → length o < length (covering low high (cs w))
      chain_lacks l w =
          let before : List ℕ = covering low high (take i (cs w)) in
          let behind : List ℕ = covering low high (drop (i + 1) (cs w)) in
          let all : covering low high (cs w) ≡ (before ++ pages) ++ behind =
          ap (covering low high) (sym (take-append-drop (i + 1) (cs w))) ∙ covering_append low high (take (i + 1) (cs w)) (drop (i + 1) (cs w)) ∙ rw (with_pages_lem w q e) in
          omega (arith, ap length all, length-append (before ++ pages) behind, length-append before pages, (so_far w).size)
