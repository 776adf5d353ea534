-- The last pass: words are copied, and the kept records are staged.
use Prim.Native.Nat.{ℕ, zero, suc, ◌+◌, ◌-◌, ◌*◌, ◌≤◌, ◌<◌}
use mathlib.Core.Path.{◌≡◌, refl, sym, ap, ◌∙◌}
use mathlib.Core.Bool.{Bool, true, false, cond}
use mathlib.Core.List.{List, [], ◌∷◌, ◌++◌, append_assoc, append-nil}
use native.Mathlib.Omega.{arith}
use native.Mathlib.Numerals.{add-one}
use lib.ListN.{length, take, drop, get_or, set, length-drop, length-map, replicate, drop_of_length-le}
use lib.Seq.{take-suc, take-suc-set, get_or-drop, drop-drop, drop-cons}
use borrow.Table.Steps.{cases}
use Rattle.word.specs.Word.{second_word, from_in, records_in, below_in}
use Rattle.index.specs.Chain.{Chain, ChainWords, no_chain}
use Rattle.known.specs.Rows.{Chained, label_count, LabelsStand}
use Rattle.known.specs.Known.{labels_before}
use Rattle.opened.specs.Visits.{none_among, visited, open_in, kept, Ordered, MarksAt}
use Rattle.opened.specs.Passing.{pick, marked, Copied, Staging, SomeStaging, KeptStaged}
use Rattle.opened.proofs.Picks.{pick_none}
use Rattle.known.proofs.Labels.{row_labels}
use Rattle.opened.proofs.Visits.{visited_skip, ordered_le, before_none}
use Rattle.opened.proofs.Marking.{before_le, before_some, marks_skip}

-- ---- words
word_at : (index : List ℕ) (i : ℕ) → i < length index → get_or (marked index) i 0 ≡ second_word (get_or index i 0)
word_at [] i h = absurd (omega arith)
word_at (w ∷ index) zero h = refl
word_at (w ∷ index) (suc i) h = word_at index i (omega arith)

-- the words from one place to before another were added to the row
abbrev pub Copying : List ℕ → List ℕ → ℕ → ℕ → List ℕ → ℕ → ℕ → Type 0
Copying index row₀ from at row i k = take k row ≡ take at row₀ ++ take (i - from) (drop from (marked index))

pub none_copied : (index row : List ℕ) (from at : ℕ) → Copying index row from at row from at
none_copied index row from at = let e : from - from ≡ 0 = omega arith in rw e (sym (append-nil (take at row)))

pub one_copied : (index row₀ : List ℕ) (from at : ℕ) (row : List ℕ) (i k : ℕ) → Copying index row₀ from at row i k → from ≤ i → i < length index → k < length row
    → Copying index row₀ from at (set row k (second_word (get_or index i 0))) (i + 1) (k + 1)
one_copied index row₀ from at row i k so_far h l room =
    let e : i + 1 - from ≡ suc (i - from) = omega arith in
    let words : List ℕ = drop from (marked index) in
    let n : length words ≡ length index - from = length-drop from (marked index) ∙ ap (λ (x : ℕ). x - from) (length-map index (λ (w : ℕ). second_word w)) in
    let z : from + (i - from) ≡ i = omega arith in
    let word : get_or words (i - from) 0 ≡ second_word (get_or index i 0) = get_or-drop from (marked index) (i - from) 0 ∙ rw z (word_at index i l) in
    rw (e, add-one k, take-suc-set row k (second_word (get_or index i 0)) room, so_far, take-suc words (i - from) 0 (omega arith), word)
    (append_assoc (take at row₀) (take (i - from) words) (second_word (get_or index i 0) ∷ []))

pub all_copied : (index row₀ : List ℕ) (from to at : ℕ) (row : List ℕ) (i k : ℕ) → k ≡ at + (i - from) → Copying index row₀ from at row i k → i ≡ to
    → Copied index row₀ from to at row k
all_copied index row₀ from to at row i k e so_far q = record { end = rw q at e; words = rw q at so_far }

-- ---- stretches that are kept, and stretches that are left out
pick_kept : {A : Type 0} (k : ℕ) (bs : List Bool) (l : List A) → pick (replicate k true ++ bs) l ≡ take k l ++ pick bs (drop k l)
unfolding pick
pick_kept zero bs l = refl
pick_kept (suc k) bs [] = sym (pick_none bs)
pick_kept (suc k) bs (a ∷ l) = ap (λ m. a ∷ m) (pick_kept k bs l)

pick_left : {A : Type 0} (k : ℕ) (bs : List Bool) (l : List A) → pick (replicate k false ++ bs) l ≡ pick bs (drop k l)
unfolding pick
pick_left zero bs l = refl
pick_left (suc k) bs [] = sym (pick_none bs)
pick_left (suc k) bs (a ∷ l) = pick_left k bs l

pick_all : {A : Type 0} (k : ℕ) (l : List A) → pick (replicate k true) l ≡ take k l
unfolding pick
pick_all zero l = refl
pick_all (suc k) [] = refl
pick_all (suc k) (a ∷ l) = ap (λ m. a ∷ m) (pick_all k l)

-- ---- the last pass, chain by chain
module _ (chains : List ℕ) (m : ℕ) (marks index : List ℕ) where
  -- The pass has come to the i-th chain and to the record `from`: what was staged and counted, with what is left, is all.
  pub record StagedTo (row : List ℕ) (opened from staged i : ℕ) (ds : List (List ℕ)) (cs : List Chain) : Type 0 where
    pub left : MarksAt ds marks i 0 (drop i cs)
    pub ordered : Ordered ds from (length index) (visited ds 0 (drop i cs))
    pub pages : opened + open_in ds (visited ds 0 (drop i cs)) ≡ 1 + open_in ds (visited ds 0 cs)
    pub words : take staged row ++ pick (kept ds from (length index) (visited ds 0 (drop i cs))) (drop from (marked index))
        ≡ pick (kept ds 0 (length index) (visited ds 0 cs)) (marked index)

  abbrev pub StagingTo : List ℕ → ℕ → ℕ → ℕ → ℕ → Type 0
  StagingTo row opened from staged i =
      (u : List ℕ) (ds : List (List ℕ)) (cs : List Chain) → Staging u chains m marks index ds cs → StagedTo row opened from staged i ds cs

  pub none_staged : (row : List ℕ) → StagingTo row 1 0 0 0
  none_staged row u ds cs x = record { left = x.marked; ordered = x.ordered; pages = refl; words = refl }

  module _ (row : List ℕ) (opened from staged i : ℕ) (so_far : StagingTo row opened from staged i) where
    -- after the last chain
    module _ (h : m ≤ i) where
      no_chain_lem : (u : List ℕ) (cs : List Chain) → Chained u chains m cs → drop i cs ≡ []
      no_chain_lem u cs x = drop_of_length-le cs {i = i} (omega (arith, x.size))

      pub end_fits : SomeStaging chains m marks index → from ≤ length index
      unfolding visited Ordered
      end_fits x = rw (no_chain_lem x.bytes x.list x.staging.chained) at (so_far x.bytes x.digests x.list x.staging).ordered

      pub all_staged : staged ≤ from → from ≤ length index → (row' : List ℕ) (r : ℕ) → Copied index row from (length index) staged row' r
          → (u : List ℕ) (ds : List (List ℕ)) (cs : List Chain) → Staging u chains m marks index ds cs
          → KeptStaged index ds cs row' (record { staged = r; opened = opened })
      unfolding visited kept open_in
      all_staged l k row' r w u ds cs x =
          let s = so_far u ds cs x in
          let e = no_chain_lem u cs x.chained in
          let all = rw e at s.words in
          let none = rw e at s.pages in
          record {
            opened = omega (arith, none);
            fits = omega (arith, w.end);
            staged = w.words ∙ rw (← pick_all (length index - from) (drop from (marked index))) all;
          }

    module _ (h : i < m) (u : List ℕ) (ds : List (List ℕ)) (cs : List Chain) (x : Staging u chains m marks index ds cs) where
      abbrev chain : Chain
      chain = get_or cs i no_chain

      abbrev later : List Chain
      later = drop (suc i) cs

      at_chain : drop i cs ≡ chain ∷ later
      at_chain = drop-cons cs i no_chain (omega (arith, x.chained.size))

      stands : LabelsStand u (get_or chains (2 * i) 0) chain.labels
      stands = row_labels u chains m i h cs x.chained

      words_of : ChainWords u (get_or chains (2 * i) 0) (get_or chains (2 * i + 1) 0) chain
      words_of = x.chained.words i h

      abbrev now : StagedTo row opened from staged i ds cs
      now = so_far u ds cs x

      here : (get_or marks i 0 ≡ labels_before ds chain.labels) × MarksAt ds marks (suc i) (cond (none_among ds chain.labels) 0 chain.below) later
      unfolding MarksAt
      here = rw at_chain at now.left

      mark_few : get_or marks i 0 ≤ 129
      mark_few = omega (arith, here.0, before_le ds chain.labels, x.chained.short i h)

      -- the chain has no known page
      module _ (none : none_among ds chain.labels ≡ true) where
        open_one : StagedTo row (opened + get_or marks i 0) from staged (i + 1) ds cs
        unfolding visited Ordered open_in kept
        open_one =
            let e = add-one i in
            let pages = rw (at_chain, none) at now.pages in
            record {
              left = rw e (rw none at here.1);
              ordered = rw e (rw (at_chain, none) at now.ordered).1;
              pages = rw e (omega (arith, pages, here.0));
              words = rw e (rw (at_chain, none) at now.words);
            }

      -- it has one
      module _ (some : none_among ds chain.labels ≡ false) where
        abbrev rest : List Chain
        rest = visited ds 0 (drop chain.below later)

        seen : visited ds 0 (drop i cs) ≡ chain ∷ rest
        unfolding visited
        seen = rw (at_chain, some, visited_skip ds chain.below later)

        order : (from ≤ chain.from) × Ordered ds (chain.from + chain.records) (length index) rest
        unfolding Ordered
        order =
            let o = rw seen at now.ordered in
            (o.0 some, rw some at o.1)

        left_out : (from ≤ chain.from) × (chain.from + chain.records ≤ length index)
        left_out = (order.0, ordered_le ds (chain.from + chain.records) (length index) rest order.1)

        closed_one : (row' : List ℕ) (r : ℕ) → Copied index row from chain.from staged row' r
            → StagedTo row' (opened + get_or marks i 0) (chain.from + chain.records) r (i + (1 + chain.below)) ds cs
        unfolding open_in kept
        closed_one row' r w =
            let next : i + (1 + chain.below) ≡ suc i + chain.below = omega arith in
            let e : drop (i + (1 + chain.below)) cs ≡ drop chain.below later = rw next (sym (drop-drop chain.below (suc i) cs)) in
            let pages = rw seen at now.pages in
            let f : from + (chain.from - from) ≡ chain.from = omega (arith, order.0) in
            let all : List ℕ = marked index in
            let more : List Bool = kept ds (chain.from + chain.records) (length index) rest in
            let words = rw (seen, some) at now.words in
            let split : pick (replicate (chain.from - from) true ++ (replicate chain.records false ++ more)) (drop from all)
            ≡ take (chain.from - from) (drop from all) ++ pick more (drop (chain.from + chain.records) all) =
            pick_kept (chain.from - from) (replicate chain.records false ++ more) (drop from all)
            ∙ rw (pick_left chain.records more (drop (chain.from - from) (drop from all)), drop-drop (chain.from - from) from all, f, drop-drop chain.records chain.from all) in
            record {
              left = rw e (rw next (marks_skip ds marks (suc i) chain.below later (rw some at here.1)));
              ordered = rw e order.1;
              pages = rw e (omega (arith, pages, here.0));
              words = rw (e, w.words, append_assoc (take staged row) (take (chain.from - from) (drop from all)) (pick more (drop (chain.from + chain.records) all)), ← split) words;
            }

    module _ (h : i < m) where
      pub mark_small : SomeStaging chains m marks index → get_or marks i 0 ≤ 129
      mark_small x = mark_few h x.bytes x.digests x.list x.staging

      pub open_staged : label_count (get_or chains (2 * i) 0) ≤ get_or marks i 0 → StagingTo row (opened + get_or marks i 0) from staged (i + 1)
      open_staged k u ds cs x =
          open_one h u ds cs x (cases (none_among ds (chain h u ds cs x).labels) (λ z. z) (λ z.
          absurd (omega (arith, before_some ds (chain h u ds cs x).labels z, (here h u ds cs x).0, (stands h u ds cs x).count))))

      -- where it has a known page
      module _ (k : get_or marks i 0 < label_count (get_or chains (2 * i) 0)) where
        known : (u : List ℕ) (ds : List (List ℕ)) (cs : List Chain) (x : Staging u chains m marks index ds cs) → none_among ds (chain h u ds cs x).labels ≡ false
        known u ds cs x =
            cases (none_among ds (chain h u ds cs x).labels)
            (λ z. absurd (omega (arith, before_none ds (chain h u ds cs x).labels z, (here h u ds cs x).0, (stands h u ds cs x).count)))
            (λ z. z)

        pub stretch_fits : SomeStaging chains m marks index
            → (from ≤ from_in (get_or chains (2 * i + 1) 0)) × (from_in (get_or chains (2 * i + 1) 0) + records_in (get_or chains (2 * i + 1) 0) ≤ length index)
        stretch_fits y =
            let u = y.bytes in
            let ds = y.digests in
            let cs = y.list in
            let x = y.staging in
            let w = words_of h u ds cs x in
            rw (w.from, w.records) (left_out h u ds cs x (known u ds cs x))

        pub closed_staged : (row' : List ℕ) (r to more passed : ℕ) → Copied index row from to staged row' r
            → to ≡ from_in (get_or chains (2 * i + 1) 0) → more ≡ records_in (get_or chains (2 * i + 1) 0) → passed ≡ below_in (get_or chains (2 * i + 1) 0)
            → StagingTo row' (opened + get_or marks i 0) (to + more) r (i + (1 + passed))
        closed_staged row' r to more passed copied et em ep u ds cs x =
            let w = words_of h u ds cs x in
            rw (et, em, ep, w.from, w.records, w.below) (closed_one h u ds cs x (known u ds cs x) row' r (rw (et, w.from) at copied))
