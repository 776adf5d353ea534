-- The words of the pages of a row of chains, as lists.
use Prim.Native.Nat.{ℕ, zero, suc, ◌+◌, ◌*◌, ◌≤◌, ◌<◌}
use mathlib.Core.Path.{◌≡◌, refl, sym, ◌∙◌}
use mathlib.Core.Logic.{inl, inr}
use mathlib.Core.List.{List, [], ◌∷◌, ◌++◌, append_assoc, append-nil, map, map-append}
use native.Mathlib.Omega.{arith}
use native.Mathlib.Numerals.{add-one}
use lib.ListN.{length, take, get_or, set, length-append, length-set}
use lib.Seq.{take-suc, take-suc-set, take_all}
use Rattle.bytestring.proofs.Tools.{All, all_append}
use Rattle.promises.specs.Promises.{Among}
use Rattle.index.specs.Chain.{Chain, no_chain}
use Rattle.known.specs.Rows.{label_count}
use Rattle.links.specs.Links.{from_first, from_chains}
use Rattle.staging.specs.Inner.{chain_page_words, row_page_words, register_page_words, AddedWords}

-- ---- the words of one chain
chain_number : (i k : ℕ) → length (chain_page_words i k) ≡ k
unfolding chain_page_words
chain_number i zero = refl
chain_number i (suc k) = omega (arith, length-append (chain_page_words i k) ((from_chains + 256 * i + k) ∷ []), chain_number i k)

pub row_number : (row : List ℕ) (i : ℕ) → length (row_page_words row (suc i)) ≡ length (row_page_words row i) + label_count (get_or row (2 * i) 0)
unfolding row_page_words
row_number row i =
    let k : ℕ = label_count (get_or row (2 * i) 0) in
    omega (arith, length-append (row_page_words row i) (chain_page_words i k), chain_number i k)

pub all_words : (P : ℕ → Type 0) (i m : ℕ) → ((k : ℕ) → k < m → P (from_chains + 256 * i + k)) → All P (chain_page_words i m)
unfolding chain_page_words
all_words P i zero h = tt
all_words P i (suc m) h =
    all_append P (chain_page_words i m) ((from_chains + 256 * i + m) ∷ []) (all_words P i m (λ k l. h k (omega arith))) (h m (omega arith), tt)

-- what the words of a chain lead to, one after the other
words_map : (f : ℕ → List ℕ) (i : ℕ) (l : List (List ℕ)) → ((k : ℕ) → k < length l → f (from_chains + 256 * i + k) ≡ get_or l k [])
    → (m : ℕ) → m ≤ length l → map f (chain_page_words i m) ≡ take m l
unfolding chain_page_words
words_map f i l h zero g = refl
words_map f i l h (suc m) g =
    map-append f (chain_page_words i m) ((from_chains + 256 * i + m) ∷ [])
    ∙ rw (words_map f i l h m (omega arith), h m (omega arith), take-suc l m [] (omega arith))

pub chain_map : (f : ℕ → List ℕ) (i : ℕ) (l : List (List ℕ)) → ((k : ℕ) → k < length l → f (from_chains + 256 * i + k) ≡ get_or l k [])
    → (m : ℕ) → m ≡ length l → map f (chain_page_words i m) ≡ l
chain_map f i l h m e = words_map f i l h m (omega arith) ∙ take_all m l (omega arith)

-- ---- the words of a row
module _ (row : List ℕ) where
  pub all_row_words : (P : ℕ → Type 0) (n : ℕ) → ((i : ℕ) → i < n → All P (chain_page_words i (label_count (get_or row (2 * i) 0)))) → All P (row_page_words row n)
  unfolding row_page_words
  all_row_words P zero h = tt
  all_row_words P (suc n) h =
      all_append P (row_page_words row n) (chain_page_words n (label_count (get_or row (2 * n) 0))) (all_row_words P n (λ i l. h i (omega arith))) (h n (omega arith))

  -- what they lead to, chain by chain
  pub row_map : (f : ℕ → List ℕ) (flat : List Chain → List (List ℕ)) → flat [] ≡ [] → ((cs ds : List Chain) → flat (cs ++ ds) ≡ flat cs ++ flat ds)
      → (cs : List Chain) → ((i : ℕ) → i < length cs → map f (chain_page_words i (label_count (get_or row (2 * i) 0))) ≡ flat (get_or cs i no_chain ∷ []))
      → (n : ℕ) → n ≤ length cs → map f (row_page_words row n) ≡ flat (take n cs)
  unfolding row_page_words
  row_map f flat none more cs h zero g = sym none
  row_map f flat none more cs h (suc n) g =
      map-append f (row_page_words row n) (chain_page_words n (label_count (get_or row (2 * n) 0)))
      ∙ rw (row_map f flat none more cs h n (omega arith), h n (omega arith), take-suc cs n no_chain (omega arith))
      (sym (more (take n cs) (get_or cs n no_chain ∷ [])))

-- ---- putting them down
-- the first k words of the chain were put down
pub record Putting (words₀ : List ℕ) (total i : ℕ) (words : List ℕ) (k : ℕ) : Type 0 where
  pub size : length words ≡ length words₀
  pub added : take (total + k) words ≡ take total words₀ ++ chain_page_words i k

pub none_put : (words : List ℕ) (total i : ℕ) → Putting words total i words 0
unfolding chain_page_words
none_put words total i =
    let e : total + 0 ≡ total = omega arith in
    record { size = refl; added = rw e (sym (append-nil (take total words))) }

pub one_put : (words₀ : List ℕ) (total i : ℕ) (words : List ℕ) (k : ℕ) → Putting words₀ total i words k → total + k < length words
    → Putting words₀ total i (set words (total + k) (from_chains + 256 * i + k)) (k + 1)
unfolding chain_page_words
one_put words₀ total i words k so_far room =
    let x : ℕ = from_chains + 256 * i + k in
    let e : total + (k + 1) ≡ suc (total + k) = omega arith in
    record {
      size = length-set words (total + k) x ∙ so_far.size;
      added = rw (e, add-one k, take-suc-set words (total + k) x room, so_far.added) (append_assoc (take total words₀) (chain_page_words i k) (x ∷ []));
    }

pub all_put : (words₀ : List ℕ) (total i : ℕ) (words : List ℕ) (k n count : ℕ) → Putting words₀ total i words k → k ≡ n → n ≡ count
    → AddedWords words₀ total (chain_page_words i count) words (total + n)
all_put words₀ total i words k n count so_far e q = record {
  size = so_far.size;
  number = omega (arith, chain_number i count);
  added = rw (← q) (rw e at so_far.added);
}

-- the word of the root, and then chain by chain
pub record PutTo (row words : List ℕ) (total i : ℕ) : Type 0 where
  pub number : total ≡ length (register_page_words row i)
  pub put : take total words ≡ register_page_words row i

pub root_put : (words row : List ℕ) → 0 < length words → PutTo row (set words 0 from_first) 1 0
unfolding row_page_words
root_put words row h = record { number = refl; put = take-suc-set words 0 from_first h }

pub chain_put : (row words : List ℕ) (total i : ℕ) → PutTo row words total i → (words' : List ℕ) (total' : ℕ)
    → AddedWords words total (chain_page_words i (label_count (get_or row (2 * i) 0))) words' total' → PutTo row words' total' (i + 1)
unfolding row_page_words
chain_put row words total i so_far words' total' w =
    let more : List ℕ = chain_page_words i (label_count (get_or row (2 * i) 0)) in
    record {
      number = rw (add-one i) (omega (arith, w.number, so_far.number, length-append (row_page_words row i) more));
      put = rw (add-one i) (w.added ∙ rw so_far.put);
    }

-- ---- what words lead to
pub among_mapped : (f : ℕ → List ℕ) (xs : List ℕ) (j : ℕ) → j < length xs → Among (f (get_or xs j 0)) (map f xs)
among_mapped f [] j h = absurd (omega arith)
among_mapped f (x ∷ xs) zero h = inl refl
among_mapped f (x ∷ xs) (suc j) h = inr (among_mapped f xs j (omega arith))

pub mapped_among : (f : ℕ → List ℕ) (xs : List ℕ) (q : List ℕ) → Among q (map f xs) → (j : ℕ) × (j < length xs) × (f (get_or xs j 0) ≡ q)
mapped_among f [] q h = absurd h
mapped_among f (x ∷ xs) q (inl e) = (0, omega arith, sym e)
mapped_among f (x ∷ xs) q (inr h) =
    let k = mapped_among f xs q h in
    (suc k.0, omega (arith, k.1), k.2)

pub map_same : {A : Type 0} (f g : ℕ → A) (xs : List ℕ) → map f xs ≡ map g xs → All (λ x. f x ≡ g x) xs
map_same f g [] e = tt
map_same f g (x ∷ xs) e = (cc, map_same f g xs (cc))
