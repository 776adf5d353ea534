-- The row of a result, word by word.
use Rattle.std.specs.Prelude.{Some}
use Prim.Native.Nat.{ℕ, zero, suc, ◌+◌, ◌-◌, ◌≤◌, ◌<◌}
use mathlib.Core.Path.{◌≡◌, refl, sym, ap, ◌∙◌}
use mathlib.Core.List.{List, [], ◌∷◌, ◌++◌, map, map-append}
use native.Mathlib.Numerals.{add-one}
use native.Mathlib.Omega.{arith}
use lib.ListN.{length, take, drop, get_or, set, length-drop, drop_of_length-le, get_or-map}
use lib.Seq.{paste, paste-zero, paste-suc, take-paste, take-length, take-take, take-suc-set, length-take-le, drop-cons, get_or-take, get_or-drop}
use Rattle.bytestring.proofs.Tools.{All, part_is}
use Rattle.key.specs.Key.{order}
use Rattle.tree.specs.Record.{Record}
use Rattle.row.specs.Row.{record_of_word, records_of}
use Rattle.row.proofs.Rows.{records_length}
use Rattle.choice.specs.Choice.{AppendSays}

-- ---- the rest of a row behind its first words
-- the first i words of the rest are there
unfoldable pub AppendedSoFar : List ℕ → ℕ → List ℕ → List ℕ → ℕ → Type 0
AppendedSoFar row k rest row' i = row' ≡ paste row k rest i

pub appended_none : (row : List ℕ) (k : ℕ) (rest : List ℕ) → AppendedSoFar row k rest row 0
unfolding AppendedSoFar
appended_none row k rest = paste-zero row k rest

pub part_count : (words : List ℕ) (from to : ℕ) → from ≤ to → to ≤ length words → length (take (to - from) (drop from words)) ≡ to - from
part_count words from to h g = length-take-le (to - from) (drop from words) (omega (arith, length-drop from words))

module _ (row : List ℕ) (k limit : ℕ) (words : List ℕ) (from to : ℕ) (row' : List ℕ) (i : ℕ) (u : AppendedSoFar row k (take (to - from) (drop from words)) row' i)
    (order : from ≤ to) (there : to ≤ length words) (few : k + (to - from) ≤ limit) (room : limit ≤ length row) where
  abbrev rest : List ℕ
  rest = take (to - from) (drop from words)

  pub appended_more : i < to - from → AppendedSoFar row k (take (to - from) (drop from words)) (set row' (k + i) (get_or words (from + i) 0)) (i + 1)
  unfolding AppendedSoFar
  appended_more h =
      let count = part_count words from to order there in
      let word : get_or words (from + i) 0 ≡ get_or rest i 0 = sym (get_or-take (to - from) (drop from words) i 0 h ∙ get_or-drop from words i 0) in
      rw (u, add-one i, word) (paste-suc row k rest i 0 (omega arith) (omega arith))

  pub appended_all : i ≤ to - from → to - from ≤ i → AppendSays row k limit (take (to - from) (drop from words)) (Some (k + i)) row'
  unfolding AppendedSoFar
  appended_all h g =
      let count = part_count words from to order there in
      let e : i ≡ length rest = omega arith in
      rw e (refl, omega arith, ap (take (k + length rest)) (rw e at u) ∙ take-paste row k rest (length rest) (omega arith) (omega arith) ∙ rw (take-length rest))

-- ---- the words of a row, all of them
pub all_first : (P : ℕ → Type 0) (row : List ℕ) (n : ℕ) → n ≤ length row → ((i : ℕ) → i < n → P (get_or row i 0)) → All P (take n row)
all_first P row zero h f = tt
all_first P [] (suc n) h f = absurd (omega arith)
all_first P (w ∷ row) (suc n) h f = (f 0 (omega arith), all_first P row n (omega arith) (λ i g. f (suc i) (omega arith)))

pub first_at : (P : ℕ → Type 0) (row : List ℕ) (n : ℕ) → n ≤ length row → All P (take n row) → (i : ℕ) → i < n → P (get_or row i 0)
first_at P row zero h a i g = absurd (omega arith)
first_at P [] (suc n) h a i g = absurd (omega arith)
first_at P (w ∷ row) (suc n) h a zero g = a.0
first_at P (w ∷ row) (suc n) h a (suc i) g = first_at P row n (omega arith) a.1 i (omega arith)

pub all_drop : (P : ℕ → Type 0) (i : ℕ) (l : List ℕ) → All P l → All P (drop i l)
all_drop P zero l a = a
all_drop P (suc i) [] a = a
all_drop P (suc i) (w ∷ l) a = all_drop P i l a.1

-- ---- the records of a row
module _ (s u : List ℕ) where
  pub records_past : (row : List ℕ) (n i : ℕ) → n ≤ length row → n ≤ i → drop i (records_of s u row n) ≡ []
  records_past row n i h g =
      let past : length (records_of s u row n) ≤ i = omega (arith, records_length s u row n h) in
      drop_of_length-le (records_of s u row n) past

  pub records_cons : (row : List ℕ) (n i : ℕ) → n ≤ length row → i < n
      → drop i (records_of s u row n) ≡ record_of_word s u (get_or row i 0) ∷ drop (i + 1) (records_of s u row n)
  unfolding records_of
  records_cons row n i h g =
      let e = records_length s u row n h in
      rw (add-one i, drop-cons (map (record_of_word s u) (take n row)) i (record_of_word s u 0) (omega arith), get_or-map (record_of_word s u) (take n row) i 0, get_or-take n row i 0 g)

  pub records_snoc : (row : List ℕ) (k w : ℕ) → k < length row → records_of s u (set row k w) (k + 1) ≡ records_of s u row k ++ (record_of_word s u w ∷ [])
  unfolding records_of
  records_snoc row k w h = rw (add-one k, take-suc-set row k w h) (map-append (record_of_word s u) (take k row) (w ∷ []))

  -- the records of a part of a row
  maps_drop : (i : ℕ) (l : List ℕ) → map (record_of_word s u) (drop i l) ≡ drop i (map (record_of_word s u) l)
  maps_drop zero l = refl
  maps_drop (suc i) [] = refl
  maps_drop (suc i) (w ∷ l) = maps_drop i l

  maps_take : (i : ℕ) (l : List ℕ) → map (record_of_word s u) (take i l) ≡ take i (map (record_of_word s u) l)
  maps_take zero l = refl
  maps_take (suc i) [] = refl
  maps_take (suc i) (w ∷ l) = ap (λ (rs : List Record). record_of_word s u w ∷ rs) (maps_take i l)

  pub records_slice : (row : List ℕ) (n i : ℕ) → map (record_of_word s u) (drop i (take n row)) ≡ drop i (records_of s u row n)
  unfolding records_of
  records_slice row n i = maps_drop i (take n row)

  pub records_front : (row : List ℕ) (n i : ℕ) → i ≤ n → map (record_of_word s u) (take i row) ≡ take i (records_of s u row n)
  unfolding records_of
  records_front row n i h = ap (map (record_of_word s u)) (sym (take-take i n row h)) ∙ maps_take i (take n row)

-- ---- the keys at two cursors
pub parts_order : (l m : List ℕ) (from size start room : ℕ)
    → order (take (from + size - from) (drop from l)) (take (start + room - start) (drop start m)) ≡ order (take size (drop from l)) (take room (drop start m))
parts_order l m from size start room = rw (part_is l from size, part_is m start room)
