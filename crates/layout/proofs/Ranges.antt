-- The definitions along a range of records, as the loops go.
use Prim.Native.Nat.{ℕ, zero, suc, ◌+◌, ◌-◌, ◌≤◌, ◌<◌}
use mathlib.Core.Path.{◌≡◌, refl, ap, ◌∙◌}
use mathlib.Core.Option.{Option}
use mathlib.Core.List.{List, [], ◌∷◌, ◌++◌}
use native.Mathlib.Omega.{arith}
use native.Mathlib.Numerals.{add-one}
use lib.ListN.{get_or}
use borrow.Author.Tests.{eq-eqb, ne_eqb}
use Rattle.word.specs.Word.{layer_in}
use Rattle.page.specs.Page.{entry_bytes}
use Rattle.page_writer.specs.Front.{entry_after}
use Rattle.tree.specs.Tree.{Gap, end, entry, Placed, Parted, part, entries_of}
use Rattle.tree.specs.Record.{Record, spelt_under, spelt_from}
use Rattle.tree.specs.Table.{link_of, raw_entries}
use Rattle.row.specs.Row.{record_of_word}
use Rattle.layout.specs.Build.{record_in, span, gap_for, entries_at, entries_bytes, count_of}
use Rattle.layout.specs.Layout.{Run}

-- the link of a gap
abbrev pub link_to : Gap Record (List ℕ) → Option (List ℕ)
link_to g = link_of (spelt_under g)

-- ---- a record of the row
pub record_item : (s u row : List ℕ) (i : ℕ) → (record_in s u row i).item ≡ record_of_word s u (get_or row i 0)
unfolding record_in
record_item s u row i = refl

pub record_layer : (s u row : List ℕ) (i : ℕ) → (record_in s u row i).layer ≡ layer_in (get_or row i 0)
unfolding record_in
record_layer s u row i = refl

-- ---- a row parted
-- lo to r are no records of layer n, and r is one or the end
pub record Cuts (f : ℕ → Placed Record) (n lo hi r : ℕ) : Type 0 where
  pub from : lo ≤ r
  pub to : r ≤ hi
  pub first : (part n (span f lo (hi - lo))).first ≡ span f lo (r - lo)
  pub rest : (part n (span f lo (hi - lo))).rest ≡ (part n (span f r (hi - r))).rest

part_here : (n : ℕ) (r : Placed Record) (rs : List (Placed Record)) → r.layer ≡ n
    → part n (r ∷ rs) ≡ record { first = []; rest = (r.item, (part n rs).first) ∷ (part n rs).rest }
unfolding part
part_here n r rs e = rw (eq-eqb r.layer n e)

part_other : (n : ℕ) (r : Placed Record) (rs : List (Placed Record)) → (r.layer ≡ n → ⊥)
    → part n (r ∷ rs) ≡ record { first = r ∷ (part n rs).first; rest = (part n rs).rest }
unfolding part
part_other n r rs e = rw (ne_eqb r.layer n e)

empty_run : (f : ℕ → Placed Record) (n lo m : ℕ) → (0 < m → (f lo).layer ≡ n) → (part n (span f lo m)).first ≡ []
unfolding part span
empty_run f n lo zero h = refl
empty_run f n lo (suc m) h = ap (λ (p : Parted Record). p.first) (part_here n (f lo) (span f (suc lo) m) (h (omega arith)))

runs : (f : ℕ → Placed Record) (n k lo m : ℕ) → ((j : ℕ) → lo ≤ j → j < lo + k → (f j).layer ≡ n → ⊥) → (0 < m → (f (lo + k)).layer ≡ n)
    → ((part n (span f lo (k + m))).first ≡ span f lo k) × ((part n (span f lo (k + m))).rest ≡ (part n (span f (lo + k) m)).rest)
unfolding span
runs f n zero lo m o s =
    let e : 0 + m ≡ m = omega arith in
    let z : lo + 0 ≡ lo = omega arith in
    (rw e (empty_run f n lo m (λ h. rw z at (s h))), rw (e, z))
runs f n (suc k) lo m o s =
    let e : suc k + m ≡ suc (k + m) = omega arith in
    let z : lo + suc k ≡ suc lo + k = omega arith in
    let ih = runs f n k (suc lo) m (λ j h l q. o j (omega arith) (omega arith) q) (λ h. rw z at (s h)) in
    let c = part_other n (f lo) (span f (suc lo) (k + m)) (o lo (omega arith) (omega arith)) in
    (rw e (ap (λ (p : Parted Record). p.first) c ∙ ap (λ (l : List (Placed Record)). f lo ∷ l) ih.0), rw (e, z) (ap (λ (p : Parted Record). p.rest) c ∙ ih.1))

pub cuts : (s u row : List ℕ) (n lo hi r : ℕ) → Run row n lo hi r → Cuts (record_in s u row) n lo hi r
unfolding record_in
cuts s u row n lo hi r w =
    let h : lo ≤ r = w.from in
    let k : r ≤ hi = w.to in
    let e : hi - lo ≡ (r - lo) + (hi - r) = omega arith in
    let z : lo + (r - lo) ≡ r = omega arith in
    let p = runs (record_in s u row) n (r - lo) lo (hi - r) (λ j a b q. w.other j a (omega arith) q) (λ a. rw z (w.stop (omega arith))) in
    record { from = h; to = k; first = rw e p.0; rest = rw e (p.1 ∙ rw z) }

-- ---- the entries, one by one
pub no_entries : (n : ℕ) (f : ℕ → Placed Record) (i hi : ℕ) → hi ≤ i → entries_at n f i hi ≡ end
unfolding entries_at entries_of part span
no_entries n f i hi h = let e : hi - i ≡ 0 = omega arith in rw e

module _ (n : ℕ) (f : ℕ → Placed Record) (before : List ℕ) (i hi : ℕ) (h : hi ≤ i) where
  pub no_bytes : entries_bytes before (entries_at n f i hi) ≡ []
  unfolding raw_entries spelt_from
  no_bytes = rw (no_entries n f i hi h)

  pub no_count : count_of before (entries_at n f i hi) ≡ 0
  unfolding raw_entries spelt_from
  no_count = rw (no_entries n f i hi h)

module _ (n : ℕ) (f : ℕ → Placed Record) (before : List ℕ) (i hi next : ℕ) (h : i < hi) (e : (f i).layer ≡ n) (c : Cuts f n (i + 1) hi next) where
  abbrev gap : Gap Record (List ℕ)
  gap = gap_for n (span f (i + 1) (next - (i + 1)))

  pub one_entry : entries_at n f i hi ≡ entry (f i).item gap (entries_at n f next hi)
  unfolding entries_at entries_of span
  one_entry =
      let z : hi - i ≡ suc (hi - (i + 1)) = omega arith in
      rw (z, ← add-one i, part_here n (f i) (span f (i + 1) (hi - (i + 1))) e, c.first, c.rest)

  pub bytes_turn : entries_bytes before (entries_at n f i hi) ≡ entry_bytes (entry_after before (f i).item.key (link_to gap) (f i).item.val) ++ entries_bytes (f i).item.key (entries_at n f next hi)
  unfolding raw_entries spelt_from entry_after
  bytes_turn = rw one_entry

  pub count_turn : count_of before (entries_at n f i hi) ≡ suc (count_of (f i).item.key (entries_at n f next hi))
  unfolding raw_entries spelt_from
  count_turn = rw one_entry
