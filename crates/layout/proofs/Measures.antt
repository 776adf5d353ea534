-- The number and the length of a page's entries, one after the other.
use Prim.Native.Nat.{ℕ, zero, suc, ◌+◌, ◌-◌, ◌*◌, ◌≤◌, ◌<◌}
use mathlib.Core.Path.{◌≡◌, refl, sym, ap, ◌∙◌}
use mathlib.Core.Bool.{Bool}
use Rattle.std.specs.Prelude.{Some, None, is_some, Option as OptionOf}
use mathlib.Core.List.{List, []}
use native.Mathlib.Omega.{arith}
use mir.Syntax.{w64}
use mir.Val.{Fits}
use lib.ListN.{length, take, get_or, replicate, length-append}
use Rattle.word.specs.Word.{layer_in}
use Rattle.fips180.proofs.Laws.{length_sha256}
use Rattle.page.specs.Page.{entry_bytes}
use Rattle.page_writer.specs.Front.{link_held, gap_length, entry_length, entry_after, page_end_bytes}
use Rattle.page_writer.proofs.Sizes.{Whole, length_entry, length_page_end}
use Rattle.tree.specs.Tree.{Placed, gap_of, build}
use Rattle.tree.specs.Record.{Record, spelt, spelt_under}
use Rattle.tree.specs.Table.{link_of, bytes_of_page, digest_of}
use Rattle.row.specs.Row.{record_of_word, Stands}
use Rattle.layout.specs.Build.{record_in, span, gap_for, entries_at, entries_bytes, count_of}
use Rattle.layout.specs.Entry.{Holding, KeyHeld}
use Rattle.layout.specs.Layout.{Ready, Run, has_page, EntriesSized}
use Rattle.layout.proofs.Ranges.{link_to, record_item, record_layer, cuts, no_bytes, no_count, bytes_turn, count_turn}
use Rattle.layout.proofs.Holding.{val_length}

-- ---- links below
link_below : ℕ → (ℕ → Placed Record) → ℕ → ℕ → OptionOf (List ℕ)
link_below zero f i m = None
link_below (suc n) f i zero = None
link_below (suc n) f i (suc m) = Some (digest_of (build digest_of n (span f i (suc m))))

link_is : (n : ℕ) (f : ℕ → Placed Record) (i m : ℕ) → link_to (gap_for n (span f i m)) ≡ link_held (link_below n f i m)
unfolding gap_for link_of spelt_under gap_of span link_below
link_is zero f i m = refl
link_is (suc n) f i zero = refl
link_is (suc n) f i (suc m) = refl

some_below : (n : ℕ) (f : ℕ → Placed Record) (i m : ℕ) → is_some (link_below n f i m) ≡ has_page n m
unfolding has_page link_below
some_below zero f i m = refl
some_below (suc n) f i zero = refl
some_below (suc n) f i (suc m) = refl

whole_below : (n : ℕ) (f : ℕ → Placed Record) (i m : ℕ) → Whole (link_below n f i m)
unfolding digest_of link_below
whole_below zero f i m = tt
whole_below (suc n) f i zero = tt
whole_below (suc n) f i (suc m) = length_sha256 (bytes_of_page (spelt (build digest_of n (span f i (suc m)))))

module _ (n : ℕ) (f : ℕ → Placed Record) (i m : ℕ) where
  entry_size : (before key val : List ℕ) → length val ≡ 33
      → length (entry_bytes (entry_after before key (link_to (gap_for n (span f i m))) val)) ≡ entry_length before key (has_page n m)
  entry_size before key val h = rw (link_is n f i m, ← some_below n f i m) (length_entry before key (link_below n f i m) val (whole_below n f i m) h)

  pub end_size : length (page_end_bytes (link_to (gap_for n (span f i m)))) ≡ 2 + gap_length (has_page n m)
  end_size = rw (link_is n f i m, ← some_below n f i m) (length_page_end (link_below n f i m) (whole_below n f i m))

-- ---- the entries before the i-th record are counted
pub record Counted (s u row : List ℕ) (n first hi count i : ℕ) : Type 0 where
  pub before : List ℕ
  pub number : count + count_of before (entries_at n (record_in s u row) i hi) ≡ count_of [] (entries_at n (record_in s u row) first hi)

pub counted_none : (s u row : List ℕ) (n first hi : ℕ) → Counted s u row n first hi 0 first
counted_none s u row n first hi = record { before = []; number = omega arith }

module _ {s u row : List ℕ} {n first hi count i : ℕ} (m : Counted s u row n first hi count i) where
  pub counted_more : (next : ℕ) → i < hi → layer_in (get_or row i 0) ≡ n → Run row n (i + 1) hi next → Counted s u row n first hi (count + 1) next
  counted_more next h e w = record {
    before = (record_in s u row i).item.key;
    number =
        omega (
          arith,
          m.number,
          count_turn n (record_in s u row) m.before i hi next h (record_layer s u row i ∙ e) (cuts s u row n (i + 1) hi next w),
        );
  }

  pub counted_all : (lo : ℕ) → Run row n lo hi first → hi ≤ i → count ≡ count_of [] (entries_at n (record_in s u row) lo hi)
  unfolding entries_at
  counted_all lo w h =
      let e : count ≡ count_of [] (entries_at n (record_in s u row) first hi) = omega (arith, m.number, no_count n (record_in s u row) m.before i hi h) in
      e ∙ rw (cuts s u row n lo hi first w).rest

-- ---- the entries before the i-th record are measured
pub record Measured (s u row : List ℕ) (n first hi : ℕ) (keys notes previous : List ℕ) (held len i : ℕ) : Type 0 where
  pub holding : Holding s u keys notes previous held
  pub most : i ≤ hi
  pub small : len ≤ 400 * i
  pub sum : len + length (entries_bytes (take held previous) (entries_at n (record_in s u row) i hi)) ≡ length (entries_bytes [] (entries_at n (record_in s u row) first hi))
  pub here : i < hi → layer_in (get_or row i 0) ≡ n

pub measured_none : {s u row keys notes : List ℕ} {n first hi : ℕ} → Ready s u row keys notes first hi → (first < hi → layer_in (get_or row first 0) ≡ n)
    → Measured s u row n first hi keys notes (replicate 256 0) 0 0 first
measured_none r e = record { holding = record { memory = r.memory; slots = r.slots; room = refl; fits = omega arith }; most = r.order; small = omega arith; sum = omega arith; here = e }

module _ {s u row : List ℕ} {n first hi : ℕ} {keys notes previous : List ℕ} {held len i : ℕ}
    (m : Measured s u row n first hi keys notes previous held len i) where
  abbrev f : ℕ → Placed Record
  f = record_in s u row

  pub measured_more : {keys' notes' previous' : List ℕ} {size : ℕ} (k : KeyHeld s u (get_or row i 0) keys' notes' previous' size) (v : Stands s u (get_or row i 0)) (h : i < hi)
      (next : ℕ) (w : Run row n (i + 1) hi next) (linked : Bool) (el : linked ≡ has_page n (next - (i + 1)))
      (more : ℕ) → more ≡ entry_length (take held previous) (record_of_word s u (get_or row i 0)).key linked → more ≤ 400
      → Measured s u row n first hi keys' notes' previous' size (len + more) next
  measured_more {previous' = previous'} {size} k v h next w linked el more en short =
      let b = entry_bytes (entry_after (take held previous) (f i).item.key (link_to (gap_for n (span f (i + 1) (next - (i + 1))))) (f i).item.val) in
      let one : length b ≡ more =
      entry_size n f (i + 1) (next - (i + 1)) (take held previous) (f i).item.key (f i).item.val (ap (λ (x : Record). length x.val) (record_item s u row i) ∙ val_length v)
      ∙ rw (record_item s u row i, ← el) (sym en) in
      let key : take size previous' ≡ (f i).item.key = k.key ∙ ap (λ (x : Record). x.key) (sym (record_item s u row i)) in
      let all : length (entries_bytes (take held previous) (entries_at n f i hi)) ≡ more + length (entries_bytes (take size previous') (entries_at n f next hi)) =
      ap length (bytes_turn n f (take held previous) i hi next h (record_layer s u row i ∙ m.here h) (cuts s u row n (i + 1) hi next w))
      ∙ length-append b (entries_bytes (f i).item.key (entries_at n f next hi)) ∙ rw (one, ← key) in
      record {
        holding = k.holding;
        most = w.to;
        small = omega (arith, m.small, w.from);
        sum = omega (arith, m.sum, all);
        here = w.stop;
      }

  pub measured_fits : (more : ℕ) → more ≤ 400 → hi ≤ 4096 → Fits w64 (len + more)
  measured_fits more h few = omega (arith, m.small, m.most)

  pub measured_all : hi ≤ i → hi ≤ 4096 → EntriesSized (entries_at n f first hi) len
  measured_all h few = record {
    is = omega (arith, m.sum, ap length (no_bytes n f (take held previous) i hi h));
    small = omega (arith, m.small, m.most);
  }
