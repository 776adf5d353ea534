-- Entries of a page, read one by one.
use Rattle.std.specs.Prelude.{Result, Ok, Err}
use Prim.Native.Nat.{ℕ, suc, ◌+◌, ◌-◌, ◌≤◌, ◌<◌}
use mathlib.Core.Path.{◌≡◌, refl, sym, subst, ◌∙◌}
use mathlib.Core.List.{List, [], ◌∷◌}
use native.Mathlib.Omega.{arith}
use lib.ListN.{length, drop, length-take, length-drop}
use Rattle.bytestring.proofs.Tools.{bytes_drop}
use Rattle.bytestring.specs.Bytes.{Bytes}
use Rattle.page.specs.Reading.{read, and_then, times}
use Rattle.page.specs.Page.{RawEntry, entry}
use Rattle.page_reader.specs.Place.{read_stop, entry_at, EntryHere, EntryIs}
use Rattle.page_reader.specs.declared.Stop.{Stop}
use Rattle.page_reader.specs.declared.Stop.TheVariants.{EndsEarly, Departs}
use Rattle.page_reader.specs.declared.EntryAt.{EntryAt}
use Rattle.page.proofs.Readers.{ends_early≢read, departs≢read, read_sub, andThen-inv}
use Rattle.page_reader.proofs.Places.{then_stops}
use Rattle.page.proofs.Pages.{GoodEntry, entry_spells}

-- ---- what was read is no stop
pub read_stop≢read : {A : Type 0} (stop : Stop) {a : A} {t : List ℕ} → read_stop stop ≡ read a t → ⊥
read_stop≢read EndsEarly e = ends_early≢read e
read_stop≢read Departs e = departs≢read e

-- ---- one entry, where it stands
module _ (s : List ℕ) (at : ℕ) (m : Result EntryAt Stop) (w : EntryIs s at m) (e : EntryAt) (q : m ≡ Ok e) where
  entry_here : EntryHere s at e
  entry_here = subst (EntryIs s at) q w

  pub entry_inside : e.remainder + e.size ≤ length s
  entry_inside = omega (arith, entry_here.inside, entry_here.whole.within)

  module _ (b : Bytes s) where
    good : GoodEntry (entry_at s e)
    good = (entry_spells.back (drop at s) (drop e.end s) (entry_at s e) (bytes_drop at s b) entry_here.whole.reads).1

    pub shares_small : e.shares < 65536
    shares_small = good.shares

    pub size_small : e.size < 65536
    size_small = omega (arith, good.remainder, length-take e.size (drop e.remainder s), length-drop e.remainder s, entry_inside)

-- ---- a row of n entries of which i were read
module _ (s : List ℕ) (n i at past : ℕ) (l : List RawEntry) (reads : times (n - i) entry (drop at s) ≡ read l (drop past s)) where
  pub row_ends : n ≤ i → l ≡ []
  unfolding times
  row_ends h =
      let none_left : n - i ≡ 0 = omega arith in
      let y : read [] (drop at s) ≡ read l (drop past s) = rw none_left at reads in
      read_sub (λ k _. k ≡ []) y refl

  module _ (h : i < n) (m : Result EntryAt Stop) (w : EntryIs s at m) where
    entry_next : and_then (entry (drop at s)) (λ a t. and_then (times (n - (i + 1)) entry t) (λ k v. read (a ∷ k) v)) ≡ read l (drop past s)
    unfolding times
    entry_next = let one_less : n - i ≡ suc (n - (i + 1)) = omega arith in rw one_less at reads

    pub row_goes_on : (stop : Stop) → m ≡ Err stop → ⊥
    row_goes_on stop q = read_stop≢read stop (sym (then_stops _ stop (subst (EntryIs s at) q w)) ∙ entry_next)

    -- the entries behind the one that was read
    pub row_behind : (e : EntryAt) → m ≡ Ok e
        → (k : List RawEntry) × (l ≡ entry_at s e ∷ k) × (times (n - (i + 1)) entry (drop e.end s) ≡ read k (drop past s))
    row_behind e q =
        let x : EntryHere s at e = subst (EntryIs s at) q w in
        andThen-inv (times (n - (i + 1)) entry (drop e.end s))
        (λ k t f g. read_sub (λ j v. (k : List RawEntry) × (j ≡ entry_at s e ∷ k) × (times (n - (i + 1)) entry (drop e.end s) ≡ read k v)) g (k, refl, f))
        (rw x.whole.reads at entry_next)
