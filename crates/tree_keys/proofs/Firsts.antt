-- The first of some entries, and the left link of a page.
use Rattle.std.specs.Prelude.{Result, Ok, Err}
use Prim.Native.Nat.{ℕ, zero, suc, ◌+◌, ◌-◌}
use mathlib.Core.Path.{◌≡◌, refl, sym, subst, ◌∙◌}
use mathlib.Core.Option.{Option, none, some, none-ne-some}
use mathlib.Core.List.{List, [], ◌∷◌}
use native.Mathlib.Omega.{arith}
use lib.ListN.{length, take, drop}
use Rattle.bytestring.specs.Bytes.{Bytes}
use Rattle.value.specs.Value.{digest_in}
use Rattle.page.specs.Reading.{read, times}
use Rattle.page.specs.Page.{RawEntry, entry_bytes, entry, RawPage, page}
use Rattle.page.proofs.Readers.{read_sub, andThen-inv}
use Rattle.page_reader.specs.Place.{Reads, link_at, LocatedIs}
use Rattle.page_reader.specs.declared.Stop.{Stop}
use Rattle.page_reader.specs.declared.EntryAt.{EntryAt}
use Rattle.page_reader.proofs.Located.{entry_place}
use Rattle.summaries.specs.Summary.{Summary, after_gap, after_entries, then_tally, summed, summed_tally, summary_of_page}
use Rattle.tree_keys.specs.Inner.{OwnFirst}
use Rattle.tree_keys.specs.declared.KeyAt.{KeyAt}

abbrev pub nowhere : KeyAt
nowhere = record { place = 0; size = 0 }

-- ---- the first of some entries
abbrev FirstIs : RawEntry → List RawEntry → Type 0
FirstIs a [] = ⊥
FirstIs a (e ∷ es) = a ≡ e

module _ (p : List ℕ) (first count : ℕ) where
  pub no_entries : count ≡ 0 → OwnFirst p first count nowhere
  unfolding times
  no_entries z = record {
    within = omega arith;
    remainder = λ e es past r.
        let none_read : read [] (drop first p) ≡ read (e ∷ es) (drop past p) = rw z at r in
        absurd (read_sub (λ (l : List RawEntry) _. FirstIs e l → ⊥) none_read (λ i. i) refl);
  }

  module _ (some_left : count ≡ 0 → ⊥) (b : Bytes p) (got : Result EntryAt Stop) (w : LocatedIs p first got) where
    entry_first : (e : RawEntry) (es : List RawEntry) (past : ℕ) → times count entry (drop first p) ≡ read (e ∷ es) (drop past p)
        → (to : ℕ) × Reads entry p first e to
    unfolding times
    entry_first e es past r =
        let one_less : count ≡ suc (count - 1) = omega (arith, some_left) in
        andThen-inv (entry (drop first p))
        (λ a t h. andThen-inv (times (count - 1) entry t) (λ l u h₂ q.
        let same : a ≡ e = read_sub (λ (l : List RawEntry) _. FirstIs a l) q refl in
        (_, subst (λ (x : RawEntry). Reads entry p first x (first + length (entry_bytes a))) same (entry_place p first a t b h))))
        (rw one_less at r)

    pub first_lost : (stop : Stop) → got ≡ Err stop → OwnFirst p first count nowhere
    first_lost stop q = record {
      within = omega arith;
      remainder = λ e es past r. let x = entry_first e es past r in absurd (subst (LocatedIs p first) q w e x.0 x.1);
    }

    pub first_located : (e : EntryAt) → got ≡ Ok e → OwnFirst p first count (record { place = e.remainder; size = e.size })
    first_located e q =
        let l = subst (LocatedIs p first) q w in
        record {
          within = omega (arith, l.inside, l.within);
          remainder = λ a es past r.
              let x = entry_first a es past r in
              let here = l.here a x.0 x.1 in
              read_sub (λ (y : RawEntry) _. take e.size (drop e.remainder p) ≡ y.remainder) (sym here.whole.reads ∙ x.1.reads) refl;
        }

-- ---- a filed page that is read
pub same_page : (p : List ℕ) (at : ℕ) (raw raw' : RawPage) (to to' : ℕ) → Reads page p at raw to → Reads page p at raw' to' → raw ≡ raw'
same_page p at raw raw' to to' r r' = read_sub (λ (x : RawPage) _. raw ≡ x) (sym r.reads ∙ r'.reads) refl

pub link_is : (p : List ℕ) (link : ℕ) → (link ≡ 0 → ⊥) → link_at p link ≡ some (digest_in p link)
unfolding link_at
link_is p zero z = absurd (z refl)
link_is p (suc before) z = refl

pub no_link_lem : (p : List ℕ) (link : ℕ) → link ≡ 0 → link_at p link ≡ none
unfolding link_at
no_link_lem p link z = rw z

-- a page without entries and links has no summary
pub no_summary : (child : List ℕ → Option Summary) (x : Summary) → summary_of_page child (record { entries = []; left = none }) ≡ some x → ⊥
unfolding summary_of_page after_gap then_tally after_entries summed_tally summed
no_summary child x h = none-ne-some _ h
