-- The entries of a page, by the start of the page.
use Rattle.std.specs.Prelude.{Result, Ok, Err}
use Prim.Native.Nat.{ℕ, suc, ◌+◌, ◌-◌}
use mathlib.Core.Path.{◌≡◌, refl, sym, ap, subst, ◌∙◌}
use mathlib.Core.List.{List, [], ◌∷◌}
use native.Mathlib.Omega.{arith}
use lib.ListN.{length, drop}
use lib.Seq.{drop-drop, drop-append_seam}
use Rattle.bytestring.specs.Bytes.{Bytes}
use Rattle.bytestring.proofs.Tools.{bytes_drop}
use Rattle.page.specs.Reading.{Read, read, and_then, exactly, times, concat}
use Rattle.page.specs.Number.{array, number}
use Rattle.page.specs.Page.{gap, RawEntry, entry_bytes, entry, RawPage, page}
use Rattle.page.proofs.Readers.{read_sub, andThen-inv, times_spells}
use Rattle.page.proofs.Pages.{before_entries, before_left, entry_spells}
use Rattle.page_reader.specs.Place.{Reads, NumberIs, page_start}
use Rattle.page_reader.specs.declared.Stop.{Stop}
use Rattle.page_reader.proofs.PagePlaces.{steps, reads_then, count_stopped}
use Rattle.page_keys.proofs.Entries.{read_stop≢read}
use Rattle.tree_keys.specs.Inner.{OwnFirst, PageFirst}
use Rattle.tree_keys.specs.declared.KeyAt.{KeyAt}
use Rattle.tree_keys.proofs.Firsts.{nowhere}

abbrev with_left : List RawEntry → List ℕ → Read RawPage
with_left es t = and_then (exactly before_left t) (λ _ u. and_then (gap u) (λ g v. read (record { entries = es; left = g }) v))

page_steps : (t : List ℕ) → page t ≡ and_then (page_start t) (λ n u. and_then (times n entry u) with_left)
unfolding page
page_steps t = steps before_entries (number array) (λ n u. and_then (times n entry u) with_left) t

module _ (p : List ℕ) (at : ℕ) (got : Result (ℕ × ℕ) Stop) (w : NumberIs page_start p at got) where
  -- no page is read there
  pub start_lost : (stop : Stop) → got ≡ Err stop → (raw : RawPage) (to : ℕ) → Reads page p at raw to → ⊥
  start_lost stop q raw to r = read_stop≢read stop (sym (count_stopped p at got w stop q) ∙ r.reads)

  pub first_not_there : (stop : Stop) → got ≡ Err stop → PageFirst p at nowhere
  first_not_there stop q = record {
    within = omega arith;
    remainder = λ raw to r e es f. absurd (start_lost stop q raw to r);
  }

  module _ (count first : ℕ) (q : got ≡ Ok (count, first)) (b : Bytes p) where
    -- a page's entries are read from the place of the first on
    pub page_row : (raw : RawPage) (to : ℕ) → Reads page p at raw to → (past : ℕ) × (times count entry (drop first p) ≡ read raw.entries (drop past p))
    page_row raw to r =
        andThen-inv (times count entry (drop first p))
        (λ es t h.
        andThen-inv (exactly before_left t) (λ _ u h₁.
        andThen-inv (gap u) (λ g v h₂ same.
        let spelt = ((times_spells entry_spells count).back (drop first p) t es (bytes_drop first p b) h).0 in
        let size = length (concat entry_bytes es) in
        let rest : t ≡ drop (first + size) p = sym (drop-append_seam (concat entry_bytes es) t) ∙ ap (drop size) (sym spelt) ∙ drop-drop size first p in
        let entries : es ≡ raw.entries = read_sub (λ (x : RawPage) _. es ≡ x.entries) same refl in
        (first + size, rw (← entries, ← rest) h))))
        (sym (page_steps (drop at p) ∙ reads_then _ (subst (NumberIs page_start p at) q w)) ∙ r.reads)

    pub first_there : (k : KeyAt) → OwnFirst p first count k → PageFirst p at k
    first_there k o = record {
      within = o.within;
      remainder = λ raw to r e es f.
          let row = page_row raw to r in
          o.remainder e es row.0 (row.1 ∙ ap (λ (l : List RawEntry). read l (drop row.0 p)) f);
    }

-- entries were read where some were due
abbrev None : List RawEntry → Type 0
None [] = Unit {0}
None (e ∷ es) = ⊥

pub some_entries : (count : ℕ) (t : List ℕ) (es : List RawEntry) (u : List ℕ) → (count ≡ 0 → ⊥) → times count entry t ≡ read es u → es ≡ [] → ⊥
unfolding times
some_entries count t es u z r none =
    let one_less : count ≡ suc (count - 1) = omega (arith, z) in
    andThen-inv (entry t)
    (λ a v h. andThen-inv (times (count - 1) entry v) (λ l x h₂ q.
    read_sub (λ (k : List RawEntry) _. None k → ⊥) q (λ i. i) (rw none tt)))
    (rw one_less at r)
