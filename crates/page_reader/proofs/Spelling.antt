-- What was read between two places of a slice is what would be written there, and it takes as many bytes.
use Prim.Native.Nat.{ℕ, ◌+◌, ◌-◌, ◌≤◌}
use mathlib.Core.Path.{◌≡◌, sym, ap, ◌∙◌}
use mathlib.Core.List.{List, ◌++◌}
use native.Mathlib.Omega.{arith}
use lib.ListN.{length, take, drop, length-append, length-drop}
use lib.Seq.{take_at}
use Rattle.bytestring.proofs.Tools.{bytes_drop}
use Rattle.bytestring.specs.Bytes.{Bytes}
use Rattle.page.specs.Reading.{read, Reader}
use Rattle.page.specs.Number.{array, number_bytes}
use Rattle.page.specs.Page.{RawPage, page_bytes}
use Rattle.page.proofs.Readers.{Spells, step, exactly_spells, times_spells}
use Rattle.page.proofs.Numbers.{number_spells}
use Rattle.page.proofs.Pages.{before_entries, entry_spells, page_spells}
use Rattle.page_reader.specs.Place.{Reads, link_at, page_start, PageHere}
use Rattle.page_reader.specs.declared.PageAt.{PageAt}

module _ {A : Type 0} {p : Reader A} {bytes : A → List ℕ} {Fine : A → Type 0} (spells : Spells p bytes Fine) where
  module _ (s : List ℕ) (at to : ℕ) (a : A) (slice : Bytes s) (low : at ≤ length s) (high : to ≤ length s) (reads : p (drop at s) ≡ read a (drop to s)) where
    whole : drop at s ≡ bytes a ++ drop to s
    whole = (spells.back (drop at s) (drop to s) a (bytes_drop at s slice) reads).0

    pub read_ends : to ≡ at + length (bytes a)
    read_ends = omega (arith, length-append (bytes a) (drop to s), ap length whole, length-drop at s, length-drop to s)

    pub read_part : bytes a ≡ take (to - at) (drop at s)
    read_part =
        let n : length (bytes a) ≡ to - at = omega (arith, read_ends) in
        sym (ap (take (to - at)) whole ∙ take_at (bytes a) (drop to s) (to - at) n)

  -- the same of what takes at least one byte
  module _ {s : List ℕ} {at : ℕ} {a : A} {to : ℕ} (slice : Bytes s) (r : Reads p s at a to) where
    low : at ≤ length s
    low = omega (arith, r.ahead, r.within)

    pub reads_end : to ≡ at + length (bytes a)
    reads_end = read_ends s at to a slice low r.within r.reads

    pub reads_part : bytes a ≡ take (to - at) (drop at s)
    reads_part = read_part s at to a slice low r.within r.reads

-- ---- a page
start_spells : Spells page_start (λ n. before_entries ++ number_bytes array n) (λ _. Unit {0})
start_spells = record {
  back = λ s rest n b.
      step (exactly_spells before_entries) s b (λ _ t e _ bt q.
      let r = (number_spells array).back t rest n bt q in
      (rw (e, r.0), tt));
}

module _ {s : List ℕ} {at : ℕ} {p : PageAt} (slice : Bytes s) (here : PageHere s at p) where
  abbrev pub page_here : RawPage
  page_here = record { entries = here.row.entries; left = link_at s p.left }

  pub page_ends : p.end ≡ at + length (page_bytes page_here)
  page_ends = reads_end page_spells slice here.whole

  pub page_part : page_bytes page_here ≡ take (p.end - at) (drop at s)
  page_part = reads_part page_spells slice here.whole

  pub page_count : length here.row.entries ≡ p.count
  page_count = ((times_spells entry_spells p.count).back _ _ here.row.entries (bytes_drop p.first s slice) here.row.reads).1.1

  pub page_first : p.first ≡ at + (3 + length (number_bytes array (length here.row.entries)))
  page_first = rw page_count (omega (arith, reads_end start_spells slice here.start))
