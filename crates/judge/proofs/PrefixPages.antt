-- The prefix lengths of one page.
use Rattle.std.specs.Prelude.{Result, Ok, Err}
use Prim.Native.Nat.{ℕ, ◌≤◌}
use mathlib.Core.Path.{◌≡◌, ap, subst, ◌∙◌}
use mathlib.Core.Bool.{Bool, true}
use mathlib.Core.List.{List, []}
use lib.ListN.{length, drop}
use Rattle.word.specs.Word.{page_in}
use Rattle.page.specs.Reading.{read, times}
use Rattle.page.specs.Page.{RawEntry, RawPage, entry, page}
use Rattle.page_reader.specs.Place.{Reads, PageHere, PageIs}
use Rattle.page_reader.specs.declared.Stop.{Stop}
use Rattle.page_reader.specs.declared.PageAt.{PageAt}
use Rattle.tree.specs.OnePage.{prefixes_of}
use Rattle.index.proofs.Standing.{same_read, read_not_stopped}
use Rattle.judge.specs.Prefixes.{PagePrefixes}

module _ (s : List ℕ) (w at : ℕ) (place : at ≡ page_in w) (got : Result PageAt Stop) (is : PageIs s at got) where
  pub page_starts : (p : PageAt) → got ≡ Ok p → p.first ≤ length s
  page_starts p e = let here : PageHere s at p = subst (PageIs s at) e is in here.start.within

  at_place : (raw : RawPage) (to : ℕ) → Reads page s (page_in w) raw to → Reads page s at raw to
  at_place raw to reads = rw place reads

  pub page_tested : (p : PageAt) → got ≡ Ok p → (r : Bool)
      → ((es : List RawEntry) (past : ℕ) → times p.count entry (drop p.first s) ≡ read es (drop past s) → r ≡ prefixes_of [] es)
      → PagePrefixes s (page_in w) r
  unfolding PagePrefixes
  page_tested p e r says raw to reads =
      let here : PageHere s at p = subst (PageIs s at) e is in
      says here.row.entries p.past here.row.reads ∙ ap (λ (x : RawPage). prefixes_of [] x.entries) (same_read here.whole (at_place raw to reads))

  pub page_not_there : (stop : Stop) → got ≡ Err stop → PagePrefixes s (page_in w) true
  unfolding PagePrefixes
  page_not_there stop e raw to reads = absurd (read_not_stopped (at_place raw to reads) stop (subst (PageIs s at) e is))
