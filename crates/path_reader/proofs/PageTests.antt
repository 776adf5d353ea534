-- One page of a path.
use Rattle.std.specs.Prelude.{Result, Ok, Err}
use Prim.Native.Nat.{ℕ, zero, suc, ◌+◌, ◌-◌, ◌≤◌}
use mathlib.Core.Path.{◌≡◌, refl, sym, subst, ◌∙◌}
use mathlib.Core.Bool.{Bool, true, false, not}
use mathlib.Core.Option.{none, some}
use mathlib.Core.List.{List, []}
use native.Mathlib.Omega.{arith}
use lib.ListN.{length, take, drop}
use borrow.Author.Tests.{not-true, not-false}
use Rattle.answer.specs.declared.Refusal.{Refusal}
use Rattle.answer.specs.declared.Refusal.TheVariants.{WrongPrefix, UnlawfulKey, KeysNotRising, PageNotDue}
use Rattle.bytestring.specs.Bytes.{Bytes, equal}
use Rattle.fips180.specs.Hash.{sha256}
use Rattle.page.specs.Reading.{read, times}
use Rattle.page.specs.Page.{RawEntry, RawPage, page_bytes, entry, page}
use Rattle.page.proofs.Readers.{read_sub}
use Rattle.page_reader.specs.Place.{read_stop, refusal_of, link_at, PageHere, PageIs}
use Rattle.page_reader.specs.declared.Stop.{Stop}
use Rattle.page_reader.specs.declared.Stop.TheVariants.{EndsEarly, Departs}
use Rattle.page_reader.specs.declared.PageAt.{PageAt}
use Rattle.page_keys.proofs.Entries.{read_stop≢read}
use Rattle.tree.specs.Judge.{due, all_lawful, rising}
use Rattle.tree.specs.OnePage.{prefixes_of, records_in}
use Rattle.path.specs.Verify.{sought_in, stopped, unless, on_page, page_tests, go_on, judge_pages}
use Rattle.path_reader.specs.Judging.{sought_by, SearchWithin, RowJudged, JudgesEntries, JudgesPrefixes, said_in_gap, said_by, from_page, SaidWithin, JudgesPage}
use Rattle.path_reader.specs.declared.entries.Search.{Search}
use Rattle.path_reader.specs.declared.entries.Search.TheVariants.{On, Value, Gap}
use Rattle.path_reader.specs.declared.entries.EntriesJudged.{EntriesJudged}
use Rattle.path_reader.specs.declared.pages.PageSays.{PageSays}
use Rattle.path_reader.specs.declared.pages.PageSays.TheVariants.{Absent, Linked}
use Rattle.page_reader.proofs.Spelling.{page_here, page_ends, page_part, page_first}

-- ---- a page that was read
module _ (path : List ℕ) (at : ℕ) (got : Result PageAt Stop) (w : PageIs path at got) (p : PageAt) (is : got ≡ Ok p) where
  page_here_lem : PageHere path at p
  page_here_lem = subst (PageIs path at) is w

  pub first_within : p.first ≤ length path
  first_within = page_here_lem.start.within

  pub ends_later : at ≤ p.end
  ends_later = omega (arith, page_here_lem.whole.ahead)

  pub end_within : p.end ≤ length path
  end_within = page_here_lem.whole.within

-- ---- prefix lengths
module _ (path : List ℕ) (at : ℕ) where
  module _ (got : Result PageAt Stop) (w : PageIs path at got) where
    pub prefixes_read : (p : PageAt) → got ≡ Ok p → (r : Bool)
        → ((es : List RawEntry) (past : ℕ) → times p.count entry (drop p.first path) ≡ read es (drop past path) → r ≡ prefixes_of [] es)
        → JudgesPrefixes path at false r
    unfolding JudgesPrefixes
    prefixes_read p is r fits raw rest reads says =
        let here = page_here_lem path at got w p is in
        read_sub (λ q _. r ≡ prefixes_of [] q.entries) (sym here.whole.reads ∙ reads) (fits here.row.entries p.past here.row.reads)

    pub prefixes_unread : (stop : Stop) → got ≡ Err stop → JudgesPrefixes path at false true
    unfolding JudgesPrefixes
    prefixes_unread stop is raw rest reads says = absurd (read_stop≢read stop (sym (subst (PageIs path at) is w) ∙ reads))

  module _ (told : Bool) where
    pub prefixes_told : told ≡ true → JudgesPrefixes path at told true
    unfolding JudgesPrefixes
    prefixes_told q raw rest reads says = sym (says q)

    pub prefixes_untold : told ≡ false → (r : Bool) → JudgesPrefixes path at false r → JudgesPrefixes path at told r
    prefixes_untold q r again = rw q again

-- ---- what the search says
pub gap_ends : (link end : ℕ) → link ≡ 0 → Absent end ≡ said_in_gap link end
unfolding said_in_gap
gap_ends link end e = rw e

pub gap_linked : (link end : ℕ) → (link ≡ 0 → ⊥) → Linked link end ≡ said_in_gap link end
unfolding said_in_gap
gap_linked zero end f = absurd (f refl)
gap_linked (suc before) end f = refl

pub said_is : (search x : Search) (end : ℕ) → search ≡ x → (r : PageSays) → r ≡ said_by x end → r ≡ said_by search end
said_is search x end q r e = rw q e

-- what the path says from there on
from_said : (path key : List ℕ) (depth end : ℕ) (search : Search)
    → go_on (sought_by path search) (drop end path) (λ next. judge_pages depth key next end (drop end path)) ≡ from_page path key depth (Ok (said_by search end))
unfolding link_at go_on said_in_gap
from_said path key depth end (On zero) = refl
from_said path key depth end (On (suc before)) = refl
from_said path key depth end (Value value) = refl
from_said path key depth end (Gap zero) = refl
from_said path key depth end (Gap (suc before)) = refl

said_within : (path : List ℕ) (end : ℕ) (search : Search) → SearchWithin path search → SaidWithin path (Ok (said_by search end))
unfolding said_in_gap
said_within path end (On zero) h = tt
said_within path end (On (suc before)) h = h (omega arith)
said_within path end (Value value) h = h
said_within path end (Gap zero) h = tt
said_within path end (Gap (suc before)) h = h (omega arith)

-- ---- the tests of a page
-- a page that cannot be read
path_stopped : (path : List ℕ) (at : ℕ) (key digest : List ℕ) (depth : ℕ) (stop : Stop) → page (drop at path) ≡ read_stop stop
    → judge_pages (suc depth) key digest at (drop at path) ≡ stopped (refusal_of stop)
unfolding judge_pages on_page
path_stopped path at key digest depth EndsEarly e = rw e
path_stopped path at key digest depth Departs e = rw e

module _ (path : List ℕ) (at : ℕ) (key digest : List ℕ) (got : Result PageAt Stop) (w : PageIs path at got) where
  pub page_stopped : (stop : Stop) → got ≡ Err stop → (r : Refusal) → r ≡ refusal_of stop → JudgesPage path at key digest (Err r)
  page_stopped stop is r e = rw e (record { says = λ depth. path_stopped path at key digest depth stop (subst (PageIs path at) is w); within = tt })

  module _ (slice : Bytes path) (p : PageAt) (is : got ≡ Ok p) where
    here : PageHere path at p
    here = page_here_lem path at got w p is

    abbrev es : List RawEntry
    es = here.row.entries

    abbrev raw : RawPage
    raw = page_here slice here

    -- the tests decide, and then the search
    from_page_lem : (depth : ℕ) → judge_pages (suc depth) key digest at (drop at path)
        ≡ unless (due (page_tests digest raw))
        (go_on (sought_in key at raw) (drop p.end path) (λ next. judge_pages depth key next (at + length (page_bytes raw)) (drop p.end path)))
    unfolding judge_pages on_page
    from_page_lem depth = rw here.whole.reads

    refused : (r : Refusal) → due (page_tests digest raw) ≡ some r → JudgesPage path at key digest (Err r)
    unfolding unless
    refused r e = record { says = λ depth. from_page_lem depth ∙ rw e; within = tt }

    -- its entries were judged, and its prefix lengths
    module _ (judged : EntriesJudged) (says : JudgesEntries path p.first p.count p.left key judged)
        (right : Bool) (prefixes : JudgesPrefixes path at judged.prefixes right) where
      row : RowJudged path p.first p.left key es judged
      unfolding JudgesEntries
      row = says es p.past here.row.reads

      prefixes_are : right ≡ prefixes_of [] es
      unfolding JudgesPrefixes
      prefixes_are = prefixes raw (drop p.end path) here.whole.reads row.prefixes

      pub wrong_prefix : not right ≡ true → JudgesPage path at key digest (Err WrongPrefix)
      unfolding page_tests due
      wrong_prefix f = refused WrongPrefix (rw (← prefixes_are, not-true right f))

      module _ (f : not right ≡ false) where
        rights : prefixes_of [] es ≡ true
        rights = sym prefixes_are ∙ not-false right f

        pub unlawful_key : not judged.lawful ≡ true → JudgesPage path at key digest (Err UnlawfulKey)
        unfolding page_tests due
        unlawful_key g = refused UnlawfulKey (rw (rights, ← row.lawful, not-true judged.lawful g))

        module _ (g : not judged.lawful ≡ false) where
          lawfuls : all_lawful (records_in [] es) ≡ true
          lawfuls = sym row.lawful ∙ not-false judged.lawful g

          rising_is : judged.rising ≡ rising (records_in [] es)
          rising_is = row.rising rights lawfuls

          pub not_rising : not judged.rising ≡ true → JudgesPage path at key digest (Err KeysNotRising)
          unfolding page_tests due
          not_rising h = refused KeysNotRising (rw (rights, lawfuls, ← rising_is, not-true judged.rising h))

          module _ (h : not judged.rising ≡ false) (d : List ℕ) (hash : d ≡ sha256 (take (p.end - at) (drop at path)))
              (same : Bool) (compared : same ≡ equal d digest) where
            rises : rising (records_in [] es) ≡ true
            rises = sym rising_is ∙ not-false judged.rising h

            same_is : equal (sha256 (page_bytes raw)) digest ≡ same
            same_is = rw (page_part slice here, ← hash) (sym compared)

            pub not_due : not same ≡ true → JudgesPage path at key digest (Err PageNotDue)
            unfolding page_tests due
            not_due q = refused PageNotDue (rw (rights, lawfuls, rises, same_is, not-true same q))

            none_due : not same ≡ false → due (page_tests digest raw) ≡ none
            unfolding page_tests due
            none_due q = rw (rights, lawfuls, rises, same_is, not-false same q)

            sought : sought_in key at raw ≡ sought_by path judged.search
            unfolding sought_in
            sought = rw (← page_first slice here) (row.sought lawfuls)

            pub page_said : not same ≡ false → (r : PageSays) → r ≡ said_by judged.search p.end → JudgesPage path at key digest (Ok r)
            unfolding unless
            page_said q r e = rw e (record {
              says = λ depth. from_page_lem depth ∙ rw (none_due q, sought, ← page_ends slice here) (from_said path key depth p.end judged.search);
              within = said_within path p.end judged.search (row.within lawfuls (λ z. omega (arith, here.left z, here.whole.within)));
            })
