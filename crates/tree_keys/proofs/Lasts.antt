-- The last key of a page's own, and the link after it.
use Rattle.std.specs.Prelude.{Result, Ok, Err}
use Prim.Native.Nat.{ℕ, zero, suc, ◌+◌, ◌-◌, ◌≤◌, ◌<◌}
use mathlib.Core.Path.{◌≡◌, refl, sym, ap, subst, ◌∙◌}
use mathlib.Core.Logic.{inl}
use mathlib.Core.Option.{Option, some}
use mathlib.Core.List.{List, [], ◌∷◌, ◌++◌}
use native.Mathlib.Omega.{arith}
use native.Mathlib.Nat.{sub-zero}
use lib.ListN.{length, drop}
use Rattle.bytestring.specs.Bytes.{Bytes}
use Rattle.limits.specs.Limits.{longest_key}
use Rattle.value.specs.Value.{digest_in}
use Rattle.key.proofs.Laws.{lawful_length}
use Rattle.page.specs.Reading.{read, times}
use Rattle.page.specs.Page.{RawEntry, entry, entry_bytes, RawPage}
use Rattle.page.proofs.Readers.{andThen-inv}
use Rattle.page_reader.specs.Place.{Reads, NumberIs, link_at, entry_at, EntryHere, Located, LocatedIs, page_start}
use Rattle.page_reader.specs.declared.Stop.{Stop}
use Rattle.page_reader.specs.declared.EntryAt.{EntryAt}
use Rattle.page_reader.proofs.Located.{entry_place}
use Rattle.tree.specs.OnePage.{key_after}
use Rattle.promises.specs.Promises.{Among}
use Rattle.page_keys.specs.Buffer.{HoldsKey, LastIs, Extended}
use Rattle.page_keys.proofs.Buffers.{holds_none, holds_whole}
use Rattle.page_keys.proofs.Entries.{row_ends, row_behind}
use Rattle.states.specs.Pages.{link_list, links_after}
use Rattle.summaries.specs.Summary.{Summary, Tally, after_entry, after_entries, summary_of_page}
use Rattle.summaries.proofs.Tallies.{entry_taken, then_taken, page_summed}
use Rattle.summaries.proofs.Fixed.{last_key, last_gap, last_gap_lem, last_key_lem}
use Rattle.sequence.specs.Noted.{links_by_place}
use Rattle.tree_keys.specs.Inner.{EndsWith, LinkWithin, LeftIs, LeftGiven, EntriesEndWith, PageEndsWith}
use Rattle.tree_keys.specs.declared.OwnEnd.{OwnEnd}
use Rattle.tree_keys.proofs.Following.{among_part, order_links}
use Rattle.tree_keys.proofs.Firsts.{link_is, no_link_lem}
use Rattle.tree_keys.proofs.Starts.{start_lost, page_row, some_entries}

-- ---- the last key of a page with a summary is lawful, so it has room in the buffer
last_short : (child : List ℕ → Option Summary) (before : List ℕ) (es : List RawEntry) (t u : Tally) → after_entries child before es t ≡ some u
    → length before ≤ longest_key → length (last_key before es) ≤ longest_key
unfolding after_entries
last_short child before [] t u h k = k
last_short child before (e ∷ es) t u h k =
    let x = then_taken (after_entry child before e t) (after_entries child (key_after before e) es) u h in
    let y = entry_taken child before e t x.between x.there in
    last_short child (key_after before e) es x.between u x.after (lawful_length (key_after before e) y.law)

-- ---- the loop over a page's entries
-- The links of a gap and of the entries after it.
abbrev links_from : Option (List ℕ) → List RawEntry → List (List ℕ)
links_from gap es = link_list gap ++ links_after es

-- Entries are left of a row; the key before them is in the buffer, and the link before them at a place.
pub record RowLeft (p : List ℕ) (past n at : ℕ) (last : List ℕ) (size link left : ℕ) (es : List RawEntry) : Type 0 where
  pub rest : List RawEntry
  pub key : List ℕ
  pub reads : times n entry (drop at p) ≡ read rest (drop past p)
  pub holds : HoldsKey last size key
  pub ends : last_key key rest ≡ last_key [] es
  pub gap : last_gap (link_at p link) rest ≡ last_gap (link_at p left) es
  pub links : (d : List ℕ) → Among d (links_from (link_at p link) rest) → Among d (links_from (link_at p left) es)

unfoldable pub SpeltSoFar : List ℕ → ℕ → ℕ → ℕ → ℕ → ℕ → List ℕ → ℕ → ℕ → Type 0
SpeltSoFar p first count left j at last size link =
    (es : List RawEntry) (past : ℕ) → times count entry (drop first p) ≡ read es (drop past p) → RowLeft p past (count - j) at last size link left es

pub spelling_begins : (p : List ℕ) (first count left : ℕ) (last : List ℕ) → SpeltSoFar p first count left 0 first last 0 left
unfolding SpeltSoFar
spelling_begins p first count left last es past r =
    record { rest = es; key = []; reads = rw sub-zero r; holds = holds_none last; ends = refl; gap = refl; links = λ d i. i }

-- the left link as it is given
gap_given : (p : List ℕ) (left : ℕ) (es : List RawEntry) (before : Option (List ℕ)) → LeftGiven p left es before → last_gap before es ≡ last_gap (link_at p left) es
gap_given p left [] before g = g.none_else refl
gap_given p left (e ∷ es) before g = refl

links_given : (p : List ℕ) (left : ℕ) (es : List RawEntry) (before : Option (List ℕ)) → LeftGiven p left es before
    → (d : List ℕ) → Among d (links_from (link_at p left) es) → Among d (links_from before es)
unfolding link_at link_list
links_given p zero es before g d i = (among_part (link_list before) (links_after es) d).1 i
links_given p (suc place) es before g d i = rw (g.given (omega arith)) i

module _ (p : List ℕ) (first count left j at : ℕ) (last : List ℕ) (size link : ℕ) (u : SpeltSoFar p first count left j at last size link) where
  -- all entries are passed
  module _ (h : count ≤ j) (room : length last ≡ longest_key) (es : List RawEntry) (past : ℕ) (r : times count entry (drop first p) ≡ read es (drop past p))
      (before : Option (List ℕ)) (given : LeftGiven p left es before) where
    row : RowLeft p past (count - j) at last size link left es
    unfolding SpeltSoFar
    row = u es past r

    none_left : row.rest ≡ []
    none_left = row_ends p count j at past row.rest row.reads h

    key_is : row.key ≡ last_key [] es
    key_is = ap (last_key row.key) (sym none_left) ∙ row.ends

    gap_is : last_gap before es ≡ link_at p link
    gap_is = gap_given p left es before given ∙ sym row.gap ∙ ap (last_gap (link_at p link)) none_left

    abbrev row_page : RawPage
    row_page = record { entries = es; left = before }

    link_among : (link ≡ 0 → ⊥) → Among (digest_in p link) (links_by_place row_page)
    unfolding link_list
    link_among z =
        order_links row_page (digest_in p link)
        (links_given p left es before given (digest_in p link) (row.links (digest_in p link) (rw (link_is p link z) (inl refl))))

    last_own : (child : List ℕ → Option Summary) (x : Summary) → summary_of_page child row_page ≡ some x → link ≡ 0 → LastIs last size x.last
    last_own child x q z =
        let k = page_summed child row_page x q in
        let short = last_short child [] es k.left k.whole k.entries (omega arith) in
        let same : x.last ≡ last_key [] es = last_key_lem child row_page x q (gap_is ∙ no_link_lem p link z) in
        let fits : size ≤ length last = omega (arith, row.holds.size, ap length key_is) in
        record { room = fits; bytes = holds_whole row.holds fits ∙ key_is ∙ sym same }

    spelt_row : EndsWith p row_page last (record { size = size; link = link })
    spelt_row = record {
      linked = λ z. link_among (λ e. omega arith);
      own = last_own;
      below = λ child x y q z c. last_gap_lem child row_page x q (digest_in p link) y (gap_is ∙ link_is p link (λ e. omega arith)) c;
    }

  pub spelling_ends : count ≤ j → length last ≡ longest_key → EntriesEndWith p first count left last (record { size = size; link = link })
  spelling_ends = spelt_row

  module _ (h : j < count) (b : Bytes p) (got : Result EntryAt Stop) (w : LocatedIs p at got) where
    entry_stands : (l : List RawEntry) (past : ℕ) → times (count - j) entry (drop at p) ≡ read l (drop past p)
        → (a : RawEntry) × Reads entry p at a (at + length (entry_bytes a))
    unfolding times
    entry_stands l past r =
        let one_less : count - j ≡ suc (count - (j + 1)) = omega arith in
        andThen-inv (entry (drop at p)) (λ a t e _. (a, entry_place p at a t b e)) (rw one_less at r)

    pub spelling_stops : (stop : Stop) → got ≡ Err stop → EntriesEndWith p first count left last (record { size = 0; link = 0 })
    unfolding SpeltSoFar
    spelling_stops stop q es past r =
        let x = u es past r in
        let y = entry_stands x.rest past x.reads in
        absurd (subst (LocatedIs p at) q w y.0 _ y.1)

    pub spelling_goes_on : (e : EntryAt) → got ≡ Ok e → (last' : List ℕ) (size' : ℕ)
        → Extended last size p e.shares e.remainder e.size last' size'
        → SpeltSoFar p first count left (j + 1) e.end last' size' e.link
    unfolding SpeltSoFar Extended links_after
    spelling_goes_on e q last' size' extended es past r =
        let x = u es past r in
        let y = entry_stands x.rest past x.reads in
        let here : EntryHere p at e = (subst (LocatedIs p at) q w).here y.0 _ y.1 in
        let z = row_behind p count j at past x.rest x.reads h (Ok e) here e refl in
        record {
          rest = z.0;
          key = key_after x.key (entry_at p e);
          reads = z.2;
          holds = extended x.key x.holds;
          ends = ap (last_key x.key) (sym z.1) ∙ x.ends;
          gap = ap (last_gap (link_at p link)) (sym z.1) ∙ x.gap;
          links = λ d i. x.links d (rw z.1 ((among_part (link_list (link_at p link)) (links_from (link_at p e.link) z.0) d).1 i));
        }

-- the link of a located entry stands within p
module _ (p : List ℕ) (at : ℕ) (got : Result EntryAt Stop) (w : LocatedIs p at got) (e : EntryAt) (q : got ≡ Ok e) where
  found : Located p at e
  found = subst (LocatedIs p at) q w

  pub entry_link_within : LinkWithin p e.link
  entry_link_within z = omega (arith, found.ends.link z, found.ends.value, found.within)

  pub remainder_within : e.remainder + e.size ≤ length p
  remainder_within = omega (arith, found.inside, found.within)

  pub few_shared : e.shares < 65536
  few_shared = found.shares

  pub few_left : e.size < 65536
  few_left = found.size

-- ---- a page at a place
module _ (p : List ℕ) (at : ℕ) (got : Result (ℕ × ℕ) Stop) (w : NumberIs page_start p at got) where
  pub page_end_lost : (last : List ℕ) (r : OwnEnd) (stop : Stop) → got ≡ Err stop → PageEndsWith p at last r
  page_end_lost last r stop q raw to reads = absurd (start_lost p at got w stop q raw to reads)

  module _ (count first : ℕ) (q : got ≡ Ok (count, first)) (b : Bytes p) (last : List ℕ) (r : OwnEnd) where
    -- of a page with entries, whose left link is not given
    pub entries_end : 0 < count → EntriesEndWith p first count 0 last r → PageEndsWith p at last r
    entries_end h v raw to reads =
        let row = page_row p at got w count first q b raw to reads in
        v raw.entries row.0 row.1 raw.left
        (record {
          none_else = λ e. absurd (some_entries count (drop first p) raw.entries (drop row.0 p) (λ z. omega arith) row.1 e);
          given = λ z. absurd (omega arith);
        })

    pub page_end_lem : (left : ℕ) → ((end : ℕ) → LeftIs p at end left) → EntriesEndWith p first count left last r → PageEndsWith p at last r
    page_end_lem left l v raw to reads =
        let row = page_row p at got w count first q b raw to reads in
        let same = sym ((l to).link b raw reads) in
        v raw.entries row.0 row.1 raw.left (record { none_else = λ e. same; given = λ z. same })
