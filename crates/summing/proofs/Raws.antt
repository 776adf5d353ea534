-- A filed page, as it was read where its word says.
use Rattle.std.specs.Prelude.{Result, Ok, Err}
use Prim.Native.Nat.{ℕ, zero, suc, ◌<◌}
use mathlib.Core.Path.{◌≡◌, refl, sym, ap, subst, ◌∙◌}
use mathlib.Core.Option.{none, none-ne-some}
use mathlib.Core.List.{List, [], ◌∷◌}
use native.Mathlib.Omega.{arith}
use lib.ListN.{length, drop, get_or}
use Rattle.bytestring.specs.Bytes.{Bytes}
use Rattle.fips180.specs.Hash.{sha256}
use Rattle.page.specs.Reading.{Reader, read, times}
use Rattle.page.specs.Page.{RawEntry, entry, RawPage, page}
use Rattle.page.proofs.Readers.{read_sub, andThen-inv}
use Rattle.page_reader.specs.Place.{Reads, link_at, entry_at, EntryHere, PageHere, PageIs}
use Rattle.page_reader.specs.declared.Stop.{Stop}
use Rattle.page_reader.specs.declared.EntryAt.{EntryAt}
use Rattle.page_reader.specs.declared.PageAt.{PageAt}
use Rattle.page_reader.proofs.Located.{entry_place}
use Rattle.page_keys.proofs.Entries.{read_stop≢read}
use Rattle.summaries.specs.Summary.{summary_of_page}
use Rattle.filing.specs.Filed.{page_place, no_page, bytes_at}
use Rattle.tree_keys.proofs.Firsts.{same_page}
use Rattle.summing.specs.Inner.{raws_in, tree_under, Underway}
use Rattle.summing.proofs.Pages.{summary_is}

-- ---- entries
times_length : {A : Type 0} (q : Reader A) (n : ℕ) (s t : List ℕ) (xs : List A) → times n q s ≡ read xs t → length xs ≡ n
unfolding times
times_length {A} q zero s t xs h = read_sub (λ (l : List A) _. length l ≡ 0) h refl
times_length {A} q (suc n) s t xs h =
    andThen-inv (q s) (λ a u _ g. andThen-inv (times n q u) (λ l v r k.
    read_sub (λ (m : List A) _. length m ≡ suc n) k (ap suc (times_length q n u v l r))) g) h

-- the first of some entries, and those behind it
module _ (p : List ℕ) (at m : ℕ) (l : List RawEntry) (rest : List ℕ) (reads : times (suc m) entry (drop at p) ≡ read l rest) where
  pub entry_there : Bytes p → (a : RawEntry) × ((to : ℕ) × Reads entry p at a to)
  unfolding times
  entry_there b = andThen-inv (entry (drop at p)) (λ a t h _. (a, (_, entry_place p at a t b h))) reads

  pub entry_behind : (e : EntryAt) → EntryHere p at e
      → (later : List RawEntry) × (l ≡ entry_at p e ∷ later) × (times m entry (drop e.end p) ≡ read later rest)
  unfolding times
  entry_behind e here =
      andThen-inv (times m entry (drop e.end p))
      (λ k t f g.
      read_sub (λ (j : List RawEntry) (v : List ℕ). (later : List RawEntry) × (j ≡ entry_at p e ∷ later) × (times m entry (drop e.end p) ≡ read later v)) g (k, refl, f))
      (rw here.whole.reads at reads)

-- ---- links
pub link_none : (p : List ℕ) (link : ℕ) → link_at p link ≡ none → link ≡ 0
unfolding link_at
link_none p zero e = refl
link_none p (suc before) e = absurd (none-ne-some _ (sym e))

-- ---- the page
module _ {s p labels pages counts : List ℕ} {n : ℕ} {keys tags last : List ℕ} {i : ℕ} (under : Underway s p labels pages counts n keys tags last) (h : i < n)
    (at : ℕ) (place : at ≡ page_place (get_or pages i 0)) (got : Result PageAt Stop) (w : PageIs p at got) where
  pub page_reads_at : (to : ℕ) × Reads page p at (get_or (raws_in p) i no_page) to
  page_reads_at = let x = under.summings.filed.places i h in (x.0, rw place x.1)

  pub page_stands : (stop : Stop) → got ≡ Err stop → ⊥
  page_stands stop q = read_stop≢read stop (sym (subst (PageIs p at) q w) ∙ page_reads_at.1.reads)

  module _ (pa : PageAt) (q : got ≡ Ok pa) where
    pub page_here_lem : PageHere p at pa
    page_here_lem = subst (PageIs p at) q w

    pub entries_of_lem : List RawEntry
    entries_of_lem = page_here_lem.row.entries

    pub entries_read : times pa.count entry (drop pa.first p) ≡ read entries_of_lem (drop pa.past p)
    unfolding entries_of_lem
    entries_read = page_here_lem.row.reads

    pub entries_none : pa.count ≡ 0 → entries_of_lem ≡ []
    entries_none c = nothing entries_of_lem (times_length entry pa.count (drop pa.first p) (drop pa.past p) entries_of_lem entries_read ∙ c)
      where
        nothing : (l : List RawEntry) → length l ≡ 0 → l ≡ []
        nothing [] e = refl
        nothing (a ∷ l) e = absurd (omega arith)

    pub none_counted : entries_of_lem ≡ [] → pa.count ≡ 0
    none_counted e = sym (times_length entry pa.count (drop pa.first p) (drop pa.past p) entries_of_lem entries_read) ∙ ap length e

    pub raw_is : ◌≡◌ {A = RawPage} (record { entries = entries_of_lem; left = link_at p pa.left }) (get_or (raws_in p) i no_page)
    unfolding entries_of_lem
    raw_is = same_page p at _ _ _ _ page_here_lem.whole page_reads_at.1

    pub summary_of : tree_under p (sha256 (bytes_at (raws_in p) i)) ≡ summary_of_page (tree_under p) (record { entries = entries_of_lem; left = link_at p pa.left })
    summary_of = summary_is under.summings.filed under.bytes i h ∙ ap (summary_of_page (tree_under p)) (sym raw_is)
