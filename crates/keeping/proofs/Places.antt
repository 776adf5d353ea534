-- Where the pages of a sequence begin and end.
use Prim.Native.Nat.{ℕ, suc, ◌+◌, ◌-◌, ◌<◌}
use mathlib.Core.Path.{◌≡◌, refl, sym, ap, ◌∙◌}
use mathlib.Core.Bool.{false}
use mathlib.Core.List.{List, [], ◌∷◌}
use native.Mathlib.Omega.{arith}
use native.Mathlib.Numerals.{add-one}
use lib.ListN.{length, take, drop, get_or}
use lib.Seq.{drop-cons}
use Rattle.bytestring.specs.Bytes.{Bytes}
use Rattle.page.specs.Reading.{read}
use Rattle.page.specs.Page.{RawPage, page_bytes, page}
use Rattle.page.proofs.Readers.{read_sub, andThen-inv, ends_early≢read, departs≢read}
use Rattle.page.proofs.Pages.{page_spells}
use Rattle.page_reader.specs.Place.{PageHere, read_stop}
use Rattle.page_reader.specs.declared.Stop.{Stop}
use Rattle.page_reader.specs.declared.Stop.TheVariants.{EndsEarly, Departs}
use Rattle.page_reader.specs.declared.PageAt.{PageAt}
use Rattle.page_reader.proofs.Spelling.{reads_part}
use Rattle.states.specs.Pages.{sequence}
use Rattle.sequence.proofs.Sequences.{sequence_none, sequence_next}
use Rattle.filing.specs.Filed.{no_page, bytes_at, link_named}
use Rattle.keeping.specs.Kept.{LabelledPages}
use Rattle.keeping.specs.Inner.{PartStands, PageBegins, FirstPage, PastPage}

-- ---- the first page of a sequence, and the others
abbrev FirstAndRest : List ℕ → RawPage → List RawPage → List ℕ → Type 0
FirstAndRest s raw raws rest = (t : List ℕ) × (page s ≡ read raw t) × (sequence t ≡ read raws rest)

abbrev FirstRead : List ℕ → List RawPage → List ℕ → Type 0
FirstRead s [] rest = ⊥
FirstRead s (raw ∷ raws) rest = FirstAndRest s raw raws rest

first_read : (s : List ℕ) (raw : RawPage) (raws : List RawPage) → sequence s ≡ read (raw ∷ raws) [] → FirstAndRest s raw raws []
first_read [] raw raws e =
    let none : length (raw ∷ raws) ≡ 0 = read_sub (λ (l : List RawPage) _. length l ≡ 0) (sym sequence_none ∙ e) refl in
    absurd (omega (arith, none))
first_read (b ∷ s) raw raws e =
    andThen-inv (page (b ∷ s)) (λ p t h.
    andThen-inv (sequence t) (λ ps u k z. read_sub (FirstRead (b ∷ s)) z (t, h, k)))
    (sym (sequence_next (b ∷ s) (omega arith)) ∙ e)

module _ (p : List ℕ) (at : ℕ) where
  pub past_read_page : Bytes p → (x : PageAt) → PageHere p at x → PastPage p at x.end
  past_read_page b x here raw raws e =
      let first = first_read (drop at p) raw raws e in
      let same = sym here.whole.reads ∙ first.1 in
      record {
        ahead = here.whole.ahead;
        within = here.whole.within;
        part = read_sub (λ (y : RawPage) _. take (x.end - at) (drop at p) ≡ page_bytes y) same (sym (reads_part page_spells b here.whole));
        others = read_sub (λ _ (t : List ℕ). sequence t ≡ read raws []) (sym same) first.2;
      }

  pub no_page_there : (stop : Stop) → page (drop at p) ≡ read_stop stop → (to : ℕ) → PastPage p at to
  no_page_there EndsEarly q to raw raws e = absurd (ends_early≢read (sym q ∙ (first_read (drop at p) raw raws e).1))
  no_page_there Departs q to raw raws e = absurd (departs≢read (sym q ∙ (first_read (drop at p) raw raws e).1))

-- ---- the next page
pub sequence_start : (p : List ℕ) → PageBegins p 0 0
sequence_start p raws e = e

module _ {s p labels : List ℕ} {n : ℕ} {raws : List RawPage} (f : LabelledPages s p labels n raws)
    {i at to : ℕ} (h : i < n) (begins : PageBegins p i at) (past : PastPage p at to) where
  numbered_page : (l : List RawPage) → sequence p ≡ read l [] → FirstPage p at (get_or l i no_page) (drop (suc i) l) to
  numbered_page l e =
      let number : length l ≡ n = read_sub (λ (x : List RawPage) _. length x ≡ n) (sym f.reads ∙ e) f.number in
      past (get_or l i no_page) (drop (suc i) l)
      (begins l e ∙ ap (λ (x : List RawPage). read x []) (drop-cons l i no_page (omega (arith, number))))

  pub following_begins : PageBegins p (i + 1) to
  following_begins l e = rw (add-one i) (numbered_page l e).others

  pub page_stands : (digest : List ℕ) → digest ≡ link_named s p (get_or labels i 0)
      → PartStands p (record { saved = false; from = at; to = to; digest = digest }) (bytes_at raws i)
  page_stands digest d =
      let first = numbered_page raws f.reads in
      record {
        places = record { rises = omega (arith, first.ahead); within = first.within; low = omega (arith, first.within, f.short) };
        part = first.part;
        digest = d ∙ f.digests i h;
      }
