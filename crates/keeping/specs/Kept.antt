-- The pages that are kept of filed pages, and those of a register to be saved, written in one sequence.
use Rattle.keeping.specs.declared.Unkept.{Unkept}
use Rattle.keeping.specs.declared.Unkept.TheVariants.{Short, Shared}
use Rattle.std.specs.Prelude.{ℕ, suc, ◌^◌, ◌≤◌, ◌<◌, ◌≡◌, true, false, cond, List, [], ◌∷◌, length, get_or, eqb, Result, Ok, Err}
use Rattle.bytestring.specs.Bytes.{front}
use Rattle.limits.specs.Limits.{longest}
use Rattle.fips180.specs.Hash.{sha256}
use Rattle.key.specs.Key.{less}
use Rattle.page.specs.Reading.{read, concat}
use Rattle.page.specs.Page.{RawPage, page_bytes}
use Rattle.tree.specs.Record.{Record}
use Rattle.states.specs.Pages.{sequence, filed, all_apart}
use Rattle.links.specs.Links.{digest_named, AllName, Rising}
use Rattle.filing.specs.Filed.{bytes_at, link_named}
use Rattle.staging.specs.Pages.{PageWords}

-- The pages of a sequence p and their labels. The words of pages are not at hand here (their row is used for the register's pages):
-- a page begins where the one before it ends.
pub record LabelledPages (s p labels : List ℕ) (n : ℕ) (raws : List RawPage) : Type 0 where
  pub reads : sequence p ≡ read raws []
  pub number : length raws ≡ n
  pub short : length p ≤ longest
  pub room : n ≤ length labels
  pub names : AllName s p [] labels n
  pub digests : (i : ℕ) → i < n → link_named s p (get_or labels i 0) ≡ sha256 (bytes_at raws i)
  pub order : Rising (link_named s p) labels n

-- The pages that are kept, from the i-th on: a row of marks has 1 for each of them.
unfoldable pub kept_from : List ℕ → ℕ → List RawPage → List (List ℕ)
kept_from marks i [] = []
kept_from marks i (p ∷ ps) =
    let later : List (List ℕ) = kept_from marks (suc i) ps in
    cond (eqb (get_or marks i 0) 1) (page_bytes p ∷ later) later

-- Pages in one sequence, each distinct page once in ascending order of digest.
unfoldable pub sequence_of : List (List ℕ) → List ℕ
sequence_of ps = concat (λ (r : Record). r.val) (filed ps)

-- The words of the register's pages do not fall in order of digest.
abbrev pub InOrder : List ℕ → List ℕ → List ℕ → List ℕ → ℕ → Type 0
InOrder root register chains words m =
    (j : ℕ) → suc j < m
    → less (digest_named root register chains (get_or words (suc j) 0)) (digest_named root register chains (get_or words j 0)) ≡ false

-- What is to be merged: n filed pages, and m words of the register's pages in order of digest.
pub record ToKeep (s p labels marks : List ℕ) (n : ℕ) (root register : List ℕ) (rootEnd : ℕ) (chains words : List ℕ) (m : ℕ) : Type 0 where
  pub filed : (raws : List RawPage) × LabelledPages s p labels n raws
  pub mark_room : n ≤ length marks
  pub saved : (qs : List (List ℕ)) × PageWords root register rootEnd chains words m qs
  pub order : InOrder root register chains words m
  pub short : length register ≤ longest
  pub few_pages : n ≤ 2 ^ 24
  pub few_words : m ≤ 2 ^ 24

-- The sequence stands at the front of the output; or the output is too short; or two unequal pages share a digest.
abbrev pub SequenceWritten : List (List ℕ) → List ℕ → Result ℕ Unkept → List ℕ → Type 0
SequenceWritten ps out (Ok k) out' = (all_apart ps ≡ true) × (k ≡ length (sequence_of ps)) × (out' ≡ front (sequence_of ps) out)
SequenceWritten ps out (Err Short) out' = (all_apart ps ≡ true) × (length out < length (sequence_of ps)) × (length out' ≡ length out)
SequenceWritten ps out (Err Shared) out' = (all_apart ps ≡ false) × (length out' ≡ length out)
