-- A register gathered from filed pages into an output.
use Rattle.std.specs.Prelude.{ℕ, suc, ◌≤◌, ◌<◌, ◌≡◌, List, length, get_or, Option, Some, None}
use Rattle.bytestring.specs.Bytes.{front}
use Rattle.limits.specs.Limits.{deepest}
use Rattle.fips180.specs.Hash.{sha256}
use Rattle.page.specs.Page.{RawPage}
use Rattle.states.specs.Pages.{gather}
use Rattle.states.specs.States.{bytes_or}
use Rattle.summaries.specs.Summary.{Summary}
use Rattle.filing.specs.Filed.{no_page, bytes_at, pages_by_digest, Filed}
use Rattle.tree_keys.specs.Ends.{SummaryAt}
use Rattle.summing.specs.Summed.{note_at}

-- The bytes gathered from the i-th page.
unfoldable pub gathered_from : List RawPage → ℕ → List ℕ
gathered_from raws i = bytes_or (gather deepest (pages_by_digest raws) (sha256 (bytes_at raws i)))

-- The notes of filed pages, without the counts beside them.
pub record Notes (s p labels pages : List ℕ) (n : ℕ) (raws : List RawPage) : Type 0 where
  pub filed : Filed s p labels pages n raws
  pub layers : (i : ℕ) → i < n → 1 ≤ note_at pages i → note_at pages i ≤ deepest
      → (x : Summary) × SummaryAt raws i x × (suc x.layer ≡ note_at pages i)
  pub alone : (i : ℕ) → i < n → deepest < note_at pages i → get_or raws i no_page ≡ no_page

-- They stand at the front of the output, or it is too short.
abbrev pub WrittenFront : List ℕ → List ℕ → Option ℕ → List ℕ → Type 0
WrittenFront bytes out (Some k) out' = (k ≡ length bytes) × (out' ≡ front bytes out)
WrittenFront bytes out None out' = (length out < length bytes) × (length out' ≡ length out)

abbrev pub GatherSays : List ℕ → List ℕ → List ℕ → List ℕ → ℕ → ℕ → List ℕ → Option ℕ → List ℕ → Type 0
GatherSays s p labels pages n i out r out' =
    (raws : List RawPage) → Notes s p labels pages n raws → 1 ≤ note_at pages i → WrittenFront (gathered_from raws i) out r out'
