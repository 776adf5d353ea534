-- What the parts of the reading note of a sequence.
use Rattle.std.specs.Prelude.{ℕ, ◌+◌, ◌≤◌, ◌<◌, ◌≡◌, List, [], ◌++◌, map, length, take, drop, get_or}
use Rattle.std.proofs.Math.Option.{none}
use Rattle.value.specs.Value.{digest_length, digest_in}
use Rattle.page.specs.Reading.{read, times}
use Rattle.page.specs.Page.{RawEntry, entry, RawPage}
use Rattle.page_reader.specs.Place.{link_at}
use Rattle.states.specs.Pages.{link_list, links_after}

-- As far as there is room, the first m words are the places of these digests.
pub record LinksNoted (s links : List ℕ) (m : ℕ) (digests : List (List ℕ)) : Type 0 where
  pub count : length digests ≡ m
  pub stand : m ≤ length links → map (digest_in s) (take m links) ≡ digests
  pub within : m ≤ length links → (i : ℕ) → i < m → get_or links i 0 + digest_length ≤ length s

-- A link was noted after others, or none where the place is 0.
unfoldable pub LinkNoted : List ℕ → ℕ → ℕ → List ℕ → ℕ → Type 0
LinkNoted links at m links' m' =
    (s : List ℕ) (digests : List (List ℕ)) → (0 < at → at + digest_length ≤ length s) → LinksNoted s links m digests
    → LinksNoted s links' m' (digests ++ link_list (link_at s at))

-- The links after the n entries from `first` on were noted after others.
unfoldable pub EntriesNoted : List ℕ → ℕ → ℕ → List ℕ → ℕ → List ℕ → ℕ → Type 0
EntriesNoted s first n links m links' m' =
    (es : List RawEntry) (past : ℕ) → times n entry (drop first s) ≡ read es (drop past s)
    → (digests : List (List ℕ)) → LinksNoted s links m digests → LinksNoted s links' m' (digests ++ links_after es)

-- The page with no entries and no links.
unfoldable pub blank_page : RawPage
blank_page = record { entries = []; left = none }
