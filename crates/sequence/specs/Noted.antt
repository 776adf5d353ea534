-- A sequence of pages that was read: where its pages stand, and where the digests of their links.
use Rattle.page_reader.specs.declared.Stop.{Stop}
use Rattle.std.specs.Prelude.{ℕ, suc, ◌+◌, ◌≤◌, ◌<◌, ◌≡◌, List, [], ◌∷◌, ◌++◌, map, length, take, get_or, Result, Ok, Err}
use Rattle.value.specs.Value.{digest_length, digest_in}
use Rattle.page.specs.Reading.{read}
use Rattle.page.specs.Page.{RawPage, page}
use Rattle.page_reader.specs.Place.{Reads, read_stop}
use Rattle.states.specs.Pages.{sequence, link_list, links_after}

-- The digests of a page's links in the order of their places: those after entries, then that of the left link, which ends the page.
unfoldable pub links_by_place : RawPage → List (List ℕ)
links_by_place p = links_after p.entries ++ link_list p.left

unfoldable pub links_of_all : List RawPage → List (List ℕ)
links_of_all [] = []
links_of_all (p ∷ ps) = links_by_place p ++ links_of_all ps

-- The words of a row from the i-th on are the places of these pages, which stand one after the other from a place to the end of s.
unfoldable pub PagesFrom : List ℕ → List ℕ → ℕ → ℕ → List RawPage → Type 0
PagesFrom s words i at [] = at ≡ length s
PagesFrom s words i at (p ∷ ps) = (get_or words i 0 ≡ at) × ((to : ℕ) × Reads page s at p to × PagesFrom s words (suc i) to ps)

-- What is noted of a sequence: as far as there is room, the places of its n pages, and of the digests of its m links.
pub record SequenceNoted (s links pages : List ℕ) (n m : ℕ) : Type 0 where
  pub raws : List RawPage
  pub reads : sequence s ≡ read raws []
  pub number : length raws ≡ n
  pub count : length (links_of_all raws) ≡ m
  pub digests : m ≤ length links → map (digest_in s) (take m links) ≡ links_of_all raws
  pub within : m ≤ length links → (i : ℕ) → i < m → get_or links i 0 + digest_length ≤ length s
  pub places : n ≤ length pages → PagesFrom s pages 0 0 raws

abbrev pub SequenceSays : List ℕ → Result (ℕ × ℕ) Stop → List ℕ → List ℕ → Type 0
SequenceSays s (Ok (n, m)) links pages = SequenceNoted s links pages n m
SequenceSays s (Err stop) links pages = sequence s ≡ read_stop stop
