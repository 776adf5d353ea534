-- The passes over a whole register.
use Prim.Native.Nat.{ℕ, ◌+◌, ◌≤◌}
use mathlib.Core.Path.{◌≡◌, sym, ap, ◌∙◌}
use mathlib.Core.Bool.{Bool, true, false, not}
use mathlib.Core.List.{List, []}
use native.Mathlib.Omega.{arith}
use lib.ListN.{length, take}
use lib.Seq.{length-take-le, get_or-take}
use borrow.Author.Tests.{not-true, not-false}
use Rattle.bytestring.specs.Bytes.{Bytes}
use Rattle.fips180.specs.Hash.{sha256}
use Rattle.tree.specs.Record.{records}
use Rattle.tree.specs.Table.{SpeltTree, bytes_of_page}
use Rattle.tree.specs.Judge.{accepted, judge}
use Rattle.tree.proofs.Accept.{accepted_table, one_tree}
use Rattle.index.specs.Accepted.{AcceptedIndex, ChainRow}
use Rattle.index.specs.Chain.{Chain, chains as page_chains}
use Rattle.row.proofs.Rows.{word_small}
use Rattle.promises.specs.Pages.{pages_of, known as known_page}
use Rattle.known.specs.Known.{is_among}
use Rattle.opened.specs.Passing.{digests_of, pages_in, flags, open_pages, marked, Room, AllMarked, Staging, SomeStaging, KeptStaged, OpenedStaged}
use Rattle.opened.specs.declared.pass.Opening.{Opening}
use Rattle.known.proofs.ChainRows.{accepted_filled}
use Rattle.opened.proofs.OpenFlags.{closed_flags, closed_pages, opened_count}
use Rattle.opened.proofs.Visits.{Spans, root_spans}
use Rattle.opened.proofs.Digests.{known_labels}
use Rattle.opened.proofs.Parts.{row_chains}

-- ---- the words of the index
pub index_room : (u index : List ℕ) (count : ℕ) → Bytes u → AcceptedIndex u index count → (row : List ℕ) → count ≤ length row → Room (take count index) row
index_room u index count bytes w row h =
    let n = length-take-le count index w.room in
    let small = word_small u index w.tree count bytes w.judged w.indexed w.size w.room in
    record { fits = omega arith; small = λ i k. rw (get_or-take count index i 0 (omega arith)) (small i (omega arith)) }

-- ---- two registers that are accepted
module _ (s known : List ℕ) (n : ℕ) (u chains index : List ℕ) (m count : ℕ) (bytes : Bytes s) (others : Bytes u) (w : ChainRow s known n) (x : ChainRow u chains m)
    (y : AcceptedIndex u index count) (marks : List ℕ) (opens : Bool)
    (all : (t v : SpeltTree) → judge s ≡ accepted t → judge u ≡ accepted v → AllMarked t v marks opens) where
  abbrev t : SpeltTree
  t = w.tree

  abbrev v : SpeltTree
  v = x.tree

  abbrev first : List (List ℕ)
  first = pages_of t

  same : (p : List ℕ) → known_page first p ≡ is_among (digests_of t) (sha256 p)
  same = known_labels t (accepted_table s bytes t w.judged).digests (accepted_filled s bytes t w.judged)

  abbrev taken : AllMarked t v marks opens
  taken = all t v w.judged x.judged

  root_known : known_page first (bytes_of_page v) ≡ is_among (digests_of t) (sha256 (bytes_of_page v))
  root_known = same (bytes_of_page v)

  is_open_lem : not (known_page first (bytes_of_page v)) ≡ opens
  is_open_lem = rw root_known (sym taken.is_open)

  abbrev spans : (k : ℕ) × Spans (digests_of t) 0 (length (records v)) (page_chains 0 0 [] v) (flags first true v) k × (1 + k ≡ open_pages first true v)
  spans = root_spans first (digests_of t) same v (accepted_table u others v x.judged).digests (accepted_filled u others v x.judged)

  words_all : length (take count index) ≡ length (records v)
  words_all =
      length-take-le count index y.room ∙ y.size ∙ ap (λ (z : SpeltTree). length (records z)) (one_tree u y.judged x.judged)

  staging : opens ≡ true → Staging u chains m marks (take count index) (digests_of t) (page_chains 0 0 [] v)
  staging h = record { chained = row_chains u chains m others x; marked = taken.marks h; ordered = rw words_all spans.1.ordered }

  pub may_stage : not opens ≡ false → SomeStaging chains m marks (take count index)
  may_stage h = record { bytes = u; digests = digests_of t; list = page_chains 0 0 [] v; staging = staging (not-false opens h) }

  -- the second's root is known, or it is opened
  closed_staged : opens ≡ false → (row : List ℕ) → OpenedStaged first v index count (record { staged = 0; opened = 0 }) row
  closed_staged h row = record {
    opened = sym (opened_count first v ∙ rw (is_open_lem, h) (closed_pages first v));
    fits = omega arith;
    staged = sym (rw (is_open_lem, h) (closed_flags first v (marked (take count index))));
  }

  open_staged : opens ≡ true → (row : List ℕ) (r : Opening) → KeptStaged (take count index) (digests_of t) (page_chains 0 0 [] v) row r → OpenedStaged first v index count r row
  open_staged h row r k = record {
    opened = k.opened ∙ rw spans.1.opened (spans.2 ∙ sym (opened_count first v ∙ rw (is_open_lem, h)));
    fits = omega (arith, k.fits, length-take-le count index y.room);
    staged = k.staged ∙ rw (words_all, is_open_lem, h, spans.1.flags);
  }

  retell : (r : Opening) (row : List ℕ) → OpenedStaged first v index count r row → (z : SpeltTree) → judge u ≡ accepted z → OpenedStaged (pages_in (judge s)) z index count r row
  unfolding pages_in
  retell r row o z h =
      rw (w.judged, ← one_tree u x.judged h) o

  pub none_opened : not opens ≡ true → (row : List ℕ) (z : SpeltTree) → judge u ≡ accepted z → OpenedStaged (pages_in (judge s)) z index count (record { staged = 0; opened = 0 }) row
  none_opened h row = retell (record { staged = 0; opened = 0 }) row (closed_staged (not-true opens h) row)

  pub some_opened : not opens ≡ false → (row : List ℕ) (r : Opening)
      → ((u : List ℕ) (ds : List (List ℕ)) (cs : List Chain) → Staging u chains m marks (take count index) ds cs → KeptStaged (take count index) ds cs row r)
      → (z : SpeltTree) → judge u ≡ accepted z → OpenedStaged (pages_in (judge s)) z index count r row
  some_opened h row r k =
      retell r row (open_staged (not-false opens h) row r (k u (digests_of t) (page_chains 0 0 [] v) (staging (not-false opens h))))
