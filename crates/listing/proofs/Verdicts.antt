-- The text for a verdict.
use Rattle.std.specs.Prelude.{Option, Some, None, unwrap_or}
use Prim.Native.Nat.{ℕ, ◌+◌, ◌^◌, ◌≤◌, ◌<◌}
use mathlib.Core.Path.{◌≡◌, sym, ap, ◌∙◌}
use mathlib.Core.List.{List, [], ◌∷◌, ◌++◌}
use native.Mathlib.Omega.{arith}
use lib.ListN.{length, take}
use lib.Seq.{length-take-le}
use borrow.Author.Tests.{le-leb}
use Rattle.bytestring.specs.Bytes.{Bytes}
use Rattle.answer.specs.Answer.{number_of}
use Rattle.answer.specs.declared.Refusal.{Refusal}
use Rattle.tree.specs.Record.{records}
use Rattle.tree.specs.Judge.{refused, judge}
use Rattle.index.specs.Accepted.{AcceptedIndex}
use Rattle.row.specs.Row.{Row, records_of}
use Rattle.row.proofs.Rows.{accepted_short, accepted_row, accepted_records_lem}
use Rattle.promises.specs.Listing.{decimal, space, line_feed, record_lines, listing_of, refusal_line, listing_verdict, longest_input, listing, longest_listing}
use Rattle.promises.proofs.ListingLaws.{too_long, first_bytes_decide, listing_fits}
use Rattle.listing.specs.Text.{IsPrefixLen, TextStands, Adds, ListsInput}
use Rattle.listing.proofs.Adding.{adds_then, adds_short, adds_none, adds_same, adds_first, then_lines}

-- ---- the first lines
abbrev first_line : List ℕ → ℕ → List ℕ
first_line word n = word ++ (decimal n ++ (line_feed ∷ []))

abbrev refused_word : List ℕ
refused_word = 0x72 ∷ 0x65 ∷ 0x66 ∷ 0x75 ∷ 0x73 ∷ 0x65 ∷ 0x64 ∷ space ∷ []

abbrev records_word : List ℕ
records_word = 0x72 ∷ 0x65 ∷ 0x63 ∷ 0x6F ∷ 0x72 ∷ 0x64 ∷ 0x73 ∷ space ∷ []

-- ---- refused
too_long_text : (s : List ℕ) → 65536 < length s → listing s ≡ first_line refused_word 1
unfolding refusal_line
too_long_text s h = too_long s h

refused_text : (s : List ℕ) {r : Refusal} → length s ≤ 65536 → judge s ≡ refused r → listing s ≡ first_line refused_word (number_of r)
unfolding listing listing_verdict refusal_line
refused_text s h e = rw (le-leb (length s) 65536 h, e)

pub wrote_too_long : {o e : List ℕ} {r : Option ℕ} (s : List ℕ) → 65536 < length s → Adds o 0 (first_line refused_word 1) e r → TextStands e (listing s) r
wrote_too_long s h f = adds_first f (too_long_text s h)

pub wrote_refused : {o e : List ℕ} {r : Option ℕ} (s : List ℕ) {why : Refusal} → length s ≤ 65536 → judge s ≡ refused why → (n : ℕ) → n ≡ number_of why
    → Adds o 0 (first_line refused_word n) e r → TextStands e (listing s) r
wrote_refused s h j n i f = adds_first f (refused_text s h j ∙ ap (first_line refused_word) (sym i))

-- ---- accepted
-- its index is a row
pub index_row : {s index : List ℕ} {count : ℕ} → Bytes s → AcceptedIndex s index count → Row s s index count
index_row {s} {index} {count} b a =
    let short : length s < 2 ^ 24 = accepted_short s index a.tree count b a.judged a.indexed a.size a.room in
    accepted_row s index a.tree count b a.judged a.indexed a.size a.room s short

module _ {s index : List ℕ} {count : ℕ} (short : length s ≤ 65536) (a : AcceptedIndex s index count) {o m : List ℕ} {q : Option ℕ}
    (f : Adds o 0 (first_line records_word count) m q) where
  accepted_text : listing s ≡ first_line records_word count ++ record_lines (records a.tree)
  unfolding listing listing_verdict listing_of
  accepted_text =
      rw (le-leb (length s) 65536 short, a.judged, sym a.size) (then_lines records_word (decimal count) (record_lines (records a.tree)))

  pub wrote_records : {e : List ℕ} {r : Option ℕ} {at : ℕ} → Bytes s → q ≡ Some at
      → Adds m at (record_lines (records_of s s index count)) e r → TextStands e (listing s) r
  wrote_records b h l =
      let all : records_of s s index count ≡ records a.tree = accepted_records_lem s index a.tree count b a.judged a.indexed a.size a.room s in
      adds_first (adds_then f h (adds_same l (ap record_lines (sym all)))) accepted_text

  pub wrote_short : q ≡ None → {r : Option ℕ} → r ≡ None → TextStands m (listing s) r
  wrote_short h e = adds_first (adds_none (adds_short f h (record_lines (records a.tree))) e) accepted_text

-- ---- the whole text, with room for it
pub wrote_whole : (s out : List ℕ) (r : Option ℕ) → TextStands out (listing s) r → Bytes s → length out ≡ longest_listing → (n : ℕ) → n ≡ unwrap_or r 0
    → IsPrefixLen n out × (take n out ≡ listing s)
wrote_whole s out (Some k) w b size n e = rw e ((w.1, sym (length-take-le k out w.1)), w.2)
wrote_whole s out None w b size n e = absurd (omega (arith, w, listing_fits (record { list = s; small = b })))

-- ---- what was read decides
pub lists_input : (buffer out : List ℕ) (n m : ℕ) → length buffer ≡ longest_input + 1 → take m out ≡ listing (take n buffer) → ListsInput buffer n (take m out)
lists_input buffer out n m size e input read =
    e ∙ ap listing (read ∙ ap (λ (k : ℕ). take k input) size) ∙ first_bytes_decide input
