-- What a path of pages says of a key, to one who holds the root's digest.
use Rattle.std.specs.Prelude.{ℕ, zero, suc, ◌+◌, ◌-◌, cond, List, [], ◌∷◌, length, leb, Result, Ok, Err}
use Rattle.std.proofs.Math.Option.{Option, none, some}
use Rattle.limits.specs.Limits.{longest, deepest}
use Rattle.answer.specs.declared.Refusal.{Refusal}
use Rattle.answer.specs.declared.Refusal.TheVariants.{TooLong, EndsEarly, Departs, BytesFollow, WrongPrefix, UnlawfulKey, KeysNotRising, WrongValue, PageNotDue}
use Rattle.bytestring.specs.Bytes.{equal}
use Rattle.fips180.specs.Hash.{sha256}
use Rattle.value.specs.Value.{digest_length, is_digest, codec_in}
use Rattle.key.specs.Key.{lawful, less}
use Rattle.page.specs.Reading.{Read, read, ends_early, departs}
use Rattle.page.specs.Page.{RawEntry, entry_bytes, RawPage, page_bytes, page}
use Rattle.tree.specs.Judge.{Test, due, all_lawful, rising}
use Rattle.tree.specs.OnePage.{entries_start, key_after, prefixes_of, records_in}

-- ---- the search in one page
-- The key is an entry, whose value's digest stands at a place; or it would stand in a gap, which has a link or none.
pub data Sought : Type 0 where
  value_at : ℕ → Sought
  in_gap : Option (List ℕ) → Sought

-- The entries from a place on, after the key `before`; `gap` is the gap before them. An entry's bytes end with its value's digest.
unfoldable pub sought_from : List ℕ → Option (List ℕ) → List ℕ → ℕ → List RawEntry → Sought
sought_from k gap before at [] = in_gap gap
sought_from k gap before at (e ∷ es) =
    let end : ℕ = at + length (entry_bytes e) in
    let later : Sought = sought_from k e.after (key_after before e) end es in
    cond (less k (key_after before e)) (in_gap gap) (cond (less (key_after before e) k) later (value_at (end - digest_length)))

-- A page that begins at a place.
unfoldable pub sought_in : List ℕ → ℕ → RawPage → Sought
sought_in k at p = sought_from k p.left [] (at + entries_start p.entries) p.entries

-- ---- what a path says
-- It is refused, or it says that the key is absent, or present with its value's digest at a place of the path.
pub data PathVerdict : Type 0 where
  stopped : Refusal → PathVerdict
  absent : PathVerdict
  present : ℕ → PathVerdict

-- A number that is due refuses it.
unfoldable pub unless : Option Refusal → PathVerdict → PathVerdict
unless none v = v
unless (some r) v = stopped r

-- 2 where the path ends while a byte of a page is due, and 3 where a byte departs from the page form.
unfoldable pub on_page : Read RawPage → (RawPage → List ℕ → PathVerdict) → PathVerdict
on_page ends_early judged = stopped EndsEarly
on_page departs judged = stopped Departs
on_page (read p rest) judged = judged p rest

-- Then 6, 7 and 8 within the page, and last 16, for a digest that is not the one due.
unfoldable pub page_tests : List ℕ → RawPage → List Test
page_tests digest p =
    (WrongPrefix, prefixes_of [] p.entries)
    ∷ (UnlawfulKey, all_lawful (records_in [] p.entries))
    ∷ (KeysNotRising, rising (records_in [] p.entries))
    ∷ (PageNotDue, equal (sha256 (page_bytes p)) digest)
    ∷ []

-- Bytes left when the search ends draw 4.
unfoldable pub at_end : PathVerdict → List ℕ → PathVerdict
at_end v [] = v
at_end v (b ∷ rest) = stopped BytesFollow

-- Only then the search says whether another page is due: the one whose digest stands in the gap's link.
unfoldable pub go_on : Sought → List ℕ → (List ℕ → PathVerdict) → PathVerdict
go_on (value_at place) rest next = at_end (present place) rest
go_on (in_gap none) rest next = at_end absent rest
go_on (in_gap (some digest)) rest next = next digest

-- Each page in turn, from a place of the path on. At most `depth` pages follow one another; the first byte of one more departs, and a path that
-- ends there has ended early.
unfoldable pub judge_pages : ℕ → List ℕ → List ℕ → ℕ → List ℕ → PathVerdict
judge_pages zero k digest at [] = stopped EndsEarly
judge_pages zero k digest at (b ∷ s) = stopped Departs
judge_pages (suc depth) k digest at s =
    on_page (page s) (λ p rest.
    unless (due (page_tests digest p))
    (go_on (sought_in k at p) rest (λ next. judge_pages depth k next (at + length (page_bytes p)) rest)))

-- The path's length is judged first, then the key argument and the root digest's length.
unfoldable pub verify_verdict : List ℕ → List ℕ → List ℕ → PathVerdict
verify_verdict path k root =
    unless (due ((TooLong, leb (length path) longest) ∷ (UnlawfulKey, lawful k) ∷ (WrongValue, is_digest root) ∷ []))
    (judge_pages deepest k root 0 path)

-- Absent is answered as 0, present by the place of the value's 32 digest bytes, with the value's codec beside it.
unfoldable pub verify_answer : List ℕ → PathVerdict → Result (ℕ × ℕ) Refusal
verify_answer path (stopped r) = Err r
verify_answer path absent = Ok (0, 0)
verify_answer path (present place) = Ok (place, codec_in path place)
