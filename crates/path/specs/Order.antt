-- The order of checks of a path and of its verification, and what their callers have after the call.
use Rattle.std.specs.Prelude.{ℕ, zero, suc, ◌+◌, ◌≤◌, ◌<◌, ◌≡◌, true, false, List, [], ◌∷◌, ◌++◌, length, drop}
use Rattle.std.proofs.Math.Option.{Option, none, some}
use Rattle.limits.specs.Limits.{longest, deepest}
use Rattle.answer.specs.Answer.{done_with, said_of_two}
use Rattle.fips180.specs.Hash.{sha256}
use Rattle.value.specs.Value.{digest_length, digest_in, is_codec, value_codec, value_digest}
use Rattle.key.specs.Key.{lawful, less}
use Rattle.page.specs.Reading.{Read, read, ends_early, departs}
use Rattle.page.specs.Page.{RawEntry, RawPage, page_bytes, page}
use Rattle.tree.specs.Record.{Record}
use Rattle.tree.specs.Judge.{all_lawful, rising}
use Rattle.tree.specs.OnePage.{key_after, prefixes_of, records_in}
use Rattle.promises.specs.Map.{find}
use Rattle.promises.specs.Reply.{Reply, writing_reply}
use Rattle.promises.specs.Order.{Refuses, Judged, Check, filled}
use Rattle.path.specs.Path.{path_of, path_outcome}
use Rattle.path.specs.Verify.{verify_verdict, verify_answer}

-- The replies of the calls; their contracts state the same answers and output.
abbrev pub path_reply : List ℕ → List ℕ → ℕ → Reply
path_reply s k room = writing_reply (path_outcome s k room) room

abbrev pub verify_reply : List ℕ → List ℕ → List ℕ → Reply
verify_reply path k root = record { answer = said_of_two (verify_answer path (verify_verdict path k root)); outputs = []; head = none }

-- ---- path
-- The key argument; 13 where the path is longer than the output. The path is written, and its length is answered.
abbrev pub PathOrder : List ℕ → List ℕ → ℕ → Reply → Type 0
PathOrder s k room reply =
    Judged s reply (λ t.
    Check reply 7 (lawful k ≡ false)
    (Check reply 13 (room < length (path_of k t))
    ((reply.answer ≡ done_with (length (path_of k t) ∷ [])) × (reply.outputs ≡ filled room (path_of k t) ∷ []))))

-- ---- verify
-- The keys of these records are all of a kind.
abbrev pub AllKeys : (List ℕ → Type 0) → List Record → Type 0
AllKeys Kind [] = Unit {0}
AllKeys Kind (r ∷ rs) = Kind r.key × AllKeys Kind rs

-- The last key of a row of entries, and the gap after the last of them; without entries the key and the gap before.
abbrev pub last_key : List ℕ → List RawEntry → List ℕ
last_key before [] = before
last_key before (e ∷ es) = last_key (key_after before e) es

abbrev pub last_gap : Option (List ℕ) → List RawEntry → Option (List ℕ)
last_gap gap [] = gap
last_gap gap (e ∷ es) = last_gap e.after es

-- The gap of a page where a key would stand: the entries before it have lesser keys, those after it greater ones.
pub record StandsIn (k : List ℕ) (p : RawPage) (gap : Option (List ℕ)) : Type 0 where
  pub before : List RawEntry
  pub later : List RawEntry
  pub whole : p.entries ≡ before ++ later
  pub lesser : AllKeys (λ key. less key k ≡ true) (records_in [] before)
  pub greater : AllKeys (λ key. less k key ≡ true) (records_in (last_key [] before) later)
  pub between : last_gap p.left before ≡ gap

-- Where the search ends, bytes left draw 4.
abbrev pub SearchEnds : List ℕ → Reply → Type 0 → Type 0
SearchEnds rest reply done = Check reply 4 (rest ≡ [] → ⊥) done

-- Present is answered by the place where the value's digest stands in the path, and the value's codec. Neither is 0, as both are in the answer
-- for absent.
pub record Present (path : List ℕ) (reply : Reply) (v : List ℕ) : Type 0 where
  pub place : ℕ
  pub some : 0 < place
  pub within : place + digest_length ≤ length path
  pub answer : reply.answer ≡ done_with (place ∷ value_codec v ∷ [])
  pub codec : is_codec (value_codec v) ≡ true
  pub digest : digest_in path place ≡ value_digest v

-- The search in a page: the key is an entry; or it would stand in a gap without a link, and is absent; or in a gap with a link, and the page
-- with that digest is due.
pub data Searches (k : List ℕ) (p : RawPage) (path rest : List ℕ) (reply : Reply) (due : List ℕ → Type 0) : Type 0 where
  is_entry : (v : List ℕ) → find k (records_in [] p.entries) ≡ some v → SearchEnds rest reply (Present path reply v) → Searches k p path rest reply due
  no_link : StandsIn k p none → SearchEnds rest reply (reply.answer ≡ done_with (0 ∷ 0 ∷ [])) → Searches k p path rest reply due
  has_link : (digest : List ℕ) → StandsIn k p (some digest) → due digest → Searches k p path rest reply due

-- A page is due: 2 where the path ends while a byte is due, 3 where a byte departs.
abbrev pub ReadOrder : Read RawPage → Reply → (RawPage → List ℕ → Type 0) → Type 0
ReadOrder ends_early reply goesOn = Refuses reply 2
ReadOrder departs reply goesOn = Refuses reply 3
ReadOrder (read p rest) reply goesOn = goesOn p rest

-- Then 6, 7 and 8 within the page, and last 16.
abbrev pub PageOrder : List ℕ → RawPage → Reply → Type 0 → Type 0
PageOrder digest p reply goesOn =
    Check reply 6 (prefixes_of [] p.entries ≡ false)
    (Check reply 7 (all_lawful (records_in [] p.entries) ≡ false)
    (Check reply 8 (rising (records_in [] p.entries) ≡ false)
    (Check reply 16 (sha256 (page_bytes p) ≡ digest → ⊥) goesOn)))

-- Each page in turn, from a place of the path on, and after each the search. Where no page may follow any more, its first byte departs.
abbrev pub PagesOrder : ℕ → List ℕ → List ℕ → List ℕ → ℕ → Reply → Type 0
PagesOrder zero path k digest at reply = Check reply 3 (at < length path) (Refuses reply 2)
PagesOrder (suc depth) path k digest at reply =
    ReadOrder (page (drop at path)) reply (λ p rest.
    PageOrder digest p reply
    (Searches k p path rest reply (λ next. PagesOrder depth path k next (at + length (page_bytes p)) reply)))

-- The path's length, the key argument, the root digest's length; then the pages.
abbrev pub VerifyOrder : List ℕ → List ℕ → List ℕ → Reply → Type 0
VerifyOrder path k root reply =
    Check reply 1 (longest < length path)
    (Check reply 7 (lawful k ≡ false)
    (Check reply 11 (length root ≡ digest_length → ⊥)
    (PagesOrder deepest path k root 0 reply)))
