-- One page's bytes: links, values, entries and the page, as written and as read.
use Rattle.std.specs.Prelude.{ℕ, cond, List, [], ◌∷◌, ◌++◌, length, eqb}
use Rattle.std.proofs.Math.Option.{Option, none, some}
use Rattle.value.specs.Value.{digest_length, dag_cbor, is_codec, value_codec, value_digest}
use Rattle.page.specs.Reading.{read, ends_early, departs, Reader, and_then, ◌>>=◌, ◌>>◌, pure, exactly, any_bytes, times, concat}
use Rattle.page.specs.Number.{plain_number, byte_string, array, number_bytes, number}

-- Each link has six bytes, the codec of what it names, two bytes more, and 32 digest bytes.
abbrev pub before_codec : List ℕ
before_codec = 0xD8 ∷ 0x2A ∷ 0x58 ∷ 0x25 ∷ 0x00 ∷ 0x01 ∷ []

abbrev pub after_codec : List ℕ
after_codec = 0x12 ∷ 0x20 ∷ []

abbrev pub link_head : ℕ → List ℕ
link_head c = before_codec ++ (c ∷ after_codec)

-- The codec of a page link is 71, and no other.
unfoldable pub link_bytes : List ℕ → List ℕ
link_bytes digest = link_head dag_cbor ++ digest

unfoldable pub link : Reader (List ℕ)
link = do
  exactly (link_head dag_cbor)
  any_bytes digest_length

-- A gap: the link of the page in it, or null where it is empty.
abbrev pub null : ℕ
null = 0xF6

unfoldable pub gap_bytes : Option (List ℕ) → List ℕ
gap_bytes none = null ∷ []
gap_bytes (some digest) = link_bytes digest

unfoldable pub gap : Reader (Option (List ℕ))
gap [] = ends_early
gap (b ∷ s) = cond (eqb b null) (read none s) (and_then (link (b ∷ s)) (λ digest t. read (some digest) t))

-- A value is written as a link with its own codec, 55 or 71. Every other byte in the codec's place departs.
unfoldable pub value_bytes : List ℕ → List ℕ
value_bytes v = link_head (value_codec v) ++ value_digest v

unfoldable pub codec : Reader ℕ
codec [] = ends_early
codec (b ∷ s) = cond (is_codec b) (read b s) departs

unfoldable pub value : Reader (List ℕ)
value = do
  exactly before_codec
  c ← codec
  exactly after_codec
  d ← any_bytes digest_length
  pure (c ∷ d)

-- An entry: how many leading bytes its key shares with the key before it in the page, the rest of the key, its value, and the link of the
-- gap after it.
pub record RawEntry : Type 0 where
  pub shares : ℕ
  pub remainder : List ℕ
  pub after : Option (List ℕ)
  pub val : List ℕ

unfoldable pub entry_bytes : RawEntry → List ℕ
entry_bytes e =
    (0xA4 ∷ 0x61 ∷ 0x6B ∷ []) ++ (number_bytes byte_string (length e.remainder) ++ (e.remainder ++ (
    (0x61 ∷ 0x70 ∷ []) ++ (number_bytes plain_number e.shares ++ (
    (0x61 ∷ 0x74 ∷ []) ++ (gap_bytes e.after ++ (
    (0x61 ∷ 0x76 ∷ []) ++ value_bytes e.val)))))))

unfoldable pub entry : Reader RawEntry
entry = do
  exactly (0xA4 ∷ 0x61 ∷ 0x6B ∷ [])
  n ← number byte_string
  r ← any_bytes n
  exactly (0x61 ∷ 0x70 ∷ [])
  p ← number plain_number
  exactly (0x61 ∷ 0x74 ∷ [])
  g ← gap
  exactly (0x61 ∷ 0x76 ∷ [])
  v ← value
  pure (record { shares = p; remainder = r; after = g; val = v })

-- A page: its entries, and the link of the gap before the first of them.
pub record RawPage : Type 0 where
  pub entries : List RawEntry
  pub left : Option (List ℕ)

unfoldable pub page_bytes : RawPage → List ℕ
page_bytes p =
    (0xA2 ∷ 0x61 ∷ 0x65 ∷ []) ++ (number_bytes array (length p.entries) ++ (concat entry_bytes p.entries ++ (
    (0x61 ∷ 0x6C ∷ []) ++ gap_bytes p.left)))

unfoldable pub page : Reader RawPage
page = do
  exactly (0xA2 ∷ 0x61 ∷ 0x65 ∷ [])
  n ← number array
  es ← times n entry
  exactly (0x61 ∷ 0x6C ∷ [])
  g ← gap
  pure (record { entries = es; left = g })
