-- Digests, codecs and values: which byte strings they are, and those that stand at a place of a string of bytes.
use Rattle.std.specs.Prelude.{ℕ, ◌-◌, Bool, ◌&&◌, ◌||◌, List, ◌∷◌, length, take, drop, get_or, eqb}

-- A SHA-256 digest has 32 bytes.
abbrev pub digest_length : ℕ
digest_length = 32

unfoldable pub is_digest : List ℕ → Bool
is_digest d = eqb (length d) digest_length

abbrev pub digest_in : List ℕ → ℕ → List ℕ
digest_in s place = take digest_length (drop place s)

-- A codec says what a digest is the digest of: 55 a raw file, 71 a record block. Both are kept elsewhere.
abbrev pub raw : ℕ
raw = 0x55

abbrev pub dag_cbor : ℕ
dag_cbor = 0x71

unfoldable pub is_codec : ℕ → Bool
is_codec c = eqb c raw || eqb c dag_cbor

-- A value is a codec and a digest, 33 bytes in which the codec goes first.
abbrev pub value_length : ℕ
value_length = 33

abbrev pub value_codec : List ℕ → ℕ
value_codec v = get_or v 0 0

abbrev pub value_digest : List ℕ → List ℕ
value_digest v = drop 1 v

unfoldable pub is_value : List ℕ → Bool
is_value v = eqb (length v) value_length && is_codec (value_codec v)

-- The place of a value in a page is that of its digest; the codec stands three bytes before it.
abbrev pub codec_in : List ℕ → ℕ → ℕ
codec_in s place = get_or s (place - 3) 0

abbrev pub value_in : List ℕ → ℕ → List ℕ
value_in s place = codec_in s place ∷ digest_in s place
