-- The published trees, and the small example of each number: antt computes them from the definitions.
use Prim.Native.Nat.{ℕ}
use mathlib.Core.Path.{◌≡◌, refl}
use mathlib.Core.List.{List, [], ◌∷◌, ◌++◌, map}
use lib.ListN.{length, replicate}
use lib.Bits.{bit_xor}
use Rattle.bytestring.specs.Bytes.{equal}
use Rattle.answer.specs.declared.Refusal.TheVariants.{EndsEarly, Departs, BytesFollow, WrongPrefix, UnlawfulKey, KeysNotRising, WrongTree, WrongDigest}
use Rattle.fips180.specs.Hash.{K, pad, schedule, W, round, rounds, plus, compress, after_blocks, hash, sha256}
use Rattle.key.specs.Key.{ordinary, collection, name, all_ordinary, lawful, less, shared}
use Rattle.key.specs.Layer.{bits, bits_of, leading_zero_bits, layer_of_digest, layer_of}
use Rattle.page.specs.Reading.{exactly, any_bytes, times}
use Rattle.page.specs.Number.{number_bytes, one_byte, two_bytes, number}
use Rattle.value.specs.Value.{is_codec}
use Rattle.page.specs.Page.{link_head, link_bytes, link, gap_bytes, gap, value_bytes, codec, value as value_reader, entry_bytes, entry as entry_at, page_bytes, page as page_at}
use Rattle.tree.specs.Tree.{page, empty, under, Entries, end, entry, items, map as map_tree, top_layer, part, entries_of, page_of, gap_of, build, tree_of}
use Rattle.tree.specs.Record.{Record, Spelt, keyed, spelt}
use Rattle.tree.specs.Table.{SpeltTree, link_of, raw_entries, raw_page, bytes_of_page, table, digest_of, tree_of_set, table_of, read_under, read_from, read_tree}
use Rattle.examples.specs.Rows.{ab1, ab2}
use Rattle.tree.specs.Judge.{due, is_none, prefixes_right, all_lawful, rising, same, right_tree, digests_right, tests, refused, accepted, settled, judge_read, judge}

-- whoever unfolds this unfolds all of these
all : Unit {0}
unfolding K pad schedule W round rounds plus compress after_blocks hash sha256 ordinary collection name all_ordinary lawful less shared bits bits_of leading_zero_bits layer_of_digest layer_of exactly any_bytes times number_bytes one_byte two_bytes number is_codec link_bytes link gap_bytes gap value_bytes codec value_reader entry_bytes entry_at page_bytes page_at items map_tree top_layer part entries_of page_of gap_of build tree_of keyed spelt link_of raw_entries raw_page bytes_of_page table digest_of tree_of_set table_of read_under read_from read_tree due is_none equal prefixes_right all_lawful rising same right_tree digests_right tests settled judge_read judge
all = tt

-- ---- the published trees
-- the value of every published record
value : List ℕ
value = 0x71 ∷ 0x9D ∷ 0x15 ∷ 0x6B ∷ 0xC3 ∷ 0xF3 ∷ 0xA5 ∷ 0x20 ∷ 0x06 ∷ 0x62 ∷ 0x52 ∷ 0xC7 ∷ 0x08 ∷ 0xA9 ∷ 0x36 ∷ 0x1F ∷ 0xD3 ∷ 0xD0 ∷ 0x89 ∷ 0x22 ∷ 0x38 ∷ 0x42 ∷ 0x50 ∷ 0x0E ∷ 0x37 ∷ 0x13 ∷ 0xD4 ∷ 0x04 ∷ 0xFD ∷ 0xCC ∷ 0xB3 ∷ 0x3C ∷ 0xEF ∷ []

-- com.example.record/ and then the rest of the key
published : List ℕ → Record
published rest = record { key = (0x63 ∷ 0x6F ∷ 0x6D ∷ 0x2E ∷ 0x65 ∷ 0x78 ∷ 0x61 ∷ 0x6D ∷ 0x70 ∷ 0x6C ∷ 0x65 ∷ 0x2E ∷ 0x72 ∷ 0x65 ∷ 0x63 ∷ 0x6F ∷ 0x72 ∷ 0x64 ∷ 0x2F ∷ []) ++ rest; val = value }

root_of : List Record → List ℕ
root_of rs = digest_of (tree_of_set rs)

-- 3jqfcqzm3fo2j
one : List Record
one = published (0x33 ∷ 0x6A ∷ 0x71 ∷ 0x66 ∷ 0x63 ∷ 0x71 ∷ 0x7A ∷ 0x6D ∷ 0x33 ∷ 0x66 ∷ 0x6F ∷ 0x32 ∷ 0x6A ∷ []) ∷ []

-- 3jqfcqzm3fp2j, 3jqfcqzm3fr2j, 3jqfcqzm3fs2j, 3jqfcqzm3ft2j and 3jqfcqzm4fc2j
five : List Record
five =
    published (0x33 ∷ 0x6A ∷ 0x71 ∷ 0x66 ∷ 0x63 ∷ 0x71 ∷ 0x7A ∷ 0x6D ∷ 0x33 ∷ 0x66 ∷ 0x70 ∷ 0x32 ∷ 0x6A ∷ [])
    ∷ published (0x33 ∷ 0x6A ∷ 0x71 ∷ 0x66 ∷ 0x63 ∷ 0x71 ∷ 0x7A ∷ 0x6D ∷ 0x33 ∷ 0x66 ∷ 0x72 ∷ 0x32 ∷ 0x6A ∷ [])
    ∷ published (0x33 ∷ 0x6A ∷ 0x71 ∷ 0x66 ∷ 0x63 ∷ 0x71 ∷ 0x7A ∷ 0x6D ∷ 0x33 ∷ 0x66 ∷ 0x73 ∷ 0x32 ∷ 0x6A ∷ [])
    ∷ published (0x33 ∷ 0x6A ∷ 0x71 ∷ 0x66 ∷ 0x63 ∷ 0x71 ∷ 0x7A ∷ 0x6D ∷ 0x33 ∷ 0x66 ∷ 0x74 ∷ 0x32 ∷ 0x6A ∷ [])
    ∷ published (0x33 ∷ 0x6A ∷ 0x71 ∷ 0x66 ∷ 0x63 ∷ 0x71 ∷ 0x7A ∷ 0x6D ∷ 0x34 ∷ 0x66 ∷ 0x63 ∷ 0x32 ∷ 0x6A ∷ [])
    ∷ []

empty_root : root_of [] ≡ 0x9D ∷ 0xFE ∷ 0xFE ∷ 0x61 ∷ 0xDD ∷ 0x76 ∷ 0xEA ∷ 0x3D ∷ 0xCA ∷ 0xE5 ∷ 0x02 ∷ 0x38 ∷ 0x80 ∷ 0xB0 ∷ 0x83 ∷ 0x79 ∷ 0xD5 ∷ 0x7A ∷ 0xDF ∷ 0x20 ∷ 0x48 ∷ 0x2D ∷ 0x6F ∷ 0xDB ∷ 0xE2 ∷ 0x75 ∷ 0x92 ∷ 0x89 ∷ 0xF6 ∷ 0x47 ∷ 0x67 ∷ 0x7B ∷ []
unfolding all root_of
empty_root = refl

one_root : root_of one ≡ 0x29 ∷ 0xE2 ∷ 0xE4 ∷ 0x2D ∷ 0x82 ∷ 0x0D ∷ 0x8D ∷ 0x5E ∷ 0x77 ∷ 0xF6 ∷ 0xEC ∷ 0x8B ∷ 0x4A ∷ 0xE7 ∷ 0x46 ∷ 0xB1 ∷ 0xA7 ∷ 0x2D ∷ 0x86 ∷ 0xCF ∷ 0xCB ∷ 0xB2 ∷ 0x07 ∷ 0x00 ∷ 0xB3 ∷ 0x5E ∷ 0xD6 ∷ 0xC1 ∷ 0xE9 ∷ 0x82 ∷ 0x79 ∷ 0x1D ∷ []
unfolding all value published root_of one
one_root = refl

five_root : root_of five ≡ 0x4C ∷ 0x01 ∷ 0xF1 ∷ 0x28 ∷ 0x71 ∷ 0xBE ∷ 0xB1 ∷ 0x69 ∷ 0x77 ∷ 0x77 ∷ 0x5A ∷ 0x67 ∷ 0x86 ∷ 0xF4 ∷ 0x63 ∷ 0xF9 ∷ 0xFC ∷ 0x33 ∷ 0x86 ∷ 0x6C ∷ 0x79 ∷ 0x97 ∷ 0xFB ∷ 0xE9 ∷ 0xF5 ∷ 0xBF ∷ 0x69 ∷ 0x46 ∷ 0x61 ∷ 0x0A ∷ 0xD0 ∷ 0xFB ∷ []
unfolding all value published root_of five
five_root = refl

-- ---- a raw file under a key
-- a/b1 with codec 55 and 32 digest bytes 11
drawing : List Record
drawing = record { key = ab1; val = 0x55 ∷ replicate 32 0x11 } ∷ []

-- 64 bytes. The page: A2, 6165 and 81, one entry. The entry: A4, 616B and 44, the four bytes a/b1, 6170 and 00, 6174 and F6, 6176 and the link
-- of the value: D82A, 5825, 0001, the codec 55, 1220 and the digest. Then 616C and F6
drawing_table : table_of drawing
    ≡ (0xA2 ∷ 0x61 ∷ 0x65 ∷ 0x81 ∷ 0xA4 ∷ 0x61 ∷ 0x6B ∷ 0x44 ∷ 0x61 ∷ 0x2F ∷ 0x62 ∷ 0x31 ∷ 0x61 ∷ 0x70 ∷ 0x00 ∷ 0x61 ∷ 0x74 ∷ 0xF6 ∷ 0x61 ∷ 0x76
    ∷ 0xD8 ∷ 0x2A ∷ 0x58 ∷ 0x25 ∷ 0x00 ∷ 0x01 ∷ 0x55 ∷ 0x12 ∷ 0x20 ∷ []) ++ (replicate 32 0x11 ++ (0x61 ∷ 0x6C ∷ 0xF6 ∷ []))
unfolding all drawing
drawing_table = refl

drawing_length : length (table_of drawing) ≡ 64
unfolding all drawing
drawing_length = refl

-- its root: SHA-256 of those 64 bytes, worked out elsewhere
drawing_root : root_of drawing ≡ 0x9B ∷ 0xC8 ∷ 0xAF ∷ 0x85 ∷ 0x83 ∷ 0xB1 ∷ 0x1A ∷ 0xB9 ∷ 0xEE ∷ 0xA5 ∷ 0xCF ∷ 0xA3 ∷ 0x4A ∷ 0xD0 ∷ 0xD9 ∷ 0x54 ∷ 0xF8 ∷ 0x50 ∷ 0x74 ∷ 0xBC ∷ 0x1D ∷ 0x4C ∷ 0x01 ∷ 0x82 ∷ 0x43 ∷ 0x11 ∷ 0xA4 ∷ 0x4C ∷ 0x4F ∷ 0x0C ∷ 0xE2 ∷ 0x98 ∷ []
unfolding all root_of drawing
drawing_root = refl

drawing_accepted : judge (table_of drawing) ≡ accepted (spelt (tree_of_set drawing))
unfolding all drawing
drawing_accepted = refl

-- ---- the small example of each number
some_digest_lem : List ℕ
some_digest_lem = replicate 32 0x11

some_value : List ℕ
some_value = 0x71 ∷ some_digest_lem

spells : ℕ → List ℕ → Spelt
spells n rest = record { shares = n; remainder = rest; val = some_value }

row : List Spelt → Entries Spelt (List ℕ)
row [] = end
row (x ∷ xs) = entry x empty (row xs)

-- one page of entries and no links
one_page_lem : List Spelt → SpeltTree
one_page_lem es = page empty (row es)

-- a/b1 has layer 0 and a/b2 layer 1: the register of both has two pages
two : List Record
two = record { key = ab1; val = some_value } ∷ record { key = ab2; val = some_value } ∷ []

-- the lowest bit of the first digest byte of the left link flipped
flipped : SpeltTree → SpeltTree
flipped (page empty es) = page empty es
flipped (page (under [] p) es) = page (under [] p) es
flipped (page (under (b ∷ d) p) es) = page (under (bit_xor b 1 ∷ d) p) es

-- 2: a page that ends after 6C, and no bytes. 3: the left link's name where the entries' is due. 4: the empty register, then F6
bytes_refused : map judge
    ((0xA2 ∷ 0x61 ∷ 0x65 ∷ 0x80 ∷ 0x61 ∷ 0x6C ∷ [])
    ∷ []
    ∷ (0xA2 ∷ 0x61 ∷ 0x6C ∷ [])
    ∷ (0xA2 ∷ 0x61 ∷ 0x65 ∷ 0x80 ∷ 0x61 ∷ 0x6C ∷ 0xF6 ∷ 0xF6 ∷ [])
    ∷ [])
    ≡ refused EndsEarly ∷ refused EndsEarly ∷ refused Departs ∷ refused BytesFollow ∷ []
unfolding all
bytes_refused = refl

-- 3: a/b1 with a value of another codec than 55 and 71, and an empty page whose left link has 55
codecs_refused : map judge
    (map (λ (c : ℕ). table (one_page_lem (record { shares = 0; remainder = ab1; val = c ∷ some_digest_lem } ∷ []))) (0x00 ∷ 0x54 ∷ 0x56 ∷ 0x70 ∷ 0x72 ∷ 0xFF ∷ [])
    ++ (((0xA2 ∷ 0x61 ∷ 0x65 ∷ 0x80 ∷ 0x61 ∷ 0x6C ∷ []) ++ (link_head 0x55 ++ some_digest_lem)) ∷ []))
    ≡ refused Departs ∷ refused Departs ∷ refused Departs ∷ refused Departs ∷ refused Departs ∷ refused Departs ∷ refused Departs ∷ []
unfolding all some_digest_lem row one_page_lem
codecs_refused = refl

-- 6: a first entry with prefix 1. 7: ab and a/. 8: a/b2, then a/b1. 9: a root without entries, its left link to a page with a/b1. 10: the
-- register of a/b1 and a/b2 with one bit of its page link's digest flipped
trees_refused : map (λ (t : SpeltTree). judge (table t))
    (one_page_lem (spells 1 ab1 ∷ [])
    ∷ one_page_lem (spells 0 (0x61 ∷ 0x62 ∷ []) ∷ [])
    ∷ one_page_lem (spells 0 (0x61 ∷ 0x2F ∷ []) ∷ [])
    ∷ one_page_lem (spells 0 ab2 ∷ spells 3 (0x31 ∷ []) ∷ [])
    ∷ page (under some_digest_lem (one_page_lem (spells 0 ab1 ∷ []))) end
    ∷ flipped (spelt (tree_of_set two))
    ∷ [])
    ≡ refused WrongPrefix ∷ refused UnlawfulKey ∷ refused UnlawfulKey ∷ refused KeysNotRising ∷ refused WrongTree ∷ refused WrongDigest ∷ []
unfolding all some_digest_lem some_value spells row one_page_lem two flipped
trees_refused = refl
