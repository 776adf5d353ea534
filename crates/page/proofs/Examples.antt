-- Small examples of numbers and pages: antt computes them from the definitions.
use Prim.Native.Nat.{ℕ}
use mathlib.Core.Path.{◌≡◌, refl}
use mathlib.Core.Option.{none}
use mathlib.Core.List.{[], ◌∷◌, ◌++◌, map}
use lib.ListN.{length, replicate}
use Rattle.value.specs.Value.{is_codec}
use Rattle.page.specs.Reading.{read, ends_early, departs, exactly, any_bytes, times}
use Rattle.page.specs.Number.{plain_number, number_bytes, one_byte, two_bytes, number}
use Rattle.page.specs.Page.{before_codec, link, gap_bytes, gap, value_bytes, codec, value, entry_bytes, entry, RawPage, page_bytes, page}

-- 23, 24, 255, 256 and 65,535
numbers_written : map (number_bytes plain_number) (23 ∷ 24 ∷ 255 ∷ 256 ∷ 65535 ∷ [])
    ≡ (0x17 ∷ []) ∷ (0x18 ∷ 0x18 ∷ []) ∷ (0x18 ∷ 0xFF ∷ []) ∷ (0x19 ∷ 0x01 ∷ 0x00 ∷ []) ∷ (0x19 ∷ 0xFF ∷ 0xFF ∷ []) ∷ []
unfolding number_bytes
numbers_written = refl

-- a one-byte number below 24, a two-byte number with a first byte 00, at which it departs already, and longer forms
numbers_refused : map (number plain_number)
    ((0x18 ∷ 0x17 ∷ []) ∷ (0x19 ∷ 0x00 ∷ []) ∷ (0x1A ∷ []) ∷ (0x1F ∷ []) ∷ (0x19 ∷ 0x01 ∷ []) ∷ (0x18 ∷ []) ∷ [])
    ≡ departs ∷ departs ∷ departs ∷ departs ∷ ends_early ∷ ends_early ∷ []
unfolding number one_byte two_bytes
numbers_refused = refl

-- the empty register, and inputs that end early or depart
empty_written : page_bytes (record { entries = []; left = none }) ≡ 0xA2 ∷ 0x61 ∷ 0x65 ∷ 0x80 ∷ 0x61 ∷ 0x6C ∷ 0xF6 ∷ []
unfolding page_bytes number_bytes gap_bytes
empty_written = refl

pages_refused : map page ([] ∷ (0xA2 ∷ 0x61 ∷ 0x65 ∷ 0x80 ∷ 0x61 ∷ 0x6C ∷ []) ∷ (0xA2 ∷ 0x61 ∷ 0x6C ∷ []) ∷ []) ≡ ends_early ∷ ends_early ∷ departs ∷ []
unfolding page exactly number times gap
pages_refused = refl

-- one record, a/b1 with the value of codec 71 and 32 digest bytes 11
one : RawPage
one = record { entries = record { shares = 0; remainder = 0x61 ∷ 0x2F ∷ 0x62 ∷ 0x31 ∷ []; after = none; val = 0x71 ∷ replicate 32 0x11 } ∷ []; left = none }

one_written : page_bytes one
    ≡ (0xA2 ∷ 0x61 ∷ 0x65 ∷ 0x81 ∷ 0xA4 ∷ 0x61 ∷ 0x6B ∷ 0x44 ∷ 0x61 ∷ 0x2F ∷ 0x62 ∷ 0x31 ∷ 0x61 ∷ 0x70 ∷ 0x00 ∷ 0x61 ∷ 0x74 ∷ 0xF6 ∷ 0x61 ∷ 0x76
    ∷ 0xD8 ∷ 0x2A ∷ 0x58 ∷ 0x25 ∷ 0x00 ∷ 0x01 ∷ 0x71 ∷ 0x12 ∷ 0x20 ∷ []) ++ (replicate 32 0x11 ++ (0x61 ∷ 0x6C ∷ 0xF6 ∷ []))
unfolding one page_bytes entry_bytes number_bytes gap_bytes value_bytes
one_written = refl

one_read : page (page_bytes one) ≡ read one []
unfolding one page_bytes entry_bytes number_bytes gap_bytes value_bytes page entry exactly number any_bytes times gap codec value is_codec
one_read = refl

-- two records, a/b1 with codec 71 and digest bytes 11, and a/b2 with codec 55 and digest bytes 22
two : RawPage
two = record {
  entries =
      record { shares = 0; remainder = 0x61 ∷ 0x2F ∷ 0x62 ∷ 0x31 ∷ []; after = none; val = 0x71 ∷ replicate 32 0x11 }
      ∷ record { shares = 3; remainder = 0x32 ∷ []; after = none; val = 0x55 ∷ replicate 32 0x22 }
      ∷ [];
  left = none;
}

-- 118 bytes. The page: A2, 6165 and 82, two entries. The first of 57: A4, 616B and 44, the four bytes a/b1, 6170 and 00, 6174 and F6, 6176 and
-- the link of its value with 71. The second of 54: the same with 41, the one byte 32, after 03 shared bytes, and 55 in the link. Then 616C and F6
two_written : page_bytes two
    ≡ (0xA2 ∷ 0x61 ∷ 0x65 ∷ 0x82 ∷ [])
    ++ ((0xA4 ∷ 0x61 ∷ 0x6B ∷ 0x44 ∷ 0x61 ∷ 0x2F ∷ 0x62 ∷ 0x31 ∷ 0x61 ∷ 0x70 ∷ 0x00 ∷ 0x61 ∷ 0x74 ∷ 0xF6 ∷ 0x61 ∷ 0x76
    ∷ 0xD8 ∷ 0x2A ∷ 0x58 ∷ 0x25 ∷ 0x00 ∷ 0x01 ∷ 0x71 ∷ 0x12 ∷ 0x20 ∷ []) ++ (replicate 32 0x11
    ++ ((0xA4 ∷ 0x61 ∷ 0x6B ∷ 0x41 ∷ 0x32 ∷ 0x61 ∷ 0x70 ∷ 0x03 ∷ 0x61 ∷ 0x74 ∷ 0xF6 ∷ 0x61 ∷ 0x76
    ∷ 0xD8 ∷ 0x2A ∷ 0x58 ∷ 0x25 ∷ 0x00 ∷ 0x01 ∷ 0x55 ∷ 0x12 ∷ 0x20 ∷ []) ++ (replicate 32 0x22
    ++ (0x61 ∷ 0x6C ∷ 0xF6 ∷ [])))))
unfolding two page_bytes entry_bytes number_bytes gap_bytes value_bytes
two_written = refl

two_length : length (page_bytes two) ≡ 118
unfolding two page_bytes entry_bytes number_bytes gap_bytes value_bytes
two_length = refl

two_read : page (page_bytes two) ≡ read two []
unfolding two page_bytes entry_bytes number_bytes gap_bytes value_bytes page entry exactly number any_bytes times gap codec value is_codec
two_read = refl

-- the codecs 00, 54, 56, 70, 72 and FF in a value's link, which departs at that byte already, and 55 in a page's
codecs_refused : map (λ (c : ℕ). value (before_codec ++ (c ∷ []))) (0x00 ∷ 0x54 ∷ 0x56 ∷ 0x70 ∷ 0x72 ∷ 0xFF ∷ [])
    ≡ departs ∷ departs ∷ departs ∷ departs ∷ departs ∷ departs ∷ []
unfolding value exactly codec is_codec
codecs_refused = refl

raw_page_refused : gap (before_codec ++ (0x55 ∷ [])) ≡ departs
unfolding gap link exactly
raw_page_refused = refl
