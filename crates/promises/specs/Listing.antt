-- The listing program's text for what it reads from standard input.
use Rattle.std.specs.Prelude.{ℕ, zero, suc, ◌+◌, ◌/◌, ◌%◌, ◌≤◌, ◌≡◌, cond, List, [], ◌∷◌, ◌++◌, length, take, ltb, leb}
use Rattle.bytestring.specs.Bytes.{ByteString}
use Rattle.answer.specs.Answer.{number_of}
use Rattle.answer.specs.declared.Refusal.{Refusal}
use Rattle.answer.specs.declared.Refusal.TheVariants.{TooLong}
use Rattle.tree.specs.Record.{Record, records}
use Rattle.tree.specs.Judge.{Verdict, refused, accepted, judge}

-- A number in decimal, of at most 20 digits.
unfoldable pub digits : ℕ → ℕ → List ℕ
digits zero n = []
digits (suc more) n =
    let higher : List ℕ = digits more (n / 10) in
    cond (ltb n 10) ((0x30 + n) ∷ []) (higher ++ ((0x30 + n % 10) ∷ []))

abbrev pub decimal : ℕ → List ℕ
decimal n = digits 20 n

-- Lower-case hexadecimal digits, two for each byte.
unfoldable pub hex_digit : ℕ → ℕ
hex_digit n = cond (ltb n 10) (0x30 + n) (0x57 + n)

unfoldable pub hexadecimal : List ℕ → List ℕ
hexadecimal [] = []
hexadecimal (b ∷ s) = hex_digit (b / 16) ∷ hex_digit (b % 16) ∷ hexadecimal s

-- Each line ends with one line feed.
abbrev pub space : ℕ
space = 0x20

abbrev pub line_feed : ℕ
line_feed = 0x0A

-- A line for each record in key order: key, space, value. A value is its codec's two digits and the 64 of its digest.
unfoldable pub record_lines : List Record → List ℕ
record_lines [] = []
record_lines (r ∷ rs) = r.key ++ (space ∷ (hexadecimal r.val ++ (line_feed ∷ record_lines rs)))

-- 'records', a space and the count.
unfoldable pub listing_of : List Record → List ℕ
listing_of rs =
    (0x72 ∷ 0x65 ∷ 0x63 ∷ 0x6F ∷ 0x72 ∷ 0x64 ∷ 0x73 ∷ space ∷ []) ++ (decimal (length rs) ++ (line_feed ∷ record_lines rs))

-- 'refused', a space and the number.
unfoldable pub refusal_line : Refusal → List ℕ
refusal_line r = (0x72 ∷ 0x65 ∷ 0x66 ∷ 0x75 ∷ 0x73 ∷ 0x65 ∷ 0x64 ∷ space ∷ []) ++ (decimal (number_of r) ++ (line_feed ∷ []))

unfoldable pub listing_verdict : Verdict → List ℕ
listing_verdict (refused r) = refusal_line r
listing_verdict (accepted t) = listing_of (records t)

-- The program reads at most 65,536 bytes; input over that gives 'refused 1'.
abbrev pub longest_input : ℕ
longest_input = 65536

unfoldable pub listing : List ℕ → List ℕ
listing s = cond (leb (length s) longest_input) (listing_verdict (judge s)) (refusal_line TooLong)

-- The first 65,537 bytes of an input decide its listing; the program reads no more.
abbrev pub FirstBytesDecide : Type 0
FirstBytesDecide = (s : List ℕ) → listing (take (longest_input + 1) s) ≡ listing s

-- No listing is longer than the program's output, 524,288 bytes.
abbrev pub longest_listing : ℕ
longest_listing = 524288

abbrev pub ListingFits : Type 0
ListingFits = (s : ByteString) → length (listing s.list) ≤ longest_listing
