-- The lines of two records: a/b1 with codec 55 and 32 digest bytes 1F, and a/b3 with codec 71 and 32 digest bytes A0.
use mathlib.Core.Path.{◌≡◌, refl}
use mathlib.Core.List.{[], ◌∷◌, ◌++◌}
use lib.ListN.{replicate}
use Rattle.page.specs.Reading.{concat}
use Rattle.promises.specs.Listing.{hex_digit, hexadecimal, record_lines}

-- By hand. First line: 61 2F 62 31 is 'a/b1', 20 the space, 35 35 the codec '55', then 32 times 31 66 for the digest's '1f', and 0A ends the
-- line. Second line: 61 2F 62 33 is 'a/b3', 20, 37 31 the codec '71', 32 times 61 30 for 'a0', and 0A.
lines_of_both_codecs :
    record_lines (
    record { key = 0x61 ∷ 0x2F ∷ 0x62 ∷ 0x31 ∷ []; val = 0x55 ∷ replicate 32 0x1F }
    ∷ record { key = 0x61 ∷ 0x2F ∷ 0x62 ∷ 0x33 ∷ []; val = 0x71 ∷ replicate 32 0xA0 } ∷ [])
    ≡ (0x61 ∷ 0x2F ∷ 0x62 ∷ 0x31 ∷ 0x20 ∷ 0x35 ∷ 0x35 ∷ []) ++ (concat (λ l. l) (replicate 32 (0x31 ∷ 0x66 ∷ [])) ++ (0x0A
    ∷ (0x61 ∷ 0x2F ∷ 0x62 ∷ 0x33 ∷ 0x20 ∷ 0x37 ∷ 0x31 ∷ []) ++ (concat (λ l. l) (replicate 32 (0x61 ∷ 0x30 ∷ [])) ++ (0x0A ∷ []))))
unfolding record_lines hexadecimal hex_digit
lines_of_both_codecs = refl
