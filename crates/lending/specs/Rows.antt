-- The rows that are lent for a register.
use Rattle.std.specs.Prelude.{ℕ, List, length, leb, cond}
use Rattle.limits.specs.Limits.{most}

-- So many words has a row with a word for each record: 256 for a register of at most 13,515 bytes, which has at most 255 records, and otherwise
-- 4,096.
abbrev pub row_words : List ℕ → ℕ
row_words s = cond (leb (length s) 13515) 256 most
