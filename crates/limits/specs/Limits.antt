-- The limits of registers and of the numbers in their pages.
use Rattle.std.specs.Prelude.{ℕ, Bool, List, length, leb}

-- The longest register and the longest input of digest and layer: 4,194,304 bytes.
abbrev pub longest : ℕ
longest = 4194304

-- Whether the input of digest and layer is no longer.
abbrev pub fits_call : List ℕ → Bool
fits_call m = leb (length m) longest

-- The most records of a register.
abbrev pub most : ℕ
most = 4096

-- The longest key.
abbrev pub longest_key : ℕ
longest_key = 256

-- From the root down, itself included, at most 129 pages.
abbrev pub deepest : ℕ
deepest = 129

-- Each number in a page is below 65,536.
abbrev pub numbers : ℕ
numbers = 65536

-- Each entry of a page has at least 53 bytes: those before its fields, one for each number and for the gap after it, and its value's link.
abbrev pub shortest_entry : ℕ
shortest_entry = 53
