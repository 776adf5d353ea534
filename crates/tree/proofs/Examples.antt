-- An example that takes no digest: antt computes it from the definitions.
use Prim.Native.Nat.{ℕ}
use mathlib.Core.Path.{◌≡◌, refl}
use mathlib.Core.List.{List, [], ◌∷◌, map}
use Rattle.tree.specs.Tree.{page, Gap, empty, under, end, entry, items}
use Rattle.tree.specs.Record.{Record, Spelt, keyed, records}

-- one page with one entry of no value, and a gap after it
alone : ℕ → List ℕ → Gap Spelt (List ℕ) → Gap Spelt (List ℕ)
alone n rest g = under [] (page empty (entry (record { shares = n; remainder = rest; val = [] }) g end))

-- The first entry of a page takes nothing from the key before its gap: below a/b1 a prefix of 3 bytes and the byte 32 make the key 2.
prefix_within_page : map (λ (r : Record). r.key) (records (page (alone 0 (0x61 ∷ 0x2F ∷ 0x62 ∷ 0x31 ∷ []) (alone 3 (0x32 ∷ []) empty)) end))
    ≡ (0x61 ∷ 0x2F ∷ 0x62 ∷ 0x31 ∷ []) ∷ (0x32 ∷ []) ∷ []
unfolding items keyed alone
prefix_within_page = refl
