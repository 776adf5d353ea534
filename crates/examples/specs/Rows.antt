-- The rows to try that are marked, as one list.
use Rattle.std.specs.Prelude.{ℕ, ◌+◌, ◌≡◌, true, List, [], ◌∷◌, ◌++◌, map as map_list, length}
use Rattle.value.specs.Value.{is_value}
use Rattle.bytestring.specs.Bytes.{zeros}
use Rattle.key.specs.Layer.{layer_of_digest}
use Rattle.page.specs.Page.{RawEntry}
use Rattle.tree.specs.Tree.{Page, page, Gap, empty, under, Entries, end, entry, pages, Placed, tree_of}
use Rattle.tree.specs.Record.{Record, spelt}
use Rattle.tree.specs.Table.{bytes_of_page, raw_page, table, digest_of, table_of, tree_of_set}

-- The number of entries of each page, in table order.
unfoldable mutual
  pub entry_counts : {A D : Type 0} → Page A D → List ℕ
  entry_counts (page g es) = count_entries es ∷ (counts_under g ++ counts_from es)

  pub counts_under : {A D : Type 0} → Gap A D → List ℕ
  counts_under empty = []
  counts_under (under d p) = entry_counts p

  pub counts_from : {A D : Type 0} → Entries A D → List ℕ
  counts_from end = []
  counts_from (entry a g es) = counts_under g ++ counts_from es

  pub count_entries : {A D : Type 0} → Entries A D → ℕ
  count_entries end = 0
  count_entries (entry a g es) = 1 + count_entries es

-- The tree of a row of layers, whatever the keys.
abbrev pub at_layer : ℕ → Placed (Unit {0})
at_layer n = record { layer = n; item = tt }

unfoldable pub tree_of_layers : List ℕ → Page (Unit {0}) (Unit {0})
tree_of_layers ns = tree_of (λ _. tt) (map_list at_layer ns)

-- a/b1 and a/b2
abbrev pub ab1 : List ℕ
ab1 = 0x61 ∷ 0x2F ∷ 0x62 ∷ 0x31 ∷ []

abbrev pub ab2 : List ℕ
ab2 = 0x61 ∷ 0x2F ∷ 0x62 ∷ 0x32 ∷ []

-- One page with two records and no page links.
abbrev pub one_page : Record → Record → Page Record (List ℕ)
one_page r s = page empty (entry r empty (entry s empty end))

pub data TrialRow : Type 0 where
  -- Every digest of 32 bytes that begins with these bytes has this layer.
  of_digest : List ℕ → ℕ → TrialRow
  -- The empty set: so many bytes and pages.
  of_nothing : ℕ → ℕ → TrialRow
  -- One record under this key, whatever its layer and its value: so many bytes and pages.
  of_one : List ℕ → ℕ → ℕ → TrialRow
  -- Keys of these layers in order: so many entries in each page, in table order.
  of_layers : List ℕ → List ℕ → TrialRow
  -- One page with two keys and no page links, whatever the values: the second's prefix, the length of its remainder, and the page's bytes.
  of_two : List ℕ → List ℕ → ℕ → ℕ → ℕ → TrialRow

abbrev pub Holds : TrialRow → Type 0
Holds (of_digest begins layer) = (rest : List ℕ) → length (begins ++ rest) ≡ 32 → layer_of_digest (begins ++ rest) ≡ layer
Holds (of_nothing bytes count) = (length (table_of []) ≡ bytes) × (pages (tree_of_set []) ≡ count)
Holds (of_one k bytes count) =
    (layer : ℕ) (v : List ℕ) → is_value v ≡ true
    → (length (table (spelt (tree_of digest_of (record { layer = layer; item = record { key = k; val = v } } ∷ [])))) ≡ bytes)
    × (pages (tree_of digest_of (record { layer = layer; item = record { key = k; val = v } } ∷ [])) ≡ count)
Holds (of_layers ns counts) = entry_counts (tree_of_layers ns) ≡ counts
Holds (of_two k l shares rest bytes) =
    (v w : List ℕ) → is_value v ≡ true → is_value w ≡ true
    → (map_list (λ (e : RawEntry). e.shares) (raw_page (spelt (one_page (record { key = k; val = v }) (record { key = l; val = w })))).entries ≡ 0 ∷ shares ∷ [])
    × (map_list (λ (e : RawEntry). length e.remainder) (raw_page (spelt (one_page (record { key = k; val = v }) (record { key = l; val = w })))).entries ≡ length k ∷ rest ∷ [])
    × (length (bytes_of_page (spelt (one_page (record { key = k; val = v }) (record { key = l; val = w })))) ≡ bytes)

abbrev pub AllHold : List TrialRow → Type 0
AllHold [] = Unit {0}
AllHold (r ∷ rs) = Holds r × AllHold rs

abbrev pub rows : List TrialRow
rows =
    of_digest (0x80 ∷ []) 0
    ∷ of_digest (0x3F ∷ []) 1
    ∷ of_digest (0x1F ∷ []) 1
    ∷ of_digest (0x0F ∷ []) 2
    ∷ of_digest (0x00 ∷ 0x3F ∷ []) 5
    ∷ of_digest (zeros 32) 128
    ∷ of_nothing 7 1
    ∷ of_one ab1 64 1
    ∷ of_layers (0 ∷ 1 ∷ 0 ∷ []) (1 ∷ 1 ∷ 1 ∷ [])
    ∷ of_layers (0 ∷ 2 ∷ []) (1 ∷ 0 ∷ 1 ∷ [])
    ∷ of_layers (1 ∷ 1 ∷ []) (2 ∷ [])
    ∷ of_two ab1 ab2 3 1 118
    ∷ []
