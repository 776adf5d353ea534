-- What the pass over the layers says.
use Rattle.std.specs.Prelude.{ℕ, ◌+◌, ◌^◌, ◌≤◌, ◌<◌, ◌≡◌, Bool, true, List, [], ◌∷◌, length, get_or}
use Rattle.key.specs.Key.{lawful}
use Rattle.key.specs.Layer.{layer_of}
use Rattle.index.specs.Slot.{Slot, key_of, level_slots}
use Rattle.index.specs.Standing.{SlotAt}
use Rattle.index.specs.Walk.{DepthWord, blank, HoldsWords, Indexes}

-- The first n words of the index are those of slots with lawful keys, with their depths.
pub record Depths (s index : List ℕ) (n : ℕ) : Type 0 where
  pub slots : List Slot
  pub number : length slots ≡ n
  pub room : n ≤ length index
  pub short : length s < 2 ^ 24
  pub there : (i : ℕ) → i < n → SlotAt s (get_or slots i blank)
  pub keys : (i : ℕ) → i < n → lawful (key_of (get_or slots i blank)) ≡ true
  pub words : HoldsWords DepthWord index slots

-- What the first record's layer and depth make together.
unfoldable pub top_of : List Slot → ℕ
top_of [] = 0
top_of (x ∷ xs) = layer_of (key_of x) + x.depth

-- Whether they make the same for every record; and then the words have the layers.
abbrev pub LayersSay : List ℕ → List ℕ → ℕ → Bool → List ℕ → Type 0
LayersSay s index n r index' =
    (d : Depths s index n) → (r ≡ level_slots (top_of d.slots) d.slots) × (r ≡ true → Indexes index' d.slots)
