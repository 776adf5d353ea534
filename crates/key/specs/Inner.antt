-- What laws of keys and contracts inside the library cite, and no public contract does.
use Rattle.std.specs.Prelude.{ℕ, Bool, ◌&&◌, List}
use Rattle.key.specs.Key.{collection, name, all_ordinary}

-- Whether all bytes but the first slash are ordinary.
unfoldable pub only_slash : List ℕ → Bool
only_slash k = all_ordinary (collection k) && all_ordinary (name k)
