-- The scope's numbers, written a second time: a limit that was misread is refused here.
use mathlib.Core.Path.{◌≡◌, refl}
use mathlib.Core.List.{[], ◌∷◌}
use Rattle.limits.specs.Limits.{longest, most, longest_key, deepest, numbers}

limits_are : longest ∷ most ∷ longest_key ∷ deepest ∷ numbers ∷ [] ≡ 4194304 ∷ 4096 ∷ 256 ∷ 129 ∷ 65536 ∷ []
limits_are = refl
