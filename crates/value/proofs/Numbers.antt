-- The scope's lengths and codecs, written a second time: one that was misread is refused here.
use mathlib.Core.Path.{◌≡◌, refl}
use mathlib.Core.Bool.{true, false}
use mathlib.Core.List.{[], ◌∷◌, map}
use Rattle.value.specs.Value.{digest_length, raw, dag_cbor, is_codec, value_length}

lengths_are : digest_length ∷ value_length ∷ [] ≡ 32 ∷ 33 ∷ []
lengths_are = refl

codecs_are : raw ∷ dag_cbor ∷ [] ≡ 0x55 ∷ 0x71 ∷ []
codecs_are = refl

codecs_told : map is_codec (0x00 ∷ 0x54 ∷ 0x55 ∷ 0x56 ∷ 0x70 ∷ 0x71 ∷ 0x72 ∷ 0xFF ∷ [])
    ≡ false ∷ false ∷ true ∷ false ∷ false ∷ true ∷ false ∷ false ∷ []
unfolding is_codec
codecs_told = refl
