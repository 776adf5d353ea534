-- A digest, compared with the bytes at a place.
use Prim.Native.Nat.{ℕ, ◌+◌, ◌<◌}
use mathlib.Core.Path.{◌≡◌, sym, ap}
use mathlib.Core.Bool.{false}
use mathlib.Core.List.{List}
use native.Mathlib.Omega.{arith}
use lib.ListN.{length, take, drop, length-take, length-drop}
use Rattle.bytestring.specs.Bytes.{equal}
use Rattle.bytestring.proofs.Equal.{equal-cases}

-- where fewer bytes than those of a digest stand, no digest does
pub too_few_bytes : (s digest : List ℕ) (at : ℕ) → length digest ≡ 32 → length s < at + 32 → false ≡ equal (take 32 (drop at s)) digest
too_few_bytes s digest at size h =
    equal-cases (take 32 (drop at s)) digest
    (λ e q. absurd (omega (arith, ap length q, length-take 32 (drop at s), length-drop at s)))
    (λ e g. sym e)
