-- Pages by their places in one of two strings.
use Rattle.std.specs.Prelude.{Option, Some, None, IfSome}
use Prim.Native.Nat.{ℕ, ◌-◌}
use mathlib.Core.Path.{◌≡◌, refl, sym, ◌∙◌}
use mathlib.Core.Bool.{Bool, true, false, false≢true}
use mathlib.Core.List.{List}
use native.Mathlib.Omega.{arith}
use lib.ListN.{length, drop, length-drop}
use lib.Seq.{length-take-le}
use Rattle.bytestring.specs.Bytes.{equal}
use Rattle.bytestring.proofs.Equal.{equal_refl}
use Rattle.keeping.specs.declared.PagePart.{PagePart}
use Rattle.keeping.specs.Inner.{string_of, part_of, InString}

module _ (p register : List ℕ) (t : PagePart) where
  pub in_register : t.saved ≡ true → string_of p register t ≡ register
  in_register h = rw h

  pub in_sequence : t.saved ≡ false → string_of p register t ≡ p
  in_sequence h = rw h

pub part_length : (s : List ℕ) (t : PagePart) → InString s t → length (part_of s t) ≡ t.to - t.from
part_length s t i = length-take-le (t.to - t.from) (drop t.from s) (omega (arith, i.rises, i.within, length-drop t.from s))

pub parts_differ : (a b : List ℕ) (r : Bool) → r ≡ equal a b → r ≡ false → a ≡ b → ⊥
parts_differ a b r e h q = false≢true (sym h ∙ e ∙ rw q (equal_refl b))

pub if_some : {A : Type 0} {P : A → Type 0} (o : Option A) → ((x : A) → o ≡ Some x → P x) → IfSome o P
if_some None f = tt
if_some (Some x) f = f x refl
