-- The walk's test of a page, made at places of the slice, is that of the page that was read.
use Prim.Native.Nat.{ℕ, zero, suc}
use mathlib.Core.Path.{◌≡◌, refl, sym, subst}
use mathlib.Core.Option.{Option, none, some}
use mathlib.Core.List.{List}
use native.Mathlib.Omega.{arith}
use lib.ListN.{length}
use Rattle.page_reader.specs.Place.{link_at}
use Rattle.tree.specs.Tree.{page, Gap, empty, under, Entries, end, entry}
use Rattle.tree.specs.Record.{Spelt}
use Rattle.tree.specs.Table.{link_of, raw_entries}
use Rattle.index.specs.Slot.{bare}
use Rattle.index.specs.Walk.{page_holds, holding}

abbrev IsSome : {A : Type 0} → Option A → Type 0
IsSome none = ⊥
IsSome (some a) = Unit {0}

some≢none : {A : Type 0} {a : A} → some a ≡ none → ⊥
some≢none e = subst IsSome e tt

pub page_holding : (s : List ℕ) (link count left : ℕ) (g : Gap Spelt (List ℕ)) (es : Entries Spelt (List ℕ))
    → link_of g ≡ link_at s left → length (raw_entries es) ≡ count → page_holds link count left ≡ holding link (page g es)
unfolding page_holds holding bare link_of raw_entries link_at
page_holding s link (suc count) left g end p q = absurd (omega arith)
page_holding s link zero (suc left) empty end p q = absurd (some≢none (sym p))
page_holding s link zero zero (under d t) end p q = absurd (some≢none p)
page_holding s zero zero zero empty end p q = refl
page_holding s zero zero (suc left) (under d t) end p q = refl
page_holding s (suc link) zero zero empty end p q = refl
page_holding s (suc link) zero (suc left) (under d t) end p q = refl
page_holding s link zero left g (entry e h es) p q = absurd (omega arith)
page_holding s zero (suc count) left empty (entry e h es) p q = refl
page_holding s zero (suc count) left (under d t) (entry e h es) p q = refl
page_holding s (suc link) (suc count) left empty (entry e h es) p q = refl
page_holding s (suc link) (suc count) left (under d t) (entry e h es) p q = refl
