-- The digest that stands in a register for a page of it.
use Rattle.std.specs.Prelude.{Option, Some}
use Prim.Native.Nat.{ℕ, ◌+◌, ◌-◌, ◌*◌, ◌/◌, ◌<◌}
use mathlib.Core.Path.{◌≡◌, sym, ap, subst, ◌∙◌}
use mathlib.Core.Bool.{Bool, false, not}
use mathlib.Core.List.{List}
use native.Mathlib.Omega.{arith}
use borrow.Author.Tests.{eq-eqb, ne_eqb, not-false}
use lib.ListN.{length, take, drop}
use lib.Seq.{length-take-le, get_or-take}
use Rattle.word.specs.Word.{page_in, link_in, above_in, end_in}
use Rattle.bytestring.proofs.Equal.{equal_true}
use Rattle.bytestring.specs.Bytes.{equal}
use Rattle.fips180.specs.Hash.{sha256}
use Rattle.index.specs.Chain.{last_label, PageLabelled, Labelled}
use Rattle.labels.specs.Label.{EachLabelled, ChainFound, DigestStands, DigestFound}

-- ---- the place of a label
module _ (w above : ℕ) (a : above ≡ above_in w) where
  pub label_first : (r : ℕ) → above ≡ 0 → r ≡ link_in w → r ≡ last_label w
  unfolding last_label
  label_first r e f = rw (eq-eqb (above_in w) 0 (sym a ∙ e)) f

  pub label_above : (pg r : ℕ) → (above ≡ 0 → ⊥) → pg ≡ page_in w → r ≡ pg - 32 → r ≡ last_label w
  unfolding last_label
  label_above pg r f p e = rw (ne_eqb (above_in w) 0 (λ q. f (a ∙ q)), ← p) e

-- ---- the chains of a register, cut to their words
pub each_labelled : {s chains : List ℕ} {count : ℕ} → Labelled s chains count → EachLabelled s (take (2 * count) chains)
each_labelled {s} {chains} {count} l =
    let size : length (take (2 * count) chains) ≡ 2 * count = length-take-le (2 * count) chains l.room in
    let half : length (take (2 * count) chains) / 2 ≡ count = omega arith in
    rw half (record {
      room = omega arith;
      pages = λ i h. rw (get_or-take (2 * count) chains (2 * i) 0 (omega arith), get_or-take (2 * count) chains (2 * i + 1) 0 (omega arith)) (l.pages i h);
    })

-- ---- the digest of the bytes of a page
pub chain_is : (chains : List ℕ) (page : ℕ) (got : Option ℕ) → ChainFound chains page got → (i : ℕ) → got ≡ Some i → i < length chains / 2
chain_is chains page got w i e = (subst (ChainFound chains page) e w).0

pub digest_is : (s bytes : List ℕ) (got : Option ℕ) → DigestFound s bytes got → (place : ℕ) → got ≡ Some place → DigestStands s bytes place
digest_is s bytes got w place e = subst (DigestFound s bytes) e w

pub label_stands : (s bytes : List ℕ) (w v from to link label : ℕ) (same : Bool) → PageLabelled s w v
    → link ≡ link_in w → (link ≡ 0 → ⊥) → from ≡ page_in w → to ≡ end_in v
    → same ≡ equal (take (to - from) (drop from s)) bytes → not same ≡ false → label ≡ last_label w → DigestStands s bytes label
label_stands s bytes w v from to link label same p el some ef et es same-there e =
    let h : 0 < link_in w = omega arith in
    let q : take (end_in v - page_in w) (drop (page_in w) s) ≡ bytes =
    equal_true _ bytes (rw (← ef, ← et) (sym es ∙ not-false same same-there)) in
    record { fits = rw e (p.fits h); digest = rw e (p.digest h ∙ ap sha256 q) }
