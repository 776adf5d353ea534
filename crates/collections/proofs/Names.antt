-- Collection names: the part before the slash in some lawful key, by its bytes, and by the test of the call.
use Prim.Native.Nat.{ℕ, ◌+◌}
use mathlib.Core.Path.{◌≡◌, refl, sym, ap, ◌∙◌}
use mathlib.Core.Bool.{true, ◌&&◌, false≢true}
use mathlib.Core.List.{List, [], ◌∷◌, ◌++◌}
use native.Mathlib.Omega.{arith}
use lib.Dec.{eqb, leb}
use lib.ListN.{length, length-append}
use borrow.Author.Tests.{le-leb, leb-true}
use borrow.Table.Steps.{cases}
use Rattle.limits.specs.Limits.{longest_key}
use Rattle.bytestring.proofs.Tools.{and_inv}
use Rattle.key.specs.Key.{slash_byte, ordinary, collection, name, all_ordinary, lawful}
use Rattle.key.proofs.Lawful.{ordinary_no_slash, no_collection, no_name, lawful_parts}
use Rattle.key.proofs.SlashLaws.{slash_stands}
use Rattle.key.proofs.Laws.{lawful_length}
use Rattle.collections.specs.Screen.{longest_collection, is_collection_name}
use Rattle.collections.specs.Order.{CollectionName, ShortOrdinary}
use Rattle.collections.specs.Promises.{CollectionNames}

-- ---- the parts of a name, a slash and a rest
module _ (rest : List ℕ) where
  abbrev key : List ℕ → List ℕ
  key c = c ++ (slash_byte ∷ rest)

  pub collection_key : (c : List ℕ) → all_ordinary c ≡ true → collection (key c) ≡ c
  unfolding collection all_ordinary
  collection_key [] h = refl
  collection_key (b ∷ c) h =
      cases (ordinary b)
      (λ e. rw (ordinary_no_slash b e) (ap (λ (s : List ℕ). b ∷ s) (collection_key c (rw e at h))))
      (λ e. absurd (false≢true (rw e at h)))

  name_key : (c : List ℕ) → all_ordinary c ≡ true → name (key c) ≡ rest
  unfolding name all_ordinary
  name_key [] h = refl
  name_key (b ∷ c) h =
      cases (ordinary b) (λ e. rw (ordinary_no_slash b e) (name_key c (rw e at h))) (λ e. absurd (false≢true (rw e at h)))

  -- a slash is not ordinary
  slash_inside : (c : List ℕ) → all_ordinary (key c) ≡ true → ⊥
  unfolding all_ordinary ordinary
  slash_inside [] h = false≢true h
  slash_inside (b ∷ c) h = cases (ordinary b) (λ e. slash_inside c (rw e at h)) (λ e. false≢true (rw e at h))

  -- so the name has none where both parts are ordinary
  parts_ordinary : (c : List ℕ) → all_ordinary (collection (key c)) ≡ true → all_ordinary (name (key c)) ≡ true → all_ordinary c ≡ true
  unfolding collection name all_ordinary
  parts_ordinary [] h n = refl
  parts_ordinary (b ∷ c) h n =
      cases (eqb b slash_byte)
      (λ e. absurd (slash_inside c (rw e at n)))
      (λ e. cases (ordinary b) (λ f. rw f (parts_ordinary c (rw (e, f) at h) (rw e at n))) (λ f. absurd (false≢true (rw (e, f) at h))))

-- ---- a name by its bytes
pub short_passes : (c : List ℕ) → ShortOrdinary c → is_collection_name c ≡ true
unfolding is_collection_name
short_passes c h =
    rw (le-leb 1 (length c) h.some, le-leb (length c) longest_collection (omega (arith, h.few)), h.bytes)

pub passes_short : (c : List ℕ) → is_collection_name c ≡ true → ShortOrdinary c
unfolding is_collection_name
passes_short c h =
    let w = and_inv (leb 1 (length c) && leb (length c) longest_collection) h in
    let sizes = and_inv (leb 1 (length c)) w.0 in
    record { some = leb-true 1 (length c) sizes.0; few = omega (arith, leb-true (length c) longest_collection sizes.1); bytes = w.1 }

pub name_short : (c : List ℕ) → CollectionName c → ShortOrdinary c
name_short c n =
    let k = n.key in
    let parts = (slash_stands k n.rule).2.parts in
    let before : length (collection k) ≡ 0 → ⊥ = λ e. false≢true (sym (no_collection k e) ∙ n.rule) in
    let after : length (name k) ≡ 0 → ⊥ = λ e. false≢true (sym (no_name k e) ∙ n.rule) in
    let whole = ap length parts ∙ length-append (collection k) (slash_byte ∷ name k) in
    let same = ap length n.before in
    record {
      some = omega (arith, before, same);
      few = omega (arith, whole, after, lawful_length k n.rule, same);
      bytes = rw (← n.before) (lawful_parts k n.rule).0;
    }

-- ---- the key of the name and the letter a
abbrev pub tried : List ℕ → List ℕ
tried c = key (0x61 ∷ []) c

pub short_tried : (c : List ℕ) → ShortOrdinary c → lawful (tried c) ≡ true
unfolding lawful all_ordinary ordinary
short_tried c h =
    rw (
      collection_key (0x61 ∷ []) c h.bytes,
      name_key (0x61 ∷ []) c h.bytes,
      length-append,
      le-leb 3 (length c + 2) (omega (arith, h.some)),
      le-leb (length c + 2) longest_key (omega (arith, h.few)),
      le-leb 1 (length c) h.some,
      h.bytes,
    )

pub tried_name : (c : List ℕ) → lawful (tried c) ≡ true → CollectionName c
tried_name c h =
    let w = lawful_parts (tried c) h in
    record { key = tried c; rule = h; before = collection_key (0x61 ∷ []) c (parts_ordinary (0x61 ∷ []) c w.0 w.1) }

pub collection_names : CollectionNames
collection_names c = (name_short c, λ h. tried_name c (short_tried c h))
