-- The tally of a list of records in a page of a layer, and what one key or one linked page adds to it.
use Prim.Native.Nat.{ℕ, suc, ◌+◌, ◌≤◌}
use mathlib.Core.Path.{◌≡◌, refl, sym, ap, ◌∙◌}
use mathlib.Core.Bool.{Bool, true}
use mathlib.Core.Option.{Option, none, some, none-ne-some, some-injective}
use mathlib.Core.List.{List, [], ◌∷◌, ◌++◌}
use native.Mathlib.Omega.{arith}
use lib.ListN.{length, length-append}
use borrow.Author.Tests.{eq-eqb}
use Rattle.bytestring.proofs.Tools.{and_inv, and_both}
use Rattle.limits.specs.Limits.{most}
use Rattle.key.specs.Layer.{layer_of}
use Rattle.tree.specs.Record.{Record, keyed, records}
use Rattle.tree.specs.Table.{SpeltTree}
use Rattle.tree.specs.Judge.{prefixes_right, all_lawful, rising}
use Rattle.tree.proofs.Laws.{Layered, layer_of_record}
use Rattle.summaries.specs.Summary.{Summary, Tally, agrees, passes, or_first, with_key, with_page}
use Rattle.summaries.proofs.Keys.{rises_after, last_key_after, after_append, last_key_append, after_rising, after_known, all_lawful_append}

-- ---- the tally of a list of records
abbrev pub first_key_of : List Record → Option (List ℕ)
first_key_of [] = none
first_key_of (r ∷ rs) = some r.key

abbrev pub layer_with : ℕ → List Record → Option ℕ
layer_with n [] = none
layer_with n (r ∷ rs) = some n

abbrev pub last_key_of : List Record → Option (List ℕ)
last_key_of rs = last_key_after none rs

abbrev pub tally_of : ℕ → List Record → Tally
tally_of n rs = record { layer = layer_with n rs; count = length rs; first = first_key_of rs; last = last_key_of rs }

pub with_agrees : (n m : ℕ) (rs : List Record) → m ≡ n → agrees (layer_with n rs) m ≡ true
unfolding agrees
with_agrees n m [] e = refl
with_agrees n m (r ∷ rs) e = eq-eqb n m (sym e)

-- one record more
layer_key : (n m : ℕ) (rs : List Record) (r : Record) → m ≡ n → some m ≡ layer_with n (rs ++ (r ∷ []))
layer_key n m [] r e = ap some e
layer_key n m (q ∷ rs) r e = ap some e

first_with_key : (rs : List Record) (r : Record) → or_first (first_key_of rs) r.key ≡ first_key_of (rs ++ (r ∷ []))
unfolding or_first
first_with_key [] r = refl
first_with_key (q ∷ rs) r = refl

pub last_with_key : (rs : List Record) (r : Record) → last_key_of (rs ++ (r ∷ [])) ≡ some r.key
unfolding last_key_after
last_with_key rs r = last_key_append none rs (r ∷ [])

pub with_key_lem : (n : ℕ) (rs : List Record) (r : Record) → layer_of r.key ≡ n → with_key r.key (tally_of n rs) ≡ tally_of n (rs ++ (r ∷ []))
with_key_lem n rs r e =
    let count : suc (length rs) ≡ length (rs ++ (r ∷ [])) = omega (arith, length-append rs (r ∷ [])) in
    λ i. record {
      layer = layer_key n (layer_of r.key) rs r e i;
      count = count i;
      first = first_with_key rs r i;
      last = sym (last_with_key rs r) i;
    }

-- the records of one linked page more
layer_page : (n m : ℕ) (rs qs : List Record) (f : List ℕ) → m ≡ n → first_key_of qs ≡ some f → some m ≡ layer_with n (rs ++ qs)
layer_page n m [] [] f e h = absurd (none-ne-some _ h)
layer_page n m [] (q ∷ qs) f e h = ap some e
layer_page n m (r ∷ rs) qs f e h = ap some e

first_with_page : (rs qs : List Record) (f : List ℕ) → first_key_of qs ≡ some f → or_first (first_key_of rs) f ≡ first_key_of (rs ++ qs)
unfolding or_first
first_with_page [] qs f h = sym h
first_with_page (r ∷ rs) qs f h = refl

last_with_page : (l : Option (List ℕ)) (qs : List Record) (f : List ℕ) → first_key_of qs ≡ some f → last_key_of qs ≡ last_key_after l qs
unfolding last_key_after
last_with_page l [] f h = absurd (none-ne-some _ h)
last_with_page l (q ∷ qs) f h = refl

-- ---- a summary is one of a tree
pub record Summarises (x : Summary) (t : SpeltTree) : Type 0 where
  pub count : length (records t) ≡ x.count
  pub first : first_key_of (records t) ≡ some x.first
  pub last : last_key_of (records t) ≡ some x.last

pub with_page_lem : (n : ℕ) (rs : List Record) (x : Summary) (t : SpeltTree) → suc x.layer ≡ n → Summarises x t
    → with_page x (tally_of n rs) ≡ tally_of n (rs ++ records t)
with_page_lem n rs x t e s =
    let count : length rs + x.count ≡ length (rs ++ records t) = omega (arith, length-append rs (records t), s.count) in
    let last : some x.last ≡ last_key_of (rs ++ records t) =
    sym s.last ∙ last_with_page (last_key_of rs) (records t) x.first s.first ∙ sym (last_key_append none rs (records t)) in
    λ i. record {
      layer = layer_page n (suc x.layer) rs (records t) x.first e s.first i;
      count = count i;
      first = first_with_page rs (records t) x.first s.first i;
      last = last i;
    }

-- ---- rising
pub rises_known : (l : Option (List ℕ)) (f : List ℕ) (qs : List Record) → first_key_of qs ≡ some f → rising qs ≡ true → passes l f ≡ true
    → rises_after l qs ≡ true
rises_known l f [] e h p = absurd (none-ne-some _ e)
rises_known l f (q ∷ qs) e h p = after_known l q qs h ∙ ap (passes l) (some-injective q.key f e) ∙ p

pub known_rises : (l : Option (List ℕ)) (f : List ℕ) (qs : List Record) → first_key_of qs ≡ some f → rises_after l qs ≡ true → passes l f ≡ true
unfolding rises_after
known_rises l f [] e h = absurd (none-ne-some _ e)
known_rises l f (q ∷ qs) e h = ap (passes l) (sym (some-injective q.key f e)) ∙ (and_inv (passes l q.key) h).0

pub rises_rising : (l : Option (List ℕ)) (qs : List Record) → rises_after l qs ≡ true → rising qs ≡ true
unfolding rises_after passes
rises_rising l [] h = sym (after_rising []) ∙ h
rises_rising l (q ∷ qs) h = sym (after_rising (q ∷ qs)) ∙ (and_inv (passes l q.key) h).1

-- ---- a tree, and a part of a page, with numbers 5 to 9 right at a layer
pub record FineTree (n : ℕ) (t : SpeltTree) : Type 0 where
  pub few : length (records t) ≤ most
  pub prefixes : prefixes_right t ≡ true
  pub keys : all_lawful (records t) ≡ true
  pub order : rising (records t) ≡ true
  pub layers : Layered layer_of_record n (keyed t)
  pub low : n ≤ 128
  pub filled : records t ≡ [] → ⊥

-- a part with these records after the last key `l`; `test` is that of its prefixes
pub record FinePart (l : Option (List ℕ)) (test : Bool) (Layers : Type 0) (rs : List Record) : Type 0 where
  pub prefixes : test ≡ true
  pub keys : all_lawful rs ≡ true
  pub order : rises_after l rs ≡ true
  pub layers : Layers

-- two parts
pub lawful_both : (a b : List Record) → all_lawful a ≡ true → all_lawful b ≡ true → all_lawful (a ++ b) ≡ true
lawful_both a b h k = all_lawful_append a b ∙ and_both h k

pub lawful_each : (a b : List Record) → all_lawful (a ++ b) ≡ true → (all_lawful a ≡ true) × (all_lawful b ≡ true)
lawful_each a b h = and_inv (all_lawful a) (sym (all_lawful_append a b) ∙ h)

pub rises_both : (rs a b : List Record) → rises_after (last_key_of rs) a ≡ true → rises_after (last_key_of (rs ++ a)) b ≡ true
    → rises_after (last_key_of rs) (a ++ b) ≡ true
rises_both rs a b h k =
    after_append (last_key_of rs) a b ∙ and_both h (ap (λ (l : Option (List ℕ)). rises_after l b) (sym (last_key_append none rs a)) ∙ k)

pub rises_each : (rs a b : List Record) → rises_after (last_key_of rs) (a ++ b) ≡ true
    → (rises_after (last_key_of rs) a ≡ true) × (rises_after (last_key_of (rs ++ a)) b ≡ true)
rises_each rs a b h =
    let k = and_inv (rises_after (last_key_of rs) a) (sym (after_append (last_key_of rs) a b) ∙ h) in
    (k.0, ap (λ (l : Option (List ℕ)). rises_after l b) (last_key_append none rs a) ∙ k.1)
