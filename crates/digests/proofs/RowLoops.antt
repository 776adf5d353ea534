-- All chains of a row, one after the other: a test on each, and their digests.
use Prim.Native.Nat.{ℕ, suc, ◌+◌, ◌*◌, ◌≤◌, ◌<◌}
use mathlib.Core.Path.{◌≡◌, refl, sym, ap, ◌∙◌}
use mathlib.Core.Bool.{Bool, true, false, not, ◌&&◌}
use mathlib.Core.List.{List, [], ◌∷◌}
use native.Mathlib.Omega.{arith}
use native.Mathlib.Numerals.{add-one}
use lib.ListN.{length, drop, get_or, drop_of_length-le}
use borrow.Author.Tests.{not-true, not-false}
use Rattle.word.specs.Word.{page_in, above_in, end_in}
use Rattle.index.specs.Chain.{Chain, labels_right, chains_right, no_chain}
use Rattle.digests.specs.Digests.{ChainsNoted, ChainSays, DigestsSay}
use Rattle.digests.proofs.ChainReads.{chain_words, chain_next}

-- ---- a test on all chains, of which i hold it
unfoldable pub AllSoFar : List ℕ → List ℕ → ℕ → (List Chain → Bool) → ℕ → Type 0
AllSoFar s row n all i = (d : ChainsNoted s row n) → all d.chains ≡ all (drop i d.chains)

pub all_start : (s row : List ℕ) (n : ℕ) (all : List Chain → Bool) → AllSoFar s row n all 0
unfolding AllSoFar
all_start s row n all d = refl

module _ (s row : List ℕ) (n : ℕ) (all : List Chain → Bool) (one : Chain → Bool)
    (none_left : all [] ≡ true) (split : (c : Chain) (cs : List Chain) → all (c ∷ cs) ≡ (one c && all cs)) where
  module _ (i : ℕ) (u : AllSoFar s row n all i) where
    pub all_hold : n ≤ i → (d : ChainsNoted s row n) → true ≡ all d.chains
    unfolding AllSoFar
    all_hold h d = sym (u d ∙ rw (drop_of_length-le d.chains {i = i} (omega (arith, d.number))) none_left)

    module _ (h : i < n) where
      next : (d : ChainsNoted s row n) → all d.chains ≡ (one (get_or d.chains i no_chain) && all (drop (suc i) d.chains))
      unfolding AllSoFar
      next d = u d ∙ ap all (chain_next d i h) ∙ split (get_or d.chains i no_chain) (drop (suc i) d.chains)

      pub one_fails : ((d : ChainsNoted s row n) → one (get_or d.chains i no_chain) ≡ false) → (d : ChainsNoted s row n) → false ≡ all d.chains
      one_fails f d = sym (next d ∙ rw (f d))

      pub one_holds : ((d : ChainsNoted s row n) → one (get_or d.chains i no_chain) ≡ true) → AllSoFar s row n all (i + 1)
      unfolding AllSoFar
      one_holds f d = next d ∙ rw (f d, add-one i)

-- ---- digests
right_none : chains_right [] ≡ true
unfolding chains_right
right_none = refl

abbrev chain_right : Chain → Bool
chain_right c = labels_right c.labels c.here

right_split : (c : Chain) (cs : List Chain) → chains_right (c ∷ cs) ≡ (chain_right c && chains_right cs)
unfolding chains_right
right_split c cs = refl

-- what the pass needs of the next chain
pub chain_fits : (s row : List ℕ) (n i : ℕ) → ChainsNoted s row n → i < n
    → (47 * above_in (get_or row (2 * i) 0) ≤ page_in (get_or row (2 * i) 0)) × (page_in (get_or row (2 * i) 0) ≤ end_in (get_or row (2 * i + 1) 0)) × (end_in (get_or row (2 * i + 1) 0) ≤ length s)
chain_fits s row n i d h = let w = chain_words d i h in (omega (arith, w.page, w.start), omega (arith, w.page, w.ends), w.within)

module _ (s row : List ℕ) (n i : ℕ) (u : AllSoFar s row n chains_right i) where
  pub digests_end : n ≤ i → DigestsSay s row n true
  digests_end h d = all_hold s row n chains_right chain_right right_none right_split i u h d

  module _ (h : i < n) where
    module _ (r : Bool) (says : ChainSays s (get_or row (2 * i) 0) (get_or row (2 * i + 1) 0) r) where
      labels_are : (d : ChainsNoted s row n) → chain_right (get_or d.chains i no_chain) ≡ r
      unfolding ChainSays
      labels_are d =
          let w = chain_words d i h in
          let c : Chain = get_or d.chains i no_chain in
          sym (says c.labels c.here w.above (rw w.page w.labels) (rw w.page w.bytes))

      pub digests_wrong : not r ≡ true → DigestsSay s row n false
      digests_wrong f = one_fails s row n chains_right chain_right right_none right_split i u h (λ d. labels_are d ∙ not-true r f)

      pub digests_more : not r ≡ false → AllSoFar s row n chains_right (i + 1)
      digests_more f = one_holds s row n chains_right chain_right right_none right_split i u h (λ d. labels_are d ∙ not-false r f)
