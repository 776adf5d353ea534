-- The prefix lengths of the pages of all chains, one after the other.
use Prim.Native.Nat.{ℕ, ◌+◌, ◌*◌, ◌≤◌, ◌<◌}
use mathlib.Core.Path.{◌≡◌, refl, sym, ◌∙◌}
use mathlib.Core.Bool.{Bool, true, false, not, ◌&&◌}
use mathlib.Core.List.{List, [], ◌∷◌}
use lib.ListN.{get_or}
use borrow.Author.Tests.{not-true, not-false}
use Rattle.judge.proofs.RightChains.{prefixes_none}
use Rattle.tree.specs.Table.{raw_page}
use Rattle.word.specs.Word.{page_in, end_in}
use Rattle.tree.specs.OnePage.{prefixes_of}
use Rattle.index.specs.Chain.{Chain, no_chain}
use Rattle.digests.specs.Digests.{ChainsNoted}
use Rattle.digests.proofs.ChainReads.{chain_words}
use Rattle.digests.proofs.RowLoops.{AllSoFar, all_hold, one_fails, one_holds}
use Rattle.judge.specs.Prefixes.{PagePrefixes, prefixes_in, RowPrefixes}

abbrev prefixes_here : Chain → Bool
prefixes_here c = prefixes_of [] (raw_page c.here).entries

prefixes_step : (c : Chain) (cs : List Chain) → prefixes_in (c ∷ cs) ≡ (prefixes_here c && prefixes_in cs)
unfolding prefixes_in
prefixes_step c cs = refl

module _ (s row : List ℕ) (n i : ℕ) (u : AllSoFar s row n prefixes_in i) where
  pub prefixes_end : n ≤ i → RowPrefixes s row n true
  prefixes_end h d = all_hold s row n prefixes_in prefixes_here prefixes_none prefixes_step i u h d

  module _ (h : i < n) (r : Bool) (says : PagePrefixes s (page_in (get_or row (2 * i) 0)) r) where
    prefixes_are : (d : ChainsNoted s row n) → prefixes_here (get_or d.chains i no_chain) ≡ r
    unfolding PagePrefixes
    prefixes_are d = let w = chain_words d i h in sym (says (raw_page (get_or d.chains i no_chain).here) (end_in (get_or row (2 * i + 1) 0)) (rw w.page w.reads))

    pub prefixes_wrong : not r ≡ true → RowPrefixes s row n false
    prefixes_wrong f = one_fails s row n prefixes_in prefixes_here prefixes_none prefixes_step i u h (λ d. prefixes_are d ∙ not-true r f)

    pub prefixes_more : not r ≡ false → AllSoFar s row n prefixes_in (i + 1)
    prefixes_more f = one_holds s row n prefixes_in prefixes_here prefixes_none prefixes_step i u h (λ d. prefixes_are d ∙ not-false r f)
