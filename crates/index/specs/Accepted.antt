-- A register that is accepted, with the rows of its records and of its chains.
use Rattle.std.specs.Prelude.{ℕ, ◌*◌, ◌≤◌, ◌≡◌, true, List, [], length}
use Rattle.limits.specs.Limits.{most}
use Rattle.tree.specs.Record.{records}
use Rattle.tree.specs.Table.{SpeltTree}
use Rattle.tree.specs.Judge.{accepted, judge}
use Rattle.index.specs.Slot.{slots}
use Rattle.index.specs.Chain.{chains, chains_right, ChainsAt}
use Rattle.index.specs.Walk.{Indexes}

pub record AcceptedIndex (s index : List ℕ) (count : ℕ) : Type 0 where
  pub tree : SpeltTree
  pub judged : judge s ≡ accepted tree
  pub size : count ≡ length (records tree)
  pub room : count ≤ length index
  pub indexed : Indexes index (slots 0 0 tree)

-- The first words of the row are those of its n chains, whose labels are the digests of their pages.
pub record ChainRow (s row : List ℕ) (n : ℕ) : Type 0 where
  pub tree : SpeltTree
  pub judged : judge s ≡ accepted tree
  pub size : n ≡ length (chains 0 0 [] tree)
  pub few : n ≤ most
  pub room : 2 * n ≤ length row
  pub stands : ChainsAt s row 0 (chains 0 0 [] tree)
  pub right : chains_right (chains 0 0 [] tree) ≡ true
