-- The register of a set.
use Rattle.std.specs.Prelude.{ℕ, ◌≡◌, List}
use Rattle.tree.specs.Record.{Record, records}
use Rattle.tree.specs.Table.{SpeltTree}
use Rattle.tree.specs.Judge.{accepted, judge}

-- A byte string that is accepted is the register of the set of records that its pages spell.
pub record RegisterOf (s : List ℕ) (rs : List Record) : Type 0 where
  pub tree : SpeltTree
  pub judged : judge s ≡ accepted tree
  pub spells : records tree ≡ rs
