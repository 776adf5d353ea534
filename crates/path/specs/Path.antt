-- The path of a key in a register: the pages that a search for the key opens.
use Rattle.std.specs.Prelude.{ℕ, cond, List, [], ◌∷◌, ◌++◌, length, leb}
use Rattle.std.proofs.Math.Option.{Option, none, some}
use Rattle.answer.specs.declared.Refusal.{Refusal}
use Rattle.answer.specs.declared.Refusal.TheVariants.{UnlawfulKey, NoRoom}
use Rattle.key.specs.Key.{lawful, less}
use Rattle.tree.specs.Tree.{page, Gap, empty, under, Entries, end, entry}
use Rattle.tree.specs.Record.{Spelt, record_of}
use Rattle.tree.specs.Table.{SpeltTree, bytes_of_page}
use Rattle.tree.specs.Judge.{due, Verdict, refused, accepted, judge}
use Rattle.promises.specs.Outcome.{Outcome, stopped, wrote}

-- The search opens the root, goes on by the link of the gap where the key would stand, and ends when the key is an entry or that gap has no
-- link. The path is the pages opened, one after the other.
unfoldable mutual
  pub path_of : List ℕ → SpeltTree → List ℕ
  path_of k (page g es) = bytes_of_page (page g es) ++ path_from k (path_under k g) [] es

  pub path_under : List ℕ → Gap Spelt (List ℕ) → List ℕ
  path_under k empty = []
  path_under k (under digest p) = path_of k p

  -- The entries after the key `before`; `here` is the path in the gap before them.
  pub path_from : List ℕ → List ℕ → List ℕ → Entries Spelt (List ℕ) → List ℕ
  path_from k here before end = here
  path_from k here before (entry e g es) =
      let later : List ℕ = path_from k (path_under k g) (record_of before e).key es in
      cond (less k (record_of before e).key) here (cond (less (record_of before e).key k) later [])

-- The register is judged first, then the key; last the output, measured by the path.
unfoldable pub settle_path : Option Refusal → List ℕ → Outcome
settle_path none path = wrote path
settle_path (some r) path = stopped r

unfoldable pub path_verdict : Verdict → List ℕ → ℕ → Outcome
path_verdict (refused r) k room = stopped r
path_verdict (accepted t) k room =
    let path : List ℕ = path_of k t in
    settle_path (due ((UnlawfulKey, lawful k) ∷ (NoRoom, leb (length path) room) ∷ [])) path

unfoldable pub path_outcome : List ℕ → List ℕ → ℕ → Outcome
path_outcome s k room = path_verdict (judge s) k room
