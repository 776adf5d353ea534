-- A screen of records that are known. Contracts inside this crate cite it, and no public contract does.
use Rattle.std.specs.Prelude.{ℕ, List, length}
use Rattle.tree.specs.Record.{Record}
use Rattle.tree.specs.Judge.{due}
use Rattle.promises.specs.Counted.{CountedOutcome, settle_counted}
use Rattle.collections.specs.Screen.{screens, on_screen, screen_tests}

-- What is answered and written once the register and the collection name have passed.
unfoldable pub show_outcome : List Record → ℕ → ℕ → CountedOutcome
show_outcome rs n room = settle_counted (due (screen_tests n rs room)) (on_screen n rs) (screens (length rs))
