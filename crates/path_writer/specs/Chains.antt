-- A path as a part of a register's row of chains. Contracts inside this crate cite it, and no public contract does.
use Rattle.answer.specs.declared.Refusal.{Refusal}
use Rattle.std.specs.Prelude.{ℕ, ◌+◌, ◌-◌, ◌*◌, ◌≤◌, ◌≡◌, Bool, cond, ◌&&◌, List, [], ◌∷◌, ◌++◌, length, take, drop, leb, Result}
use Rattle.limits.specs.Limits.{longest}
use Rattle.word.specs.Word.{page_in, above_in, end_in}
use Rattle.answer.specs.declared.Refusal.TheVariants.{NoRoom}
use Rattle.tree.specs.Table.{SpeltTree, bytes_of_page, table}
use Rattle.tree.specs.Judge.{due, accepted, judge}
use Rattle.index.specs.Chain.{Chain, only_link, chains}
use Rattle.promises.specs.Outcome.{Outcome, answer_of, output_of}
use Rattle.path.specs.Path.{settle_path}

-- The records under a chain, with the gaps at their ends, hold the positions from low to before high.
unfoldable pub covers : ℕ → ℕ → ℕ → ℕ → Bool
covers low high from count = leb from low && leb high (from + count)

-- The pages without entries that lead from a chain's first page to its page with entries; and all its pages.
unfoldable pub empty_pages : List (List ℕ) → List ℕ
empty_pages [] = []
empty_pages (digest ∷ []) = []
empty_pages (digest ∷ (next ∷ more)) = only_link next ++ empty_pages (next ∷ more)

unfoldable pub chain_bytes : Chain → List ℕ
chain_bytes c = empty_pages c.labels ++ bytes_of_page c.here

-- The same in a register, by the chain's two words: a page without entries has 47 bytes.
abbrev pub pages_at : List ℕ → ℕ → ℕ → List ℕ
pages_at s w v = take (end_in v - (page_in w - 47 * above_in w)) (drop (page_in w - 47 * above_in w) s)

-- The pages of the chains that hold the positions.
unfoldable pub covering : ℕ → ℕ → List Chain → List ℕ
covering low high [] = []
covering low high (c ∷ cs) =
    let later : List ℕ = covering low high cs in
    cond (covers low high c.from c.records) (chain_bytes c ++ later) later

-- The empty register has no chain, and its one page is the path.
unfoldable pub path_among : ℕ → ℕ → SpeltTree → List Chain → List ℕ
path_among low high t [] = table t
path_among low high t (c ∷ cs) = covering low high (c ∷ cs)

-- These bytes go to the output, where there is room for them.
unfoldable pub measured_path : List ℕ → ℕ → Outcome
measured_path path room = settle_path (due ((NoRoom, leb (length path) room) ∷ [])) path

abbrev pub PathMeasured : List ℕ → ℕ → Result ℕ Refusal → List ℕ → Type 0
PathMeasured path room answer out = (answer ≡ answer_of (measured_path path room)) × (out ≡ output_of (measured_path path room) room)

-- The path of an accepted register is no longer than a register may be, and so it is done with it.
unfoldable pub ShortPath : List ℕ → ℕ → ℕ → Type 0
ShortPath s low high = (t : SpeltTree) → judge s ≡ accepted t → length (path_among low high t (chains 0 0 [] t)) ≤ longest

unfoldable pub PathSays : List ℕ → ℕ → ℕ → ℕ → Result ℕ Refusal → List ℕ → Type 0
PathSays s low high room answer out =
    (t : SpeltTree) → judge s ≡ accepted t → PathMeasured (path_among low high t (chains 0 0 [] t)) room answer out
