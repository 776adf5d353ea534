-- The verdict on a register that is lent with its head. Contracts inside the library cite it, and no public contract does.
use Rattle.answer.specs.declared.Refusal.{Refusal}
use Rattle.std.specs.Prelude.{ℕ, ◌≡◌, cond, List, Result, Ok, Err}
use Rattle.answer.specs.declared.Refusal.TheVariants.{UntrueHead}
use Rattle.tree.specs.Record.{records}
use Rattle.tree.specs.Table.{SpeltTree}
use Rattle.tree.specs.Judge.{Verdict, refused, accepted, judge}
use Rattle.index.specs.Accepted.{AcceptedIndex, ChainRow}
use Rattle.head.specs.declared.Head.{Head}
use Rattle.head.specs.Head.{head_of, same_head}

-- A register that is accepted is refused with 17 where the head is untrue of it.
unfoldable pub lent_verdict : Verdict → Head → Verdict
lent_verdict (refused r) h = refused r
lent_verdict (accepted t) h = cond (same_head h (head_of (records t))) (accepted t) (refused UntrueHead)

-- The head is true of the register.
abbrev pub TrueOf : List ℕ → Head → Type 0
TrueOf s h = (t : SpeltTree) → judge s ≡ accepted t → h ≡ head_of (records t)

abbrev pub LentSays : List ℕ → Head → Result (ℕ × ℕ) Refusal → List ℕ → List ℕ → Type 0
LentSays s h (Ok (count, n)) index row = AcceptedIndex s index count × ChainRow s row n × TrueOf s h
LentSays s h (Err r) index row = lent_verdict (judge s) h ≡ refused r
