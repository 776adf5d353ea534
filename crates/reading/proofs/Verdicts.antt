-- The verdict on a register, as judge answers it, and what an accepted register has.
use Rattle.std.specs.Prelude.{Result, Ok, Err}
use Prim.Native.Nat.{ℕ, ◌*◌, ◌≤◌, ◌+◌, ◌^◌, ◌<◌}
use mathlib.Core.Path.{◌≡◌, sym, ap, subst, ◌∙◌}
use mathlib.Core.List.{List}
use native.Mathlib.Omega.{arith}
use lib.ListN.{length, get_or}
use Rattle.limits.specs.Limits.{deepest}
use Rattle.bytestring.proofs.Tools.{bytes_of_lem}
use Rattle.bytestring.specs.Bytes.{Bytes}
use Rattle.answer.specs.declared.Refusal.{Refusal}
use Rattle.tree.specs.Table.{table, table_of, SpeltTree}
use Rattle.tree.specs.Judge.{refused, judge}
use Rattle.tree.proofs.Sizes.{table_length}
use Rattle.tree.proofs.Accept.{accepted_table}
use Rattle.index.specs.Accepted.{AcceptedIndex, ChainRow}
use Rattle.judge.specs.Verdict.{RoomFor, RegisterSays}
use Rattle.judge.specs.declared.accepted.Accepted.{Accepted}
use Rattle.judge.specs.Standing.{Stands}
use Rattle.tree.specs.Record.{records}
use Rattle.tree.proofs.Laws.{accepted_table}
use Rattle.row.specs.Row.{Row, records_of}
use Rattle.row.proofs.Rows.{accepted_short, accepted_row, accepted_records_lem, second_row, second_records}
use Rattle.promises.proofs.MapLaws.{Sorted, rising_sorted}

-- ---- what the answered judgement says
module _ (s index row : List ℕ) (x : Result (ℕ × ℕ) Refusal) (says : RegisterSays s x index row) where
  pub accepted_rows : {count n : ℕ} → x ≡ Ok (count, n) → AcceptedIndex s index count × ChainRow s row n
  accepted_rows e = subst (λ (y : Result (ℕ × ℕ) Refusal). RegisterSays s y index row) e says

  pub accepted_index : {count n : ℕ} → x ≡ Ok (count, n) → AcceptedIndex s index count
  accepted_index e = (accepted_rows e).0

  pub judged_refused : {r : Refusal} → x ≡ Err r → judge s ≡ refused r
  judged_refused e = subst (λ (y : Result (ℕ × ℕ) Refusal). RegisterSays s y index row) e says

-- a register has few records
pub accepted_few : {s index : List ℕ} {count : ℕ} → Bytes s → AcceptedIndex s index count → count ≤ 4096
accepted_few {s} b a = omega (arith, a.size, (accepted_table s b a.tree a.judged).fit.count)

-- and no more than its bytes have room for
pub accepted_long : {s index : List ℕ} {count : ℕ} → Bytes s → AcceptedIndex s index count → 53 * count ≤ length s
unfolding table_of
accepted_long {s} b a =
    let w = accepted_table s b a.tree a.judged in
    let whole : s ≡ table a.tree = w.written ∙ ap table (sym w.spells) in
    omega (arith, a.size, ap length whole, table_length a.tree deepest w.good)

-- ---- room for the rows
module _ (s : List ℕ) (words : ℕ) where
  -- a short register has at most 255 records
  pub index_short : length s ≤ 13515 → 256 ≤ words → RoomFor s 1 words
  index_short h i k few long = omega arith

  pub chains_short : length s ≤ 13515 → 512 ≤ words → RoomFor s 2 words
  chains_short h i k few long = omega arith

  pub index_long : 4096 ≤ words → RoomFor s 1 words
  index_long i k few long = omega arith

  pub chains_long : 8192 ≤ words → RoomFor s 2 words
  chains_long i k few long = omega arith

-- ---- an accepted register, with its bytes and its index
pub record Accepting (s index : List ℕ) (count : ℕ) : Type 0 where
  pub bytes : Bytes s
  pub given : AcceptedIndex s index count

pub accepting : {s index : List ℕ} {count : ℕ} → ((i : ℕ) → i < length s → get_or s i 0 < 256) → AcceptedIndex s index count → Accepting s index count
accepting {s} small given = record { bytes = bytes_of_lem s small; given = given }

pub standing : {a : Accepted} → Stands a → Accepting a.register.now a.index.now (length a.index.now)
standing w = record { bytes = w.bytes; given = w.records }

module _ {s index : List ℕ} {count : ℕ} (a : Accepting s index count) where
  abbrev pub t : SpeltTree
  t = a.given.tree

  pub sorted : Sorted (records t)
  sorted = rising_sorted (records t) (accepted_table s a.bytes t a.given.judged).fit.order

  pub short : length s < 2 ^ 24
  short = accepted_short s index t count a.bytes a.given.judged a.given.indexed a.given.size a.given.room

  pub row_first : (u : List ℕ) → length u < 2 ^ 24 → Row s u index count
  row_first u = accepted_row s index t count a.bytes a.given.judged a.given.indexed a.given.size a.given.room u

  pub records_first : (u : List ℕ) → records_of s u index count ≡ records t
  records_first u = accepted_records_lem s index t count a.bytes a.given.judged a.given.indexed a.given.size a.given.room u

  -- words that lead to the second register
  module _ (u row : List ℕ) (room : count ≤ length row) (moved : (i : ℕ) → i < count → get_or row i 0 ≡ get_or index i 0 + 2 ^ 60) where
    pub row_second : length u < 2 ^ 24 → Row u s row count
    row_second = second_row s index t count a.bytes a.given.judged a.given.indexed a.given.size a.given.room u row room moved

    pub records_second : records_of u s row count ≡ records t
    records_second = second_records s index t count a.bytes a.given.judged a.given.indexed a.given.size a.given.room u row room moved
