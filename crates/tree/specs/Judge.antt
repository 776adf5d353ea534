-- Numbers 1 to 10: the tests of a register, in their order, and what a register is accepted as.
use Rattle.std.specs.Prelude.{ℕ, Bool, true, false, cond, ◌&&◌, List, [], ◌∷◌, map, length, eqb, leb}
use Rattle.std.proofs.Math.Option.{Option, none, some}
use Rattle.limits.specs.Limits.{longest, most, deepest}
use Rattle.answer.specs.declared.Refusal.{Refusal}
use Rattle.answer.specs.declared.Refusal.TheVariants.{TooLong, EndsEarly, Departs, BytesFollow, TooManyRecords, WrongPrefix, UnlawfulKey, KeysNotRising, WrongTree, WrongDigest}
use Rattle.bytestring.specs.Bytes.{equal}
use Rattle.fips180.specs.Hash.{sha256}
use Rattle.key.specs.Key.{lawful, less, shared}
use Rattle.page.specs.Reading.{Read, read, ends_early, departs}
use Rattle.value.specs.Value.{is_value}
use Rattle.tree.specs.Tree.{Page, page, Gap, empty, under, Entries, end, entry, map as map_tree, tree_of}
use Rattle.tree.specs.Record.{Record, Spelt, record_of, keyed, records, placed_key}
use Rattle.tree.specs.Table.{SpeltTree, bytes_of_page, table_of, read_tree}

-- A refusal and the test that avoids it. Tests stand in the order of their numbers; the first that fails decides.
abbrev pub Test : Type 0
Test = Refusal × Bool

unfoldable pub due : List Test → Option Refusal
due [] = none
due (t ∷ ts) =
    let later : Option Refusal = due ts in
    cond t.1 later (some t.0)

unfoldable pub is_none : {A : Type 0} → List A → Bool
is_none [] = true
is_none (a ∷ l) = false

-- 6: each prefix length is the count of bytes shared with the key before in the page.
unfoldable mutual
  pub prefixes_right : {D : Type 0} → Page Spelt D → Bool
  prefixes_right (page g es) = prefixes_right_under g && prefixes_right_from [] es

  pub prefixes_right_under : {D : Type 0} → Gap Spelt D → Bool
  prefixes_right_under empty = true
  prefixes_right_under (under d p) = prefixes_right p

  pub prefixes_right_from : {D : Type 0} → List ℕ → Entries Spelt D → Bool
  prefixes_right_from before end = true
  prefixes_right_from before (entry e g es) =
      eqb e.shares (shared before (record_of before e).key)
      && (prefixes_right_under g && prefixes_right_from (record_of before e).key es)

-- 7: each key keeps the key rule.
unfoldable pub all_lawful : List Record → Bool
all_lawful [] = true
all_lawful (r ∷ rs) = lawful r.key && all_lawful rs

-- 8: each key is greater than the key before it in tree order.
unfoldable pub rising : List Record → Bool
rising [] = true
rising (r ∷ []) = true
rising (r ∷ s ∷ rs) = less r.key s.key && rising (s ∷ rs)

-- 9: the pages, their entries and their linked gaps are those that the rules give for the same keys.
unfoldable mutual
  pub same : {D E : Type 0} → Page (List ℕ) D → Page (List ℕ) E → Bool
  same (page g es) (page h fs) = same_under g h && same_from es fs

  pub same_under : {D E : Type 0} → Gap (List ℕ) D → Gap (List ℕ) E → Bool
  same_under empty empty = true
  same_under empty (under e q) = false
  same_under (under d p) empty = false
  same_under (under d p) (under e q) = same p q

  pub same_from : {D E : Type 0} → Entries (List ℕ) D → Entries (List ℕ) E → Bool
  same_from end end = true
  same_from end (entry l h fs) = false
  same_from (entry k g es) end = false
  same_from (entry k g es) (entry l h fs) = equal k l && (same_under g h && same_from es fs)

abbrev pub keys_of : {D : Type 0} → Page Spelt D → Page (List ℕ) (Unit {0})
keys_of t = map_tree (λ (r : Record). r.key) (λ _. tt) (keyed t)

unfoldable pub right_tree : {D : Type 0} → Page Spelt D → Bool
right_tree t =
    let right : Page (List ℕ) (Unit {0}) = tree_of (λ _. tt) (map (λ (r : Record). placed_key r.key) (records t)) in
    same (keys_of t) right

-- 10: each link's digest is that of its page.
unfoldable mutual
  pub digests_right : SpeltTree → Bool
  digests_right (page g es) = digests_right_under g && digests_right_from es

  pub digests_right_under : Gap Spelt (List ℕ) → Bool
  digests_right_under empty = true
  digests_right_under (under digest p) = equal digest (sha256 (bytes_of_page p)) && digests_right p

  pub digests_right_from : Entries Spelt (List ℕ) → Bool
  digests_right_from end = true
  digests_right_from (entry e g es) = digests_right_under g && digests_right_from es

-- The tests of a register that has been read, with the bytes left after its last page.
unfoldable pub tests : SpeltTree → List ℕ → List Test
tests t rest =
    (BytesFollow, is_none rest)
    ∷ (TooManyRecords, leb (length (records t)) most)
    ∷ (WrongPrefix, prefixes_right t)
    ∷ (UnlawfulKey, all_lawful (records t))
    ∷ (KeysNotRising, rising (records t))
    ∷ (WrongTree, right_tree t)
    ∷ (WrongDigest, digests_right t)
    ∷ []

-- A byte string is refused with the first number that is due on it, or accepted with the tree that its pages spell.
pub data Verdict : Type 0 where
  refused : Refusal → Verdict
  accepted : SpeltTree → Verdict

unfoldable pub settled : Option Refusal → SpeltTree → Verdict
settled none t = accepted t
settled (some r) t = refused r

unfoldable pub judge_read : Read SpeltTree → Verdict
judge_read ends_early = refused EndsEarly
judge_read departs = refused Departs
judge_read (read t rest) = settled (due (tests t rest)) t

unfoldable pub judge : List ℕ → Verdict
judge s = cond (leb (length s) longest) (judge_read (read_tree deepest s)) (refused TooLong)

-- Each value is a codec, 55 or 71, and the 32 bytes of a digest.
unfoldable pub all_values : List Record → Bool
all_values [] = true
all_values (r ∷ rs) = is_value r.val && all_values rs

-- A set fits with at most 4,096 records, no two of them under one key, lawful keys and a table of at most 4,194,304 bytes. A set is written
-- as the list of its records in key order.
unfoldable pub fits : List Record → Bool
fits rs =
    leb (length rs) most && (rising rs && (all_lawful rs && (all_values rs && leb (length (table_of rs)) longest)))
