-- The buffers of a map of states that fits hold that map.
use Prim.Native.Nat.{ℕ}
use mathlib.Core.Path.{◌≡◌, refl, sym, ap, ap₂, ◌∙◌}
use mathlib.Core.Bool.{true, false≢true}
use mathlib.Core.Option.{some}
use mathlib.Core.List.{List, [], ◌∷◌, map}
use native.Mathlib.Omega.{arith}
use lib.ListN.{length}
use borrow.Author.Tests.{le-leb}
use Rattle.bytestring.specs.Bytes.{Bytes}
use Rattle.bytestring.proofs.Tools.{and_both, All, all_append, all_split, all_weaken}
use Rattle.bytestring.proofs.Equal.{equal_refl}
use Rattle.limits.specs.Limits.{longest, deepest}
use Rattle.fips180.specs.Hash.{sha256}
use Rattle.fips180.proofs.Laws.{length_sha256}
use Rattle.page.specs.Reading.{read, concat}
use Rattle.tree.specs.Tree.{page}
use Rattle.tree.specs.Record.{Record}
use Rattle.tree.specs.Table.{SpeltTree, bytes_of_page, table, table_of}
use Rattle.tree.specs.Judge.{rising, digests_right, Verdict, refused, accepted, judge}
use Rattle.tree.proofs.Laws.{AllTests, none_due, LawfulKey, RightValue, Fitting, Good, records_of_set, table_accepted, accepted_table}
use Rattle.promises.specs.Pages.{pages_of}
use Rattle.promises.specs.Promises.{Among}
use Rattle.promises.proofs.MapLaws.{Above, Sorted, sorted_rising, rising_sorted}
use Rattle.states.specs.Pages.{sequence, pages_in, by_digest, filed, gather}
use Rattle.states.specs.States.{state_collection, first_digest, pointing, state_records, state_register, state_pages, page_sequence, all_states, bytes_or, gathered, gathered_states, is_accepted, all_accepted, state_tests, settle_states, judge_sequence, judge_with_pages, judge_states}
use Rattle.states.specs.Promises.{StateOf, AllStates, StatesFit, ReadsItsStates}
use Rattle.states.proofs.Values.{value_is_value, value_is_state, digest_of_value}
use Rattle.states.proofs.Sequences.{PageBytes, raw_pages, sequence_reads, pages_good, pages_in_table}
use Rattle.states.proofs.Gathering.{UnderDigest, gather_tree}
use Rattle.states.proofs.Filing.{all_each, each_all, there_all_among, FiledFrom, filed_from, filed_sorted, filed_stands, values_of, refiled, filed_digested, each_value, concat_values}

-- ---- an accepted register, its tree and its pages
pub record AcceptedTree (s : List ℕ) : Type 0 where
  pub tree : SpeltTree
  pub bytes : s ≡ table tree
  pub good : Good deepest tree
  pub digests : digests_right tree ≡ true
  pub pages : pages_in s ≡ pages_of tree

pub tree_of : (v : Verdict) → is_accepted v ≡ true → (t : SpeltTree) × (v ≡ accepted t)
unfolding is_accepted
tree_of (refused r) h = absurd (false≢true h)
tree_of (accepted t) h = (t, refl)

pub accepted_tree : (s : List ℕ) → Bytes s → is_accepted (judge s) ≡ true → AcceptedTree s
unfolding table_of
accepted_tree s b h =
    let t = tree_of (judge s) h in
    let a = accepted_table s b t.0 t.1 in
    let e : s ≡ table t.0 = a.written ∙ ap table (sym a.spells) in
    record { tree = t.0; bytes = e; good = a.good; digests = a.digests; pages = ap pages_in e ∙ pages_in_table t.0 deepest a.good }

pub first_digest_lem : (t : SpeltTree) → first_digest (pages_of t) ≡ sha256 (bytes_of_page t)
unfolding first_digest pages_of
first_digest_lem (page g es) = refl

pub first_of : (s : List ℕ) (k : AcceptedTree s) → first_digest (pages_in s) ≡ sha256 (bytes_of_page k.tree)
first_of s k = ap first_digest k.pages ∙ first_digest_lem k.tree

pub accepted_pages : (s : List ℕ) → AcceptedTree s → All PageBytes (pages_in s)
accepted_pages s k = rw k.pages (pages_good k.tree deepest k.good)

-- ---- gathered from pages that stand under their digests, a register has its bytes again
pub gather_register : (pages : List Record) (s : List ℕ) → AcceptedTree s → All (UnderDigest pages) (pages_in s)
    → gather deepest pages (first_digest (pages_in s)) ≡ some s
gather_register pages s k h =
    rw (first_of s k) (gather_tree pages deepest k.tree k.good k.digests (rw k.pages at h) ∙ ap some (sym k.bytes))

module _ (pages : List Record) where
  gathered_one : (r : Record) → StateOf r → All (UnderDigest pages) (pages_in r.val) → gathered pages (pointing r) ≡ r
  unfolding bytes_or
  gathered_one r s h =
      let e = gather_register pages r.val (accepted_tree r.val s.bytes s.register) h in
      let q = ap (gather deepest pages) (digest_of_value r.val) ∙ e in
      λ i. record { key = r.key; val = bytes_or (q i) }

  gathered_all : (m : List Record) → AllStates m → All (UnderDigest pages) (state_pages m) → map (gathered pages) (map pointing m) ≡ m
  unfolding state_pages
  gathered_all [] a h = refl
  gathered_all (r ∷ m) a h =
      let i = all_split (UnderDigest pages) (pages_in r.val) (state_pages m) h in
      ap₂ (λ (x : Record) (l : List Record). x ∷ l) (gathered_one r a.0 i.0) (gathered_all m a.1 i.1)

-- ---- the state register
pointing_above : (k : List ℕ) (m : List Record) → Above k m → Above k (map pointing m)
pointing_above k [] a = tt
pointing_above k (r ∷ m) a = (a.0, pointing_above k m a.1)

pub pointing_sorted : (m : List Record) → Sorted m → Sorted (map pointing m)
pointing_sorted [] s = tt
pointing_sorted (r ∷ m) s = (pointing_above r.key m s.0, pointing_sorted m s.1)

pub length_pointing : (m : List Record) → length (map pointing m) ≡ length m
length_pointing [] = refl
length_pointing (r ∷ m) = omega (arith, length_pointing m)

pointing_keys : (m : List Record) → AllStates m → All LawfulKey (map pointing m)
pointing_keys [] a = tt
pointing_keys (r ∷ m) a = (a.0.key, pointing_keys m a.1)

first_length : (r : Record) → StateOf r → length (first_digest (pages_in r.val)) ≡ 32
first_length r s =
    let k = accepted_tree r.val s.bytes s.register in
    rw (first_of r.val k) (length_sha256 (bytes_of_page k.tree))

pointing_values : (m : List Record) → AllStates m → All RightValue (map pointing m)
pointing_values [] a = tt
pointing_values (r ∷ m) a = (value_is_value r.val (first_length r a.0), pointing_values m a.1)

pub pointing_fits : (m : List Record) → StatesFit m → Fitting (state_records m)
unfolding state_records state_register
pointing_fits m f =
    record {
      count = omega (arith, f.count, length_pointing m);
      order = sorted_rising (map pointing m) (pointing_sorted m (rising_sorted m f.order));
      keys = pointing_keys m f.each;
      values = pointing_values m f.each;
      size = f.register;
    }

pointing_states : (m : List Record) → AllStates m → all_states (map pointing m) ≡ true
unfolding all_states
pointing_states [] a = refl
pointing_states (r ∷ m) a =
    rw (a.0.ours, equal_refl state_collection, value_is_state r.val) (pointing_states m a.1)

pub all_accepted_lem : (m : List Record) → AllStates m → all_accepted m ≡ true
unfolding all_accepted
all_accepted_lem [] a = refl
all_accepted_lem (r ∷ m) a = and_both a.0.register (all_accepted_lem m a.1)

-- ---- the pages
pub state_pages_good : (m : List Record) → AllStates m → All PageBytes (state_pages m)
unfolding state_pages
state_pages_good [] a = tt
state_pages_good (r ∷ m) a =
    all_append PageBytes (pages_in r.val) (state_pages m)
    (accepted_pages r.val (accepted_tree r.val a.0.bytes a.0.register))
    (state_pages_good m a.1)

-- the pages of a map, filed
abbrev pub pages_filed : List Record → List (List ℕ)
pages_filed m = values_of (filed (state_pages m))

pub filed_good : (m : List Record) → AllStates m → All PageBytes (pages_filed m)
filed_good m a =
    each_value PageBytes (filed (state_pages m))
    (all_weaken (FiledFrom (state_pages m)) (λ r. PageBytes r.val) (λ r q. all_each PageBytes (state_pages m) r.val (state_pages_good m a) q.1)
    (filed (state_pages m)) (filed_from (state_pages m)))

pub filed_among : (m : List Record) → All (λ p. Among p (state_pages m)) (pages_filed m)
filed_among m =
    each_value (λ p. Among p (state_pages m)) (filed (state_pages m))
    (all_weaken (FiledFrom (state_pages m)) (λ r. Among r.val (state_pages m)) (λ r q. q.1) (filed (state_pages m)) (filed_from (state_pages m)))

pub regathered : (m : List Record) → StatesFit m → gathered_states (state_records m) (pages_filed m) ≡ m
unfolding gathered_states state_records
regathered m f =
    let file = filed (state_pages m) in
    rw (refiled file (filed_digested (state_pages m)))
    (gathered_all file m f.each (each_all (UnderDigest file) (state_pages m) (filed_stands (state_pages m) f.unshared)))

states_ours : (m : List Record) → StatesFit m → all_states (state_records m) ≡ true
unfolding state_records
states_ours m f = pointing_states m f.each

all_tests : (m : List Record) → StatesFit m → AllTests (state_tests (state_records m) (pages_filed m))
unfolding state_tests
all_tests m f =
    let e = regathered m f in
    let order : rising (map by_digest (pages_filed m)) ≡ true =
    rw (refiled (filed (state_pages m)) (filed_digested (state_pages m))) (sorted_rising (filed (state_pages m)) (filed_sorted (state_pages m))) in
    (states_ours m f, (order, (rw e (all_accepted_lem m f.each), (rw e (there_all_among (pages_filed m) (state_pages m) (filed_among m)), tt))))

pub reads_its_states : ReadsItsStates
unfolding judge_states judge_with_pages judge_sequence settle_states state_register page_sequence
reads_its_states m f =
    let w = raw_pages (pages_filed m) (filed_good m f.each) in
    let e : sequence (concat (λ (r : Record). r.val) (filed (state_pages m))) ≡ read w.raw [] =
    ap sequence (concat_values (filed (state_pages m)) ∙ sym w.spell) ∙ sequence_reads w.raw w.good in
    rw (
      table_accepted (state_records m) (pointing_fits m f),
      records_of_set (state_records m),
      le-leb (length (concat (λ (r : Record). r.val) (filed (state_pages m)))) longest f.pages,
      e,
      w.are,
      none_due (state_tests (state_records m) (pages_filed m)) (all_tests m f),
      regathered m f,
    )
