-- Buffers that hold a map of states are the buffers of that map, and it fits.
use Prim.Native.Nat.{ℕ, ◌≤◌}
use mathlib.Core.Path.{◌≡◌, refl, sym, ap, ap₂, subst, ◌∙◌}
use mathlib.Core.Bool.{true, false≢true, ◌&&◌}
use mathlib.Core.Logic.{inl, inr}
use mathlib.Core.Option.{Option, none, some, some-injective}
use mathlib.Core.List.{List, [], ◌∷◌, ◌++◌, map}
use native.Mathlib.Omega.{arith}
use lib.ListN.{length}
use lib.Dec.{leb, eqb}
use borrow.Author.Tests.{leb-true}
use Rattle.answer.specs.declared.Refusal.{Refusal}
use Rattle.bytestring.specs.Bytes.{Bytes, ByteString, equal}
use Rattle.bytestring.proofs.Tools.{cond-inv, and_inv, All, all_append, all_weaken, bytes_right}
use Rattle.bytestring.proofs.Equal.{equal_true}
use Rattle.limits.specs.Limits.{longest, deepest}
use Rattle.fips180.specs.Hash.{sha256}
use Rattle.value.specs.Value.{dag_cbor, value_codec, value_digest}
use Rattle.key.specs.Key.{collection, lawful}
use Rattle.page.specs.Reading.{Read, read, ends_early, departs, exactly, concat}
use Rattle.page.specs.Page.{RawPage, page_bytes, page as page_at}
use Rattle.page.proofs.Tools.{bytes_concat}
use Rattle.page.proofs.Pages.{GoodPage}
use Rattle.tree.specs.Record.{Record, records}
use Rattle.tree.specs.Table.{table_of, read_tree}
use Rattle.tree.specs.Judge.{due, Verdict, refused, accepted, judge_read, judge}
use Rattle.tree.proofs.Laws.{AllTests, due_none, LawfulKey, Fitting, accepted_table}
use Rattle.promises.specs.Map.{find}
use Rattle.promises.specs.Pages.{pages_of}
use Rattle.promises.specs.Promises.{Among, DigestsApart}
use Rattle.promises.proofs.MapLaws.{Above, Sorted, sorted_rising, rising_sorted, sorted_ext, find_here, find_later}
use Rattle.promises.proofs.DifferenceLaws.{Within}
use Rattle.states.specs.Pages.{sequence, pages_in, by_digest, filed, gather}
use Rattle.states.specs.States.{state_collection, first_digest, state_value, pointing, state_records, state_register, state_pages, page_sequence, all_states, bytes_or, gathered, gathered_states, is_accepted, all_accepted, state_tests, refused_states, accepted_states, settle_states, judge_sequence, judge_with_pages, judge_states}
use Rattle.states.specs.Promises.{StateOf, AllStates, StatesFit, ReadsNoOtherStates}
use Rattle.states.proofs.Values.{value_of_digest}
use Rattle.states.proofs.Sequences.{PageBytes, sequence_back, table_pages, pages_in_table}
use Rattle.states.proofs.Filing.{all_each, all_among_there, find_all, FiledFrom, filed_from, filed_sorted, filed_stands}
use Rattle.states.proofs.Accepting.{first_digest_lem, length_pointing}
use Rattle.states.proofs.Gathered.{AmongPages, Gathered, file_from, gather_back}

-- ---- no bytes are no register
nothing_refused : is_accepted (judge []) ≡ true → ⊥
unfolding judge judge_read read_tree is_accepted page_at exactly
nothing_refused h = false≢true h

-- ---- pages whose digests rise
file_above : (k : List ℕ) (ps : List (List ℕ)) (p : List ℕ) → Above k (map by_digest ps) → Among p ps → Above k (by_digest p ∷ [])
file_above k [] p a i = absurd i
file_above k (q ∷ ps) p a (inl e) = rw e (a.0, tt)
file_above k (q ∷ ps) p a (inr i) = file_above k ps p a.1 i

pub file_stands : (ps : List (List ℕ)) → Sorted (map by_digest ps) → (p : List ℕ) → Among p ps → find (sha256 p) (map by_digest ps) ≡ some p
file_stands [] s p i = absurd i
file_stands (q ∷ ps) s p (inl e) = find_here (sha256 p) (by_digest q) (map by_digest ps) (ap sha256 e) ∙ ap some (sym e)
file_stands (q ∷ ps) s p (inr i) =
    find_later (sha256 p) (by_digest q) (map by_digest ps) (file_above (sha256 q) ps p s.0 i).0 ∙ file_stands ps s.1 p i

pub rising_unshared : (ps : List (List ℕ)) → Sorted (map by_digest ps) → DigestsApart ps
rising_unshared ps s p q i j e =
    some-injective p q (sym (file_stands ps s p i) ∙ ap (λ (k : List ℕ). find k (map by_digest ps)) e ∙ file_stands ps s q j)

agree : (x y : Option (List ℕ)) → ((v : List ℕ) → x ≡ some v → y ≡ some v) → ((v : List ℕ) → y ≡ some v → x ≡ some v) → x ≡ y
agree none none f g = refl
agree none (some w) f g = g w refl
agree (some v) y f g = sym (f v refl)

-- a list with the same pages, filed, is the sequence
pub refile : (ps qs : List (List ℕ)) → Sorted (map by_digest ps) → All (AmongPages ps) qs → All (AmongPages qs) ps → filed qs ≡ map by_digest ps
refile ps qs s a b =
    sorted_ext (filed qs) (map by_digest ps) (filed_sorted qs) s (λ k.
    agree (find k (filed qs)) (find k (map by_digest ps))
    (λ v e.
    let at = find_all (FiledFrom qs) (filed qs) k v (filed_from qs) e in
    rw at.0 (file_stands ps s v (all_each (AmongPages ps) qs v a at.1)))
    (λ v e.
    let at = find_all (FiledFrom ps) (map by_digest ps) k v (file_from ps) e in
    rw at.0 (filed_stands qs unshared v (all_each (AmongPages qs) ps v b at.1))))
  where
    unshared : DigestsApart qs
    unshared p q i j e = rising_unshared ps s p q (all_each (AmongPages ps) qs p a i) (all_each (AmongPages ps) qs q a j) e

-- ---- each state
module _ (ps : List (List ℕ)) (good : All PageBytes ps) (small : All Bytes ps) where
  abbrev state : Record → Record
  state r = gathered (map by_digest ps) r

  pub record Back (r : Record) : Type 0 where
    pub is_state : StateOf (state r)
    pub points : pointing (state r) ≡ r
    pub within : All (AmongPages ps) (pages_in (state r).val)

  gathered_bytes_lem : (d : ℕ) (digest s : List ℕ) → Gathered ps d digest s → Bytes s
  gathered_bytes_lem d digest s g =
      let each = all_weaken (AmongPages ps) Bytes (λ p i. all_each Bytes ps p small i) (pages_of g.tree) g.within in
      rw (g.bytes, table_pages g.tree) (bytes_concat (λ b. b) (pages_of g.tree) each)

  pub one_back : (r : Record) → lawful r.key ≡ true → collection r.key ≡ state_collection → eqb (value_codec r.val) dag_cbor ≡ true
      → (o : Option (List ℕ)) → gather deepest (map by_digest ps) (value_digest r.val) ≡ o → is_accepted (judge (bytes_or o)) ≡ true → Back r
  unfolding bytes_or
  one_back r l c v none e h = absurd (nothing_refused h)
  one_back r l c v (some s) e h =
      let g = gather_back ps good deepest (value_digest r.val) s e in
      let pages : pages_in s ≡ pages_of g.tree = ap pages_in g.bytes ∙ pages_in_table g.tree deepest g.good in
      let root : first_digest (pages_in s) ≡ value_digest r.val = ap first_digest pages ∙ first_digest_lem g.tree ∙ sym g.root in
      let value : state_value s ≡ r.val = value_of_digest s r.val v root in
      let bytes : Bytes s = gathered_bytes_lem deepest (value_digest r.val) s g in
      let within : All (AmongPages ps) (pages_in s) = rw pages g.within in
      record {
        is_state = record { key = l; ours = c; bytes = rw e bytes; register = rw e h };
        points = rw e (λ i. record { key = r.key; val = value i });
        within = rw e within;
      }

  pub record AllBack (rs m : List Record) : Type 0 where
    pub each : AllStates m
    pub point : map pointing m ≡ rs
    pub within : All (AmongPages ps) (state_pages m)

  all_back : (rs : List Record) → All LawfulKey rs → all_states rs ≡ true → all_accepted (map state rs) ≡ true → AllBack rs (map state rs)
  unfolding all_states all_accepted state_pages
  all_back [] l a h = record { each = tt; point = refl; within = tt }
  all_back (r ∷ rs) l a h =
      let k = and_inv (equal (collection r.key) state_collection && eqb (value_codec r.val) dag_cbor) a in
      let c = and_inv (equal (collection r.key) state_collection) k.0 in
      let j = and_inv (is_accepted (judge (state r).val)) h in
      let ours = equal_true (collection r.key) state_collection c.0 in
      let one = one_back r l.0 ours c.1 (gather deepest (map by_digest ps) (value_digest r.val)) refl j.0 in
      let rest = all_back rs l.1 k.1 j.1 in
      record {
        each = (one.is_state, rest.each);
        point = ap₂ (λ (x : Record) (l : List Record). x ∷ l) one.points rest.point;
        within = all_append (AmongPages ps) (pages_in (state r).val) (state_pages (map state rs)) one.within rest.within;
      }

-- ---- the map
unpoint_above : (k : List ℕ) (m : List Record) → Above k (map pointing m) → Above k m
unpoint_above k [] a = tt
unpoint_above k (r ∷ m) a = (a.0, unpoint_above k m a.1)

unpoint_sorted : (m : List Record) → Sorted (map pointing m) → Sorted m
unpoint_sorted [] s = tt
unpoint_sorted (r ∷ m) s = (unpoint_above r.key m s.0, unpoint_sorted m s.1)

pub good_pages : (raw : List RawPage) → All GoodPage raw → All PageBytes (map page_bytes raw)
good_pages [] g = tt
good_pages (p ∷ raw) g = ((p, (g.0, refl)), good_pages raw g.1)

bytes_left : (s t : List ℕ) → Bytes (s ++ t) → Bytes s
bytes_left [] t b = tt
bytes_left (x ∷ s) t b = (b.0, bytes_left s t b.1)

pub small_pages : (raw : List RawPage) → Bytes (concat page_bytes raw) → All Bytes (map page_bytes raw)
small_pages [] b = tt
small_pages (p ∷ raw) b = (bytes_left (page_bytes p) (concat page_bytes raw) b, small_pages raw (bytes_right (page_bytes p) (concat page_bytes raw) b))

concat_file : (raw : List RawPage) → concat (λ (r : Record). r.val) (map by_digest (map page_bytes raw)) ≡ concat page_bytes raw
concat_file [] = refl
concat_file (p ∷ raw) = ap (λ (l : List ℕ). page_bytes p ++ l) (concat_file raw)

pub record FittingBuffers (states pages : List ℕ) (m : List Record) : Type 0 where
  pub fit : StatesFit m
  pub register : states ≡ state_register m
  pub sequence : pages ≡ page_sequence m

from_tests : (states pages : List ℕ) (rs : List Record) (raw : List RawPage) → states ≡ table_of rs → Fitting rs → Bytes pages → length pages ≤ longest
    → pages ≡ concat page_bytes raw → All GoodPage raw → AllTests (state_tests rs (map page_bytes raw))
    → FittingBuffers states pages (gathered_states rs (map page_bytes raw))
unfolding state_tests gathered_states state_register state_records page_sequence
from_tests states pages rs raw e f small long spells good h =
    let ps = map page_bytes raw in
    let m = map (gathered (map by_digest ps)) rs in
    let s = rising_sorted (map by_digest ps) h.1.0 in
    let b = all_back ps (good_pages raw good) (small_pages raw (rw spells at small)) rs f.keys h.0 h.1.1.0 in
    let within : Within (state_pages m) ps = λ p. all_each (AmongPages ps) (state_pages m) p b.within in
    let filing : filed (state_pages m) ≡ map by_digest ps =
    refile ps (state_pages m) s b.within (all_among_there ps (state_pages m) h.1.1.1.0) in
    let register : states ≡ table_of (map pointing m) = e ∙ ap table_of (sym b.point) in
    let sequence : pages ≡ concat (λ (r : Record). r.val) (filed (state_pages m)) =
    spells ∙ sym (concat_file raw) ∙ ap (concat (λ (r : Record). r.val)) (sym filing) in
    record {
      fit = record {
        count = omega (arith, f.count, length_pointing m, ap length b.point);
        order = sorted_rising m (unpoint_sorted m (rw b.point (rising_sorted rs f.order)));
        each = b.each;
        unshared = λ p q i j. rising_unshared ps s p q (within p i) (within q j);
        register = rw (b.point, ← e) (omega (arith, f.size, ap length e));
        pages = omega (arith, ap length sequence);
      };
      register = register;
      sequence = sequence;
    }

-- ---- the buffers
refused≢accepted_states : {r : Refusal} {m : List Record} → refused_states r ≡ accepted_states m → ⊥
refused≢accepted_states e = let z : ◌≡◌ {A = ℕ} 0 1 = cc in omega arith

settled_holds : (o : Option Refusal) (n m : List Record) → settle_states o n ≡ accepted_states m → (o ≡ none) × (n ≡ m)
unfolding settle_states
settled_holds none n m h = (refl, cc)
settled_holds (some r) n m h = absurd (refused≢accepted_states h)

module _ (states pages : ByteString) (m : List Record) where
  from_pages : (rs : List Record) → states.list ≡ table_of rs → Fitting rs → length pages.list ≤ longest
      → (r : Read (List RawPage)) → sequence pages.list ≡ r → judge_sequence rs r ≡ accepted_states m → FittingBuffers states.list pages.list m
  unfolding judge_sequence
  from_pages rs e f long ends_early q h = absurd (refused≢accepted_states h)
  from_pages rs e f long departs q h = absurd (refused≢accepted_states h)
  from_pages rs e f long (read raw rest) q h =
      let k = settled_holds (due (state_tests rs (map page_bytes raw))) (gathered_states rs (map page_bytes raw)) m h in
      let b = sequence_back pages.list rest raw pages.small q in
      let passed = due_none (state_tests rs (map page_bytes raw)) k.0 in
      subst (FittingBuffers states.list pages.list) k.1
      (from_tests states.list pages.list rs raw e f pages.small long b.spells b.good passed)

  from_verdict : (v : Verdict) → judge states.list ≡ v → judge_with_pages v pages.list ≡ accepted_states m
      → FittingBuffers states.list pages.list m
  unfolding judge_with_pages
  from_verdict (refused r) j h = absurd (refused≢accepted_states h)
  from_verdict (accepted t) j h =
      let a = accepted_table states.list states.small t j in
      cond-inv (leb (length pages.list) longest)
      (λ e q. from_pages (records t) a.written a.fit (leb-true (length pages.list) longest e) (sequence pages.list) refl q)
      (λ e q. absurd (refused≢accepted_states q))
      h

pub reads_no_other_states : ReadsNoOtherStates
unfolding judge_states
reads_no_other_states b m h =
    let e = from_verdict b.states b.pages m (judge b.states.list) refl h in
    (e.fit, λ i. record { states = e.register i; pages = e.sequence i })
