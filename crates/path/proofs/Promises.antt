-- Every path that is written is accepted, and an output as long as the register has room for it.
use mathlib.Core.Bool.{true}
use Rattle.promises.specs.Outcome.{wrote}
use Rattle.promises.specs.Pages.{pages_of}
use Rattle.fips180.proofs.Laws.{length_sha256}
use lib.Dec.{leb}
use Rattle.value.specs.Value.{is_digest}
use Rattle.key.specs.Key.{lawful}
use Rattle.limits.specs.Limits.{longest, deepest}
use mathlib.Core.Option.{Option, none, some}
use Rattle.answer.specs.declared.Refusal.TheVariants.{UnlawfulKey, NoRoom}
use Rattle.answer.specs.declared.Refusal.{Refusal}
use Prim.Native.Nat.{ℕ, zero, suc, ◌+◌, ◌≤◌}
use mathlib.Core.Path.{◌≡◌, refl, sym, ap, ◌∙◌, subst}
use mathlib.Core.List.{List, [], ◌++◌, ◌∷◌}
use native.Mathlib.Omega.{arith}
use lib.ListN.{length, drop}
use borrow.Author.Tests.{le-leb, eq-eqb}
use Rattle.page.specs.Page.{page_bytes}
use Rattle.page.proofs.Pages.{page_reads}
use Rattle.tree.specs.Tree.{page, Gap, empty, under, Entries, items}
use Rattle.tree.specs.Record.{Spelt, keyed, records}
use Rattle.tree.specs.Table.{SpeltTree, link_of, raw_page, bytes_of_page}
use Rattle.tree.specs.Judge.{due, accepted, Test}
use Rattle.tree.proofs.Laws.{accepted_table, due_none}
use Rattle.promises.specs.Map.{find}
use Rattle.promises.proofs.MapLaws.{find_nil}
use Rattle.path.specs.Path.{path_of, path_under, path_from, settle_path, path_verdict, path_outcome}
use Rattle.path.specs.Verify.{sought_in, PathVerdict, unless, on_page, at_end, go_on, judge_pages, verify_verdict}
use Rattle.path.specs.Promises.{root_digest, SaysWhatIsThere, EveryPathIsWritten, PathsAccepted}
use Rattle.path.proofs.Searching.{rest_is}
use Rattle.path.proofs.Trees.{TreeWay, at_entry, at_gap, path_short, table_is, path_longest}
use Rattle.path.proofs.Right.{Right, RightGap, no_number, way, below, there, right_register}

-- ---- every path that is written is accepted
module _ (all : List (List ℕ)) (path k : List ℕ) where
  abbrev Saying : ℕ → Type 0
  Saying depth =
      (t : SpeltTree) → Right all depth t → (at : ℕ) → drop at path ≡ path_of k t
      → SaysWhatIsThere (find k (records t)) path (judge_pages depth k (root_digest t) at (path_of k t))

  module _ (depth : ℕ) (next : Saying depth) (g : Gap Spelt (List ℕ)) (es : Entries Spelt (List ℕ)) (w : Right all (suc depth) (page g es)) (at : ℕ) where
    abbrev root : SpeltTree
    root = page g es

    -- the pages after the root
    abbrev rest : List ℕ
    rest = path_from k (path_under k g) [] es

    abbrev on_rest : List ℕ → PathVerdict
    on_rest digest = judge_pages depth k digest (at + length (page_bytes (raw_page root))) rest

    said_way : drop at path ≡ page_bytes (raw_page root) ++ rest → TreeWay k (RightGap all depth) g [] es (sought_in k at (raw_page root))
        → SaysWhatIsThere (find k (records root)) path (go_on (sought_in k at (raw_page root)) rest on_rest)
    unfolding go_on at_end keyed items link_of path_under
    said_way stands (at_entry place q f o) = rw (q, o, f ∙ there all depth g es w k path at rest stands place q) (place, refl, refl)
    said_way stands (at_gap empty x q f o part) = rw (q, o, f, find_nil k) refl
    said_way stands (at_gap (under digest p) x q f o part) =
        let b = below all depth g es w digest p x part in
        let left = sym (rest_is path at (raw_page root) rest stands) ∙ o in
        rw (q, f, o, b.1) (next p b.0 (at + length (page_bytes (raw_page root))) left)

    said_page : drop at path ≡ path_of k root → SaysWhatIsThere (find k (records root)) path (judge_pages (suc depth) k (root_digest root) at (path_of k root))
    unfolding judge_pages on_page unless path_of bytes_of_page
    said_page stands = rw (page_reads (raw_page root) rest w.good.0, no_number all depth g es w) (said_way stands (way all depth g es w k at))

  saying : (depth : ℕ) → Saying depth
  saying zero t w at stands = absurd w.good
  saying (suc depth) (page g es) w at stands = said_page depth (saying depth) g es w at stands

-- what is written is the path of a lawful key
wrote_path : (o : Option Refusal) (p path : List ℕ) → settle_path o p ≡ wrote path → (o ≡ none) × (p ≡ path)
unfolding settle_path
wrote_path none p path e = (refl, cc)
wrote_path (some r) p path e = let z : ◌≡◌ {A = ℕ} 0 1 = cc in absurd (omega arith)

-- no number is due before its pages
said_root : (t : SpeltTree) (path k : List ℕ) → length path ≤ longest → lawful k ≡ true
    → SaysWhatIsThere (find k (records t)) path (judge_pages deepest k (root_digest t) 0 path) → SaysWhatIsThere (find k (records t)) path (verify_verdict path k (root_digest t))
unfolding verify_verdict due unless is_digest
said_root t path k size l h = rw (le-leb (length path) longest size, l, eq-eqb (length (root_digest t)) 32 (length_sha256 (bytes_of_page t))) h

pub paths_accepted : PathsAccepted
unfolding path_outcome path_verdict
paths_accepted s k t j room path e =
    let a = accepted_table s.list s.small t j in
    let asked : List Test = (UnlawfulKey, lawful k.list) ∷ (NoRoom, leb (length (path_of k.list t)) room) ∷ [] in
    let done = wrote_path (due asked) (path_of k.list t) path (rw j at e) in
    subst (λ (p : List ℕ). SaysWhatIsThere (find k.list (records t)) p (verify_verdict p k.list (root_digest t))) done.1
    (said_root t (path_of k.list t) k.list (path_longest k.list s.list t a) (due_none asked done.0).0
    (saying (pages_of t) (path_of k.list t) k.list deepest t (right_register (pages_of t) s.list t a (λ p i. i)) 0 refl))

-- ---- an output as long as the register has room for every path
pub every_path_is_written : EveryPathIsWritten
unfolding path_outcome path_verdict settle_path due
every_path_is_written s k t j l room enough =
    let same = table_is s.list t (accepted_table s.list s.small t j) in
    rw (j, l, le-leb (length (path_of k.list t)) room (omega (arith, path_short k.list t, ap length same)))
