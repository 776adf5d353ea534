-- The path of a key in a register that is judged.
use Rattle.std.specs.Prelude.{Result, Err}
use Prim.Native.Nat.{ℕ, ◌≤◌, ◌<◌}
use mathlib.Core.Path.{◌≡◌, refl, sym, ap, ◌∙◌}
use mathlib.Core.Bool.{true, ◌&&◌}
use mathlib.Core.List.{List, [], ◌∷◌}
use native.Mathlib.Nat.{zero-add}
use native.Mathlib.Omega.{arith}
use lib.ListN.{length}
use Rattle.limits.specs.Limits.{longest}
use Rattle.bytestring.specs.Bytes.{Bytes, zeros}
use Rattle.bytestring.proofs.Tools.{and_inv}
use Rattle.answer.specs.declared.Refusal.{Refusal}
use Rattle.key.specs.Key.{lawful, slash_answer}
use Rattle.key.proofs.SlashLaws.{slash_refused}
use Rattle.tree.specs.Record.{records}
use Rattle.tree.specs.Table.{SpeltTree, digest_of, tree_of_set}
use Rattle.tree.specs.Judge.{due, refused, accepted, judge}
use Rattle.tree.proofs.Laws.{Accepted, accepted_table, one_tree, tree_right}
use Rattle.index.specs.Slot.{slots, level_slots, filled}
use Rattle.index.specs.Walk.{holding}
use Rattle.index.specs.Chain.{Chain, chains}
use Rattle.index.specs.Accepted.{ChainRow}
use Rattle.judge.specs.Layers.{top_of}
use Rattle.judge.proofs.RightTree.{right_tests}
use Rattle.row.specs.Search.{count_below, count_up_to}
use Rattle.reading.specs.Positions.{accepted_records}
use Rattle.reading.proofs.Verdicts.{Accepting, t, sorted}
use Rattle.reading.proofs.Listings.{records_in_lem}
use Rattle.promises.specs.Outcome.{answer_of, output_of}
use Rattle.path.proofs.Trees.{table_is, path_longest}
use Rattle.path.specs.Path.{path_of, settle_path, path_verdict, path_outcome}
use Rattle.path_writer.specs.Chains.{covering, path_among, measured_path, PathMeasured, ShortPath, PathSays}
use Rattle.path_writer.proofs.Positions.{Stands}
use Rattle.path_writer.proofs.Paths.{root_path}

-- ---- the row of chains, or the one page of the empty register
no_chain_lem : (cs : List Chain) → length cs ≡ 0 → cs ≡ []
no_chain_lem [] h = refl
no_chain_lem (c ∷ cs) h = absurd (omega arith)

some_chains : (low high : ℕ) (u : SpeltTree) (cs : List Chain) → 0 < length cs → path_among low high u cs ≡ covering low high cs
unfolding path_among
some_chains low high u [] h = absurd (omega arith)
some_chains low high u (c ∷ cs) h = refl

module _ {s row : List ℕ} {n : ℕ} (w : ChainRow s row n) where
  abbrev cs : List Chain
  cs = chains 0 0 [] w.tree

  module _ (low high room : ℕ) {answer : Result ℕ Refusal} {out : List ℕ} where
    says : PathMeasured (path_among low high w.tree cs) room answer out → PathSays s low high room answer out
    unfolding PathSays
    says x u h = rw (← one_tree s w.judged h) x

    pub chains_say : 0 < n → PathMeasured (covering low high cs) room answer out → PathSays s low high room answer out
    chains_say h x = says (rw (some_chains low high w.tree cs (omega (arith, w.size))) x)

  pub covering_short : (low high : ℕ) → ShortPath s low high → 0 < n → length (covering low high cs) ≤ longest
  unfolding ShortPath
  covering_short low high short h = rw (some_chains low high w.tree cs (omega (arith, w.size))) at (short w.tree w.judged)

  module _ (bytes : Bytes s) where
    abbrev facts : Accepted s w.tree
    facts = accepted_table s bytes w.tree w.judged

    pub register_short : length s ≤ longest
    register_short = omega (arith, ap length facts.written, facts.fit.size)

    pub empty_says : (low high room : ℕ) {answer : Result ℕ Refusal} {out : List ℕ} → n ≡ 0 → PathMeasured s room answer out → PathSays s low high room answer out
    unfolding path_among
    empty_says low high room h x = says low high room (rw (no_chain_lem cs (sym w.size ∙ h), ← table_is s w.tree facts) x)

-- ---- the key's positions
module _ (s k : List ℕ) {index : List ℕ} {count : ℕ} (a : Accepting s index count) (low high : ℕ)
    (lower : low ≡ count_below k (accepted_records (judge s))) (upper : high ≡ count_up_to k (accepted_records (judge s))) where
  stands : Stands k low high 0 (records (t a))
  stands = record {
    lower = lower ∙ rw (records_in_lem a.given) (sym (zero-add (count_below k (records (t a)))));
    upper = upper ∙ rw (records_in_lem a.given) (sym (zero-add (count_up_to k (records (t a)))));
    order = sorted a;
  }

  right : ((holding 0 (t a) && filled (t a)) && level_slots (top_of (slots 0 0 (t a))) (slots 0 0 (t a))) ≡ true
  unfolding tree_of_set
  right = right_tests (t a) ∙ rw (accepted_table s a.bytes (t a) a.given.judged).spells (tree_right digest_of (records (t a)))

  path_is : path_among low high (t a) (chains 0 0 [] (t a)) ≡ path_of k (t a)
  path_is =
      let r = and_inv (holding 0 (t a)) (and_inv (holding 0 (t a) && filled (t a)) right).0 in
      root_path low high k (t a) r.0 r.1 stands

  pub short_path : ShortPath s low high
  unfolding ShortPath
  short_path u e =
      rw (one_tree s e a.given.judged, path_is) (path_longest k s (t a) (accepted_table s a.bytes (t a) a.given.judged))

-- ---- the verdict
module _ (s k : List ℕ) (room : ℕ) where
  abbrev Says : Result ℕ Refusal → List ℕ → Type 0
  Says answer out = (answer ≡ answer_of (path_outcome s k room)) × (out ≡ output_of (path_outcome s k room) room)

  module _ {answer : Result ℕ Refusal} {out : List ℕ} {r : Refusal} (refuses : (answer ≡ Err r) × (out ≡ zeros room)) where
    pub path_refused : judge s ≡ refused r → Says answer out
    unfolding path_outcome path_verdict answer_of output_of
    path_refused e = rw e refuses

    pub path_unlawful : {u : SpeltTree} → judge s ≡ accepted u → slash_answer k ≡ Err r → Says answer out
    unfolding path_outcome path_verdict due settle_path answer_of output_of
    path_unlawful e q = let w = slash_refused k r q in rw (e, w.0, ← w.1) refuses

  path_lawful : (u : SpeltTree) → judge s ≡ accepted u → lawful k ≡ true → path_outcome s k room ≡ measured_path (path_of k u) room
  unfolding path_outcome path_verdict due measured_path
  path_lawful u e l = rw (e, l)

  pub path_says : {index : List ℕ} {count : ℕ} (a : Accepting s index count) (low high : ℕ) → low ≡ count_below k (accepted_records (judge s))
      → high ≡ count_up_to k (accepted_records (judge s)) → lawful k ≡ true → {answer : Result ℕ Refusal} {out : List ℕ} → PathSays s low high room answer out → Says answer out
  unfolding PathSays
  path_says a low high lower upper l says = rw (path_lawful (t a) a.given.judged l, ← path_is s k a low high lower upper) (says (t a) a.given.judged)
