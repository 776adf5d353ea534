-- Bytes that go to the output where there is room for them: what is answered and written.
use Rattle.answer.specs.declared.Refusal.{Refusal}
use Rattle.std.specs.Prelude.{Result, Ok, Err}
use Prim.Native.Nat.{ℕ, ◌≤◌, ◌<◌}
use mathlib.Core.Path.{◌≡◌, sym, ap, ◌∙◌}
use mathlib.Core.List.{List}
use lib.ListN.{length, drop, length-drop}
use borrow.Author.Tests.{le-leb, lt-leb}
use Rattle.bytestring.specs.Bytes.{zeros, front}
use Rattle.bytestring.proofs.Lending.{lent, back, lent_is, back_is}
use Rattle.answer.specs.declared.Refusal.TheVariants.{NoRoom}
use Rattle.tree.specs.Judge.{due}
use Rattle.promises.specs.Outcome.{answer_of, output_of}
use Rattle.path.specs.Path.{settle_path}
use Rattle.path_writer.specs.Chains.{measured_path, PathMeasured}

module _ (path o : List ℕ) where
  -- they stand at its front, and what is behind them was cleared
  pub path_fits : length path ≤ length o → (out zs : List ℕ) (next : ℕ) → out ≡ front path o → next ≡ length path → zs ≡ zeros (length (lent next out))
      → PathMeasured path (length o) (Ok next) (back next out zs)
  unfolding measured_path settle_path due answer_of output_of
  path_fits h out zs next e n z =
      let behind : lent next out ≡ drop (length path) o = lent_is out path (drop (length path) o) next e (sym n) in
      rw (le-leb (length path) (length o) h)
      (ap Ok n, back_is out path (drop (length path) o) next e (sym n) zs ∙ rw (z, behind, length-drop (length path) o))

  pub path_lacks : length o < length path → {answer : Result ℕ Refusal} {out : List ℕ} → answer ≡ Err NoRoom → out ≡ zeros (length o) → PathMeasured path (length o) answer out
  unfolding measured_path settle_path due answer_of output_of
  path_lacks h a e = rw (lt-leb (length path) (length o) h) (a, e)
