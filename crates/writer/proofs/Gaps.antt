-- What the writer of a gap says, and what a caller makes of it.
use Prim.Native.Nat.{ℕ, zero, suc, ◌-◌, ◌≤◌, ◌<◌}
use Rattle.std.specs.Prelude.{Option, None, Some, is_some, IfSome}
use mathlib.Core.Path.{◌≡◌, refl, sym, ap, subst, ◌∙◌}
use mathlib.Core.Bool.{Bool, true, false, false≢true}
use mathlib.Core.Option.{some}
use mathlib.Core.List.{List, ◌++◌, append_assoc}
use native.Mathlib.Omega.{arith}
use borrow.Author.Tests.{le-leb, lt-leb, leb-true, leb-false}
use lib.ListN.{length, take, drop}
use lib.Seq.{take_at}
use Rattle.fips180.specs.Hash.{sha256}
use Rattle.fips180.proofs.Laws.{length_sha256}
use Rattle.tree.specs.Tree.{Page, Gap, empty, under, Placed, gap_of, build}
use Rattle.tree.specs.Record.{Record, spelt, spelt_under}
use Rattle.tree.specs.Table.{link_of, bytes_of_page, table, table_under, digest_of}
use Rattle.layout.specs.Build.{span, gap_for}
use Rattle.layout.specs.Layout.{has_page}
use Rattle.writer.specs.Wrote.{TableDone, Written, below_of, GapDone, GapWritten}
use Rattle.writer.specs.declared.pages.Wrote.{Wrote}
use Rattle.writer.specs.declared.pages.Below.{Below}
use Rattle.writer.proofs.Tables.{table_in, behind_page, table_front, table_longer}

-- ---- no room
pub no_room : (t : Page Record (List ℕ)) (o after : List ℕ) (r : Option Wrote) → length o < length (table (spelt t)) → r ≡ None → Written t o after r
no_room t o after r h e = rw e (record { room = sym (lt-leb (length (table (spelt t))) (length o) h); done = tt })

-- ---- a table was written
module _ {t : Page Record (List ℕ)} {o after : List ℕ} {r : Option Wrote} {v : Wrote} (w : Written t o after r) (e : r ≡ Some v) where
  pub table_done : TableDone t o after v.len v.own
  table_done = subst (λ (x : Option Wrote). IfSome x (λ (y : Wrote). TableDone t o after y.len y.own)) e w.done

  pub table_fits : length (table (spelt t)) ≤ length o
  table_fits = leb-true (length (table (spelt t))) (length o) (sym w.room ∙ ap is_some e)

  -- it begins with its first page
  pub first_page : take v.own after ≡ bytes_of_page (spelt t)
  first_page =
      let rest : List ℕ = behind_page t ++ drop (length (table (spelt t))) o in
      let whole : after ≡ bytes_of_page (spelt t) ++ rest =
      table_done.wrote ∙ ap (λ (l : List ℕ). l ++ drop (length (table (spelt t))) o) (table_front t) ∙ append_assoc (bytes_of_page (spelt t)) (behind_page t) (drop (length (table (spelt t))) o) in
      rw whole (take_at (bytes_of_page (spelt t)) rest v.own (sym table_done.first))

pub own_fits : {t : Page Record (List ℕ)} {o after : List ℕ} {r : Option Wrote} {v : Wrote} → Written t o after r → length after ≡ length o → r ≡ Some v → v.own ≤ length after
own_fits {t} w k e = omega (arith, (table_done w e).first, table_longer t, table_fits w e)

-- ---- the gap of a range
gap_none : (n : ℕ) (f : ℕ → Placed Record) (i m : ℕ) → has_page n m ≡ false → gap_for n (span f i m) ≡ empty
unfolding gap_for span gap_of has_page
gap_none zero f i m e = refl
gap_none (suc n) f i zero e = refl
gap_none (suc n) f i (suc m) e = absurd (false≢true (sym e))

gap_page : (n : ℕ) (f : ℕ → Placed Record) (i m : ℕ) → has_page n m ≡ true
    → gap_for n (span f i m) ≡ under (digest_of (build digest_of (n - 1) (span f i m))) (build digest_of (n - 1) (span f i m))
unfolding gap_for span gap_of has_page
gap_page zero f i m e = absurd (false≢true e)
gap_page (suc n) f i zero e = absurd (false≢true e)
gap_page (suc n) f i (suc m) e = let z : suc n - 1 ≡ n = omega arith in rw z

some_layer : (n m : ℕ) → has_page n m ≡ true → 0 < n
unfolding has_page
some_layer zero m e = absurd (false≢true e)
some_layer (suc n) m e = omega arith

nothing_written : (g : Gap Record (List ℕ)) (o : List ℕ) → g ≡ empty → GapWritten g o o (Some (record { len = 0; link = None }))
unfolding table_under spelt_under link_of
nothing_written g o e = rw e (record { room = sym (le-leb 0 (length o) (omega arith)); done = record { wrote = refl; size = refl; link = refl; whole = tt } })

module _ {t : Page Record (List ℕ)} {o after : List ℕ} {r : Option Wrote} (w : Written t o after r) where
  page_refused : r ≡ None → GapWritten (under (digest_of t) t) o after None
  unfolding table_under spelt_under
  page_refused e = record { room = sym (ap is_some e) ∙ w.room; done = tt }

  page_linked : {v : Wrote} → r ≡ Some v → GapWritten (under (digest_of t) t) o after (Some (below_of v after))
  unfolding table_under spelt_under link_of digest_of below_of
  page_linked {v} e = record {
    room = sym (ap is_some e) ∙ w.room;
    done = record {
      wrote = (table_done w e).wrote;
      size = (table_done w e).size;
      link = ap (λ (l : List ℕ). some (sha256 l)) (first_page w e);
      whole = length_sha256 (take v.own after);
    };
  }

module _ (n : ℕ) (f : ℕ → Placed Record) (i m : ℕ) (o after : List ℕ) (has : Bool) (ep : has ≡ has_page n m) where
  pub gap_nothing : has ≡ false → GapWritten (gap_for n (span f i m)) o o (Some (record { len = 0; link = None }))
  gap_nothing e = nothing_written (gap_for n (span f i m)) o (gap_none n f i m (sym ep ∙ e))

  pub gap_layer : has ≡ true → 0 < n
  gap_layer e = some_layer n m (sym ep ∙ e)

  module _ (e : has ≡ true) (k : ℕ) (ek : n - 1 ≡ k) {r : Option Wrote} (w : Written (build digest_of k (span f i m)) o after r) where
    pub gap_below : {v : Wrote} → r ≡ Some v → (b : Below) → b ≡ below_of v after → GapWritten (gap_for n (span f i m)) o after (Some b)
    gap_below is b eb = rw (eb, gap_page n f i m (sym ep ∙ e), ek) (page_linked w is)

    pub gap_refused : r ≡ None → (b : Option Below) → b ≡ None → GapWritten (gap_for n (span f i m)) o after b
    gap_refused is b eb = rw (eb, gap_page n f i m (sym ep ∙ e), ek) (page_refused w is)

-- ---- what a caller makes of it
module _ {g : Gap Record (List ℕ)} {o after : List ℕ} {r : Option Below} (w : GapWritten g o after r) where
  pub gap_lacks : r ≡ None → length o < length (table_in g)
  gap_lacks e = leb-false (length (table_in g)) (length o) (sym w.room ∙ ap is_some e)

  pub gap_done : {b : Below} → r ≡ Some b → GapDone g o after b.len b.link
  gap_done e = subst (λ (x : Option Below). IfSome x (λ (y : Below). GapDone g o after y.len y.link)) e w.done

  pub gap_fits : {b : Below} → r ≡ Some b → length (table_in g) ≤ length o
  gap_fits e = leb-true (length (table_in g)) (length o) (sym w.room ∙ ap is_some e)
