-- What is written at the start and at the end of the rows.
use Rattle.keeping.specs.declared.Unkept.TheVariants.{Short, Shared}
use Rattle.std.specs.Prelude.{Ok, Err, None}
use Prim.Native.Nat.{ℕ, ◌+◌, ◌≤◌, ◌<◌}
use mathlib.Core.Path.{◌≡◌, refl, subst}
use mathlib.Core.Logic.{inl, inr}
use mathlib.Core.List.{List, [], ◌++◌}
use native.Mathlib.Omega.{arith}
use lib.ListN.{length}
use Rattle.page.specs.Page.{RawPage}
use Rattle.page.specs.Reading.{concat}
use Rattle.tree.specs.Judge.{rising}
use Rattle.promises.specs.Promises.{Among}
use Rattle.promises.proofs.DifferenceLaws.{among_left, among_right}
use Rattle.states.proofs.Filing.{among-split}
use Rattle.staging.specs.Pages.{PageWords}
use Rattle.keeping.specs.declared.Progress.{Progress}
use Rattle.keeping.specs.Kept.{LabelledPages, kept_from, sequence_of, SequenceWritten}
use Rattle.keeping.specs.Inner.{TakenFrom, KeptSoFar, DigestShared}
use Rattle.std.proofs.lemmas.Option.{none-some}
use Rattle.keeping.proofs.Members.{shares, members_apart, members_sequence, kept_among, among_kept}

pub nothing_written : (raws : List RawPage) (p marks : List ℕ) (n : ℕ) (register : List ℕ) (rootEnd : ℕ) (chains words : List ℕ) (m : ℕ) (out : List ℕ)
    → KeptSoFar raws p marks n register rootEnd chains words m out (record { i = 0; j = 0; place = 0; length = 0; last = None }) out
unfolding rising
nothing_written raws p marks n register rootEnd chains words m out =
    record {
      written = [];
      rise = refl;
      no_other = λ c x. absurd x;
      all = none_taken;
      none = λ _. refl;
      last = λ t e. absurd (none-some t e);
      size = refl;
      output = λ _. refl;
    }
  where
    none_taken : (c : List ℕ) → TakenFrom raws marks register rootEnd chains words 0 0 c → Among c []
    none_taken c (inl x) = absurd (omega (arith, x.1))
    none_taken c (inr x) = absurd (omega (arith, x.1))

module _ (marks : List ℕ) {s p labels : List ℕ} {n : ℕ} {raws : List RawPage} (f : LabelledPages s p labels n raws)
    {root register : List ℕ} {rootEnd : ℕ} {chains words : List ℕ} {m : ℕ} {qs : List (List ℕ)}
    (q : PageWords root register rootEnd chains words m qs) where
  abbrev kept_all : List (List ℕ)
  kept_all = kept_from marks 0 raws ++ qs

  -- the pages of the rows are those of the list
  taken_among : (c : List ℕ) → TakenFrom raws marks register rootEnd chains words n m c → Among c kept_all
  taken_among c (inl x) =
      let e : 0 + x.0 ≡ x.0 = omega arith in
      among_left (kept_from marks 0 raws) qs c
      (subst (λ (b : List ℕ). Among b (kept_from marks 0 raws)) x.3 (kept_among marks 0 raws x.0 (omega (arith, x.1, f.number)) (rw e x.2)))
  taken_among c (inr x) =
      among_right (kept_from marks 0 raws) qs c (subst (λ (b : List ℕ). Among b qs) x.2 (q.no_other x.0 x.1))

  among_taken : (c : List ℕ) → Among c kept_all → TakenFrom raws marks register rootEnd chains words n m c
  among_taken c x =
      among-split (kept_from marks 0 raws) qs c x
      (λ y.
      let z = among_kept marks 0 raws c y in
      let e : 0 + z.0 ≡ z.0 = omega arith in
      inl (z.0, omega (arith, z.1, f.number), rw e at z.2, z.3))
      (λ y. inr (q.all c y))

  pub written_shares : (out out' : List ℕ) → DigestShared raws marks n register rootEnd chains words m → length out' ≡ length out
      → SequenceWritten kept_all out (Err Shared) out'
  written_shares out out' d e =
      (shares kept_all d.one d.other (taken_among d.one d.one_taken) (taken_among d.other d.other_taken) d.same d.unequal, e)

  module _ (out : List ℕ) (g : Progress) (out' : List ℕ) (u : KeptSoFar raws p marks n register rootEnd chains words m out g out')
      (pagesEnd : g.i ≡ n) (wordsEnd : g.j ≡ m) where
    there : (c : List ℕ) → Among c u.written → Among c kept_all
    there c x = taken_among c (rw (pagesEnd, wordsEnd) at (u.no_other c x))

    all : (c : List ℕ) → Among c kept_all → Among c u.written
    all c x = u.all c (rw (pagesEnd, wordsEnd) (among_taken c x))

    whole : sequence_of kept_all ≡ concat (λ b. b) u.written
    whole = members_sequence u.written kept_all u.rise there all

    pub written_whole : g.length ≤ length out → SequenceWritten kept_all out (Ok g.length) out'
    written_whole h =
        (members_apart u.written kept_all u.rise there all, rw whole u.size, rw whole (u.output (omega (arith, u.size))))

    pub written_short : length out < g.length → length out' ≡ length out → SequenceWritten kept_all out (Err Short) out'
    written_short h e =
        (members_apart u.written kept_all u.rise there all, rw whole (omega (arith, u.size)), e)
