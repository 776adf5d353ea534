use mathlib.Core.Path.{◌≡◌}
use lib.ListN.{length}
use Rattle.states_reader.specs.Inner.{Judging, OthersJudged}
use Rattle.states_reader.proofs.reached.judge_others.Given as goal

abbrev pub invariant-loop-i : goal.invariant-loop-i
invariant-loop-i l =
    (length l.pages ≡ length l.initial.pages) × (length l.counts ≡ length l.initial.counts) × (length l.keys ≡ length l.initial.keys) × (length l.tags ≡ length l.initial.tags)
    × (length l.last ≡ length l.initial.last) × OthersJudged l.states l.sequence l.roots l.n l.own l.i l.pages × Judging l.states l.sequence l.labels l.pages l.counts l.keys l.tags l.last l.n
