use borrow.Author.Rules.{rules}
use Rattle.keeping.specs.declared.Unkept.TheVariants.{Short, Shared}
use Rattle.std.specs.Prelude.{Err}
use mathlib.Core.Path.{refl}
use Rattle.state_outputs.proofs.Finishing.{saved_as, kept_as, length_fits, shared_refused, short_ends}
use Rattle.state_outputs.proofs.finish.finish.Goals as goal

pub finish_length-requires : goal.finish_length-requires
finish_length-requires c =
    let given = c.requires in
    length_fits (kept_as c.in-Ok.is given.1.1)

pub returns-in-Ok : goal.returns-in-Ok
returns-in-Ok c = λ o ps b. c.finish_length.ensures o ps (kept_as c.in-Ok.is b)

pub returns-in-Err-Short : goal.returns-in-Err-Short
returns-in-Err-Short c =
    λ o ps b.
    let short = kept_as {other = Err Short} (search rules) b in
    saved_as (rw (c.unwrap_or-refusal.ensures, c.err.ensures.value) (short_ends short c.args.answer refl)) c.refuse_both.ensures

pub returns-in-Err-Shared : goal.returns-in-Err-Shared
returns-in-Err-Shared c =
    λ o ps b.
    let shared = kept_as {other = Err Shared} (search rules) b in
    saved_as (shared_refused shared _) c.refuse_both-in-Err-Shared.ensures
