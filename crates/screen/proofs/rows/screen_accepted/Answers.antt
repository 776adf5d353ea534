use mathlib.Core.Path.{sym, ◌∙◌}
use Rattle.promises.proofs.CountedLaws.{counted_refused}
use Rattle.reading.proofs.Verdicts.{standing}
use Rattle.screen.proofs.Naming.{name_fits, bounds_rise}
use Rattle.screen.proofs.Showing.{name_refused, screen_says}
use Rattle.screen.proofs.rows.screen_accepted.Goals as goal

pub returns-then-not-is_collection_name : goal.returns-then-not-is_collection_name
returns-then-not-is_collection_name c =
    let pre = c.requires in let it = counted_refused _ _ _ (name_refused _ _ _ _ _ pre.records.judged (sym c.is_collection_name.ensures ∙ c.if-not-is_collection_name.true)) (c.refuse.ensures.answer, c.refuse.ensures.output) in record { answer = it.0; output = it.1 }

pub count_before-low-requires : goal.count_before-low-requires
count_before-low-requires c = (c.requires, name_fits _ (sym c.is_collection_name.ensures ∙ c.if-not-is_collection_name.false))

pub count_before-high-requires : goal.count_before-high-requires
count_before-high-requires c = (c.requires, name_fits _ (sym c.is_collection_name.ensures ∙ c.if-not-is_collection_name.false))

pub show-requires : goal.show-requires
show-requires c =
    let pre = c.requires in
    let a = standing pre in
    (pre, bounds_rise a _ (sym c.is_collection_name.ensures ∙ c.if-not-is_collection_name.false) _ _ c.count_before-low.ensures.number c.count_before-high.ensures.number, c.count_before-high.ensures.within)

pub returns : goal.returns
returns c =
    let a = standing c.requires in let it = screen_says a _ (sym c.is_collection_name.ensures ∙ c.if-not-is_collection_name.false) _ _ c.count_before-low.ensures.number c.count_before-high.ensures.number _ _ (c.show.ensures.answer, c.show.ensures.output) in record { answer = it.0; output = it.1 }
