use Rattle.reading.proofs.Listings.{count_is, after_position, none_after, before_position}
use Rattle.reading.proofs.rows.position_beside.Goals as goal

pub returns-then-not-after : goal.returns-then-not-after
returns-then-not-after c =
    let b = c.lower_bound-below.ensures in
    before_position _ _ _ _ b.number b.within (count_is c.requires.records) _ c.if-not-after.true _ c.checked_sub.ensures

pub returns-then-below-count : goal.returns-then-below-count
returns-then-below-count c =
    let b = c.lower_bound-below.ensures in
    after_position _ _ _ _ b.number b.within (count_is c.requires.records) _ c.if-not-after.false c.if-below-count.true

pub returns : goal.returns
returns c =
    let b = c.lower_bound-below.ensures in
    none_after _ _ _ _ b.number b.within (count_is c.requires.records) _ c.if-not-after.false c.if-below-count.false
