use mathlib.Core.Path.{sym, ◌∙◌}
use Rattle.key.proofs.SlashLaws.{slash_done}
use Rattle.reading.proofs.Listings.{record_refused, record_same, beside_unlawful, beside_given, beside_none, position_is, no_position}
use Rattle.reading.proofs.rows.beside_accepted.Goals as goal

pub returns-in-Err : goal.returns-in-Err
returns-in-Err c =
    let it = record_refused _ _ _ _ (beside_unlawful _ _ _ _ c.requires.records (sym c.slash.ensures ∙ c.in-Err.is)) (c.refuse_record.ensures.answer, (c.refuse_record.ensures.key, c.refuse_record.ensures.value)) in record { answer = it.0; key = it.1.0; value = it.1.1 }

pub returns-in_default-position_beside : goal.returns-in_default-position_beside
returns-in_default-position_beside c =
    let none_there = no_position _ _ _ c.position_beside.ensures c.in_default-position_beside.is in
    let it = record_refused _ _ _ _ (beside_none _ _ _ _ c.requires.records (slash_done _ _ (sym c.slash.ensures ∙ c.in_default.is)) none_there) (c.refuse_record-in_default-position_beside.ensures.answer, (c.refuse_record-in_default-position_beside.ensures.key, c.refuse_record-in_default-position_beside.ensures.value)) in record { answer = it.0; key = it.1.0; value = it.1.1 }

pub record_at-requires : goal.record_at-requires
record_at-requires c = (record { bytes = c.requires.bytes; records = c.requires.records }, (position_is _ _ _ c.position_beside.ensures c.in-Some.is).0)

pub returns : goal.returns
returns c =
    let there = position_is _ _ _ c.position_beside.ensures c.in-Some.is in
    let it = record_same _ _ _ _ (beside_given _ _ _ _ c.requires.records (slash_done _ _ (sym c.slash.ensures ∙ c.in_default.is)) _ there.1 there.0) (c.record_at.ensures.answer, (c.record_at.ensures.key, c.record_at.ensures.value)) in record { answer = it.0; key = it.1.0; value = it.1.1 }
