use mathlib.Core.Path.{sym, ◌∙◌}
use Rattle.key.proofs.SlashLaws.{slash_done}
use Rattle.reading.proofs.Answering.{place_fits, answer_found, answer_absent, answer_unlawful}
use borrow.Author.Rules.{rules}
use Rattle.reading.proofs.rows.lookup_accepted.Goals as goal

pub returns-in_err-slash : goal.returns-in_err-slash
returns-in_err-slash c = search (rules, answer_unlawful _ _ c.requires.records (sym c.slash.ensures ∙ c.in_err-slash.was))

pub overflow_cast-result : goal.overflow_cast-result
overflow_cast-result c =
    let bytes = c.requires.bytes in
    let fits = place_fits c.requires.records _ _ c.search.ensures.says _ _ c.in-Ok.is bytes in
    search rules

pub returns : goal.returns
returns c =
    answer_found c.requires.records _ _ c.search.ensures.says (slash_done _ _ (sym c.slash.ensures ∙ c.in_ok-slash.was)) _ _ _ c.in-Ok.is (c.from.ensures ∙ c.codec_at.ensures)

pub returns-in_default : goal.returns-in_default
returns-in_default c =
    answer_absent c.requires.records _ _ c.search.ensures.says (slash_done _ _ (sym c.slash.ensures ∙ c.in_ok-slash.was)) _ c.in_default.is
