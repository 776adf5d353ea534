use mathlib.Core.Path.{sym, ◌∙◌}
use native.Mathlib.Omega.{arith}
use Rattle.key.proofs.SlashLaws.{slash_done}
use Rattle.reading.proofs.Verdicts.{standing}
use Rattle.path_writer.proofs.Verdicts.{path_unlawful, short_path, path_says}
use Rattle.path_writer.proofs.rows.path_accepted.Goals as goal

pub returns-in-Err : goal.returns-in-Err
returns-in-Err c =
    let it = path_unlawful _ _ _ (c.refuse.ensures.answer, c.refuse.ensures.output) c.requires.records.judged (sym c.slash.ensures ∙ c.in-Err.is) in record { answer = it.0; output = it.1 }

pub write_path-requires : goal.write_path-requires
write_path-requires c =
    let pre = c.requires in
    let a = standing pre in
    (pre, short_path _ _ a _ _ c.lower_bound-low.ensures.number c.upper_bound-high.ensures.number)

pub returns : goal.returns
returns c =
    let a = standing c.requires in let it = path_says _ _ _ a _ _ c.lower_bound-low.ensures.number c.upper_bound-high.ensures.number (slash_done _ _ (sym c.slash.ensures ∙ c.in_default.is)) c.write_path.ensures in record { answer = it.0; output = it.1 }
