use mathlib.Core.Path.{sym, ap, ◌∙◌}
use mathlib.Core.Bool.{not}
use borrow.Author.Rules.{rules}
use Rattle.answer.specs.declared.Refusal.TheVariants.{UnlawfulKey, FirstAfterLast}
use Rattle.key.proofs.SlashLaws.{slash_done}
use Rattle.writing.proofs.Writing.{test_holds, test_fails, unlawful_fails, none_due, order_lt}
use Rattle.writing.proofs.tests.test_range.Goals as goal

pub returns-in_err-slash : goal.returns-in_err-slash
returns-in_err-slash c = sym (search rules) ∙ unlawful_fails _ _ (sym c.slash.ensures ∙ c.in_err-slash.was)

pub returns-in_err-slash-2 : goal.returns-in_err-slash-2
returns-in_err-slash-2 c =
    test_holds _ UnlawfulKey (slash_done _ _ (sym c.slash.ensures ∙ c.in_ok-slash.was))
    (sym (search rules) ∙ unlawful_fails _ _ (sym c.slash-2.ensures ∙ c.in_err-slash-2.was))

pub returns-then-is_lt : goal.returns-then-is_lt
returns-then-is_lt c =
    test_holds _ UnlawfulKey (slash_done _ _ (sym c.slash.ensures ∙ c.in_ok-slash.was))
    (test_holds _ UnlawfulKey (slash_done _ _ (sym c.slash-2.ensures ∙ c.in_ok-slash-2.was))
    (test_fails _ FirstAfterLast (ap not (order_lt _ _ _ c.compare.ensures c.is_lt.ensures ∙ c.if-is_lt.true))))

pub returns : goal.returns
returns c =
    test_holds _ UnlawfulKey (slash_done _ _ (sym c.slash.ensures ∙ c.in_ok-slash.was))
    (test_holds _ UnlawfulKey (slash_done _ _ (sym c.slash-2.ensures ∙ c.in_ok-slash-2.was))
    (test_holds _ FirstAfterLast (ap not (order_lt _ _ _ c.compare.ensures c.is_lt.ensures ∙ c.if-is_lt.false)) none_due))
