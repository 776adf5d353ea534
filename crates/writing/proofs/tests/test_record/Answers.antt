use mathlib.Core.Path.{refl, sym, ◌∙◌}
use borrow.Author.Rules.{rules}
use Rattle.answer.specs.declared.Refusal.TheVariants.{UnlawfulKey, WrongValue}
use Rattle.key.proofs.SlashLaws.{slash_done}
use Rattle.writing.proofs.Writing.{test_holds, test_fails, unlawful_fails, none_due, value_short, value_other, value_right}
use Rattle.writing.proofs.tests.test_record.Goals as goal

pub returns-in_err-slash : goal.returns-in_err-slash
returns-in_err-slash c = sym (search rules) ∙ unlawful_fails _ _ (sym c.slash.ensures ∙ c.in_err-slash.was)

pub returns-then-value-ne-VALUE : goal.returns-then-value-ne-VALUE
returns-then-value-ne-VALUE c =
    test_holds _ UnlawfulKey (slash_done _ _ (sym c.slash.ensures ∙ c.in_ok-slash.was))
    (test_fails _ WrongValue (value_short _ c.if-value-ne-VALUE.true))

pub returns-then-not-is_codec : goal.returns-then-not-is_codec
returns-then-not-is_codec c =
    test_holds _ UnlawfulKey (slash_done _ _ (sym c.slash.ensures ∙ c.in_ok-slash.was))
    (test_fails _ WrongValue (value_other _ c.if-value-ne-VALUE.false _ refl (sym (c.if-not-is_codec.true) ∙ c.is_codec.ensures)))

pub returns : goal.returns
returns c =
    test_holds _ UnlawfulKey (slash_done _ _ (sym c.slash.ensures ∙ c.in_ok-slash.was))
    (test_holds _ WrongValue (value_right _ c.if-value-ne-VALUE.false _ refl (sym (c.if-not-is_codec.false) ∙ c.is_codec.ensures)) none_due)
