use mathlib.Core.Path.{refl, sym, ◌∙◌}
use mathlib.Core.Logic.{inl}
use Rattle.bytestring.proofs.Equal.{equal_true}
use Rattle.keeping.proofs.Parts.{parts_differ}
use Rattle.keeping.proofs.add_part.Goals as goal

pub returns-then-same_bytes : goal.returns-then-same_bytes
returns-then-same_bytes c =
    let a = c.args in
    let same = equal_true _ _ (sym c.same_bytes.ensures ∙ c.if-same_bytes.true) in
    inl (c.in-Some.other, c.in-Some.ensures.0, sym c.bytes_of_part-bytes.ensures ∙ same ∙ c.bytes_of_part.ensures, refl, refl)

pub returns : goal.returns
returns c =
    let a = c.args in
    let differ = parts_differ _ _ _ c.same_bytes.ensures c.if-same_bytes.false in
    (c.in-Some.other, c.in-Some.ensures.0, c.in-Some.ensures.1, λ e. differ (c.bytes_of_part-bytes.ensures ∙ e ∙ sym c.bytes_of_part.ensures))
