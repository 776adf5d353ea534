use mathlib.Core.Path.{sym, ◌∙◌}
use native.Mathlib.Omega.{arith}
use Rattle.key.proofs.Laws.{less_asymmetric}
use Rattle.keeping.proofs.Turns.{next_is_page, next_is_word}
use Rattle.keeping.proofs.next_part.Goals as goal

pub returns-then-m-j : goal.returns-then-m-j
returns-then-m-j c =
    let a = c.args in
    let v = c.filed_part in
    λ raws f. next_is_page f c.requires.0.1 a.i a.j v.result v.ensures.0 (omega (arith, c.if-m-j.true, c.requires.3))
    (v.ensures.2 raws f) v.ensures.1 (λ q. absurd (omega (arith, c.if-m-j.true)))

pub saved_part-requires : goal.saved_part-requires
saved_part-requires c =
    let a = c.args in
    (c.requires.0.1.saved.1.each a.j (omega arith), c.requires.0.1.short)

pub returns-then-n-i : goal.returns-then-n-i
returns-then-n-i c =
    let a = c.args in
    let v = c.saved_part in
    λ raws f. next_is_word f c.requires.0.1 a.i a.j v.result v.ensures.0 c.if-m-j.false v.ensures.1
    (λ q. absurd (omega (arith, c.if-n-i.true)))

pub word_leads-requires : goal.word_leads-requires
word_leads-requires c =
    let a = c.args in
    let word = c.requires.0.1.saved.1.each a.j c.if-m-j.false in
    (c.requires.0.1.filed.1.names a.i c.if-n-i.false, word.names, word.kind)

pub saved_part-requires-then-word_leads : goal.saved_part-requires-then-word_leads
saved_part-requires-then-word_leads c =
    let a = c.args in
    (c.requires.0.1.saved.1.each a.j c.if-m-j.false, c.requires.0.1.short)

pub returns-then-word_leads : goal.returns-then-word_leads
returns-then-word_leads c =
    let a = c.args in
    let v = c.saved_part-then-word_leads in
    λ raws f. next_is_word f c.requires.0.1 a.i a.j v.result v.ensures.0 c.if-m-j.false
    v.ensures.1
    (λ q. less_asymmetric _ _ (sym c.word_leads.ensures ∙ c.if-word_leads.true))

pub returns : goal.returns
returns c =
    let a = c.args in
    let v = c.filed_part-2 in
    λ raws f. next_is_page f c.requires.0.1 a.i a.j v.result v.ensures.0 c.if-n-i.false
    (v.ensures.2 raws f) v.ensures.1
    (λ q. sym c.word_leads.ensures ∙ c.if-word_leads.false)
