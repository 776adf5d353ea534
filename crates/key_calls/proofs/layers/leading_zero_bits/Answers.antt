use Rattle.std.proofs.Common.{rules}
use Rattle.key_calls.proofs.Bits.{words_end, word_stops, word_goes_on}
use Rattle.key_calls.proofs.layers.leading_zero_bits.Goals as goal

pub loop-word-preserved : goal.loop-word-preserved
loop-word-preserved c = word_goes_on _ _ _ c.loop-word.invariant (search rules) c.if-word-ne0.false

pub returns-after-loop-word : goal.returns-after-loop-word
returns-after-loop-word c = words_end _ _ _ c.loop-word.invariant (search rules)

pub returns-then-word-ne0 : goal.returns-then-word-ne0
returns-then-word-ne0 c =
    word_stops _ _ _ c.loop-word.invariant (search rules) c.loop-word-test.element_fits.fits c.if-word-ne0.true
