use Rattle.key_calls.proofs.Bits.{ZerosSoFar}
use Rattle.key_calls.proofs.layers.leading_zero_bits.Given as goal

abbrev pub invariant-loop-word : goal.invariant-loop-word
invariant-loop-word l = ZerosSoFar l.fn.words l.n l.word-index
