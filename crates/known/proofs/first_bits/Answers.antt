use native.Mathlib.Omega.{arith}
use Rattle.known.specs.Known.{first_bits}
use Rattle.known.proofs.first_bits.Goals as goal

pub overflow_mul-result : goal.overflow_mul-result
overflow_mul-result c = omega (arith, c.type_inv.digest 0)

pub overflow_add-result : goal.overflow_add-result
overflow_add-result c = omega (arith, c.type_inv.digest 0, c.type_inv.digest 1)

pub returns : goal.returns
unfolding first_bits
returns c = (omega arith, omega (arith, c.type_inv.digest 0, c.type_inv.digest 1))
