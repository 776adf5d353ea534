use Prim.Native.Nat.{◌<◌, ◌≤◌}
use native.Mathlib.Omega.{arith}
use borrow.Author.Tests.{lt-ltb, le-ltb}
use Rattle.promises.specs.Listing.{hex_digit}
use Rattle.listing.proofs.text.hex_digit.Goals as goal

pub returns-then-n-lt10 : goal.returns-then-n-lt10
unfolding hex_digit
returns-then-n-lt10 c =
    let k : c.args.n < 10 = omega arith in
    rw (lt-ltb c.args.n 10 k)

pub returns-else-n-lt10 : goal.returns-else-n-lt10
unfolding hex_digit
returns-else-n-lt10 c =
    let k : 10 ≤ c.args.n = omega arith in
    rw (le-ltb c.args.n 10 k)
