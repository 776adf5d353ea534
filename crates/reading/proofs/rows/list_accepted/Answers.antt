use mathlib.Core.Path.{refl}
use native.Mathlib.Omega.{arith}
use Rattle.reading.proofs.Listings.{list_past}
use Rattle.reading.proofs.rows.list_accepted.Goals as goal

pub returns-then-count-n : goal.returns-then-count-n
returns-then-count-n c =
    let it = list_past _ c.clear.ensures refl c.args.n c.requires.records (omega arith) in record { answer = it.0; key = it.1.0; value = it.1.1 }
