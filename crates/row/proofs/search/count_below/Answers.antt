use borrow.Author.Rules.{rules}
use native.Mathlib.Omega.{arith}
use Rattle.row.proofs.Searching.{found_fits, absent_fits, below_found, below_absent}
use Rattle.row.proofs.search.count_below.Goals as goal

pub returns-in-Ok : goal.returns-in-Ok
returns-in-Ok c =
    record {
      says = search (rules, below_found);
      fits = omega (arith, found_fits _ _ c.search.ensures.fits _ _ c.in-Ok.is);
    }

pub returns-in-Err : goal.returns-in-Err
returns-in-Err c =
    record {
      says = search (rules, below_absent);
      fits = search (rules, absent_fits);
    }
