use borrow.Author.Rules.{rules}
use native.Mathlib.Omega.{arith}
use Rattle.bytestring.proofs.Tools.{bytes_of_lem}
use Rattle.row.proofs.Searching.{found_fits, absent_fits, up_to_found, up_to_absent}
use Rattle.row.proofs.search.count_up_to.Goals as goal

pub overflow_add-result : goal.overflow_add-result
overflow_add-result c = omega (arith, found_fits _ _ c.search.ensures.fits _ _ c.in-Ok.is)

pub returns-in-Ok : goal.returns-in-Ok
returns-in-Ok c =
    let bytes = bytes_of_lem c.args.s.now (λ i h. omega (arith, c.type_inv.s i)) in record {
      says = search (rules, up_to_found, bytes);
      fits = omega (arith, found_fits _ _ c.search.ensures.fits _ _ c.in-Ok.is);
    }

pub returns-in-Err : goal.returns-in-Err
returns-in-Err c =
    record {
      says = search (rules, up_to_absent);
      fits = search (rules, absent_fits);
    }
