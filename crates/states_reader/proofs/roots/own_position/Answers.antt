use native.Mathlib.Omega.{arith}
use Rattle.bytestring.proofs.Tools.{bytes_of_lem}
use Rattle.states_reader.proofs.Keys.{own_found, own_within, own_absent}
use Rattle.states_reader.proofs.roots.own_position.Goals as goal

pub returns : goal.returns
returns c =
    let a = c.args in
    let bytes = bytes_of_lem a.states.now (λ i h. omega (arith, c.type_inv.states i)) in record {
      says = own_found bytes a.key.now c.search.result c.search.ensures.says _ _ c.in-Ok.is;
      within = own_within bytes a.key.now c.search.result c.search.ensures.says _ _ c.in-Ok.is c.requires;
    }

pub returns-in_default : goal.returns-in_default
returns-in_default c =
    let a = c.args in
    let bytes = bytes_of_lem a.states.now (λ i h. omega (arith, c.type_inv.states i)) in record {
      says = own_absent bytes a.key.now c.search.result c.search.ensures.says _ c.in_default.is;
      within = tt;
    }
