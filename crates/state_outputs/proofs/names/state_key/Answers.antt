use native.Mathlib.Omega.{arith}
use Rattle.state_outputs.proofs.StateKeys.{long_name, name_behind}
use Rattle.state_outputs.proofs.names.state_key.Goals as goal

pub returns-then-name : goal.returns-then-name
returns-then-name c =
    record {
      fits = omega arith;
      says = long_name c.args.name.now c.args.key.now (omega (arith, c.if-name.true));
    }

pub returns : goal.returns
returns c =
    record {
      fits = omega (arith, c.if-name.false);
      says = name_behind c.args.name.now c.args.key.now _ _ c.write_bytes.ensures c.write_bytes-2.ensures (omega (arith, c.if-name.false));
    }
