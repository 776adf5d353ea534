use native.Mathlib.Omega.{arith}
use Rattle.page_writer.proofs.Sizes.{length_first, length_one, length_two}
use Rattle.page_writer.proofs.Writers.{first_written, one_written, two_written}
use Rattle.page_writer.proofs.write_number.Goals as goal

pub write_bytes-requires : goal.write_bytes-requires
write_bytes-requires c = omega (arith, length_first c.args.n (omega arith))

pub returns-in-0-to-23 : goal.returns-in-0-to-23
returns-in-0-to-23 c = let it = first_written _ _ _ _ (omega arith) c.write_bytes.ensures in record { output = it.0; count = it.1 }

pub write_bytes-requires-in-24-to-255 : goal.write_bytes-requires-in-24-to-255
write_bytes-requires-in-24-to-255 c = omega (arith, length_one c.args.n (omega arith) (omega arith))

pub returns-in-24-to-255 : goal.returns-in-24-to-255
returns-in-24-to-255 c =
    let it = one_written _ _ _ _ (omega arith) (omega arith) c.write_bytes-in-24-to-255.ensures in record { output = it.0; count = it.1 }

pub write_bytes-requires-in_default : goal.write_bytes-requires-in_default
write_bytes-requires-in_default c = omega (arith, length_two c.args.n (omega arith))

pub returns-in_default : goal.returns-in_default
returns-in_default c =
    let it = two_written _ _ _ _ (omega arith) (omega arith) _ c.to_be_bytes.ensures c.write_bytes-in_default.ensures in
    record { output = it.0; count = it.1 }
