use native.Mathlib.Omega.{arith}
use Rattle.float_laws.proofs.Bits.{bits_number, shifted}
use Rattle.float_step.proofs.raised.Goals as goal

pub float_from_bits-result : goal.float_from_bits-result
float_from_bits-result c = rw (c.from.ensures, c.requires, bits_number c.args.n (omega arith)) tt

pub returns : goal.returns
returns c = rw (c.from.ensures, c.requires) (shifted c.args.n (omega arith))
