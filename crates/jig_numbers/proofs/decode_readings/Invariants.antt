-- The readings so far.
use Rattle.std.proofs.Common.{◌≡◌, take}
use Rattle.jig_numbers.specs.LittleEndian.{u16_le_all}
use Rattle.jig_numbers.proofs.decode_readings.Given as goal

abbrev pub invariant-loop-i : goal.invariant-loop-i
invariant-loop-i l = take l.i l.readings ≡ take l.i (u16_le_all l.bytes)
