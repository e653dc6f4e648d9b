use Rattle.std.proofs.Common.{◌≡◌}
use Rattle.record.specs.Record.{offset_of}
use Rattle.record.proofs.end_of.Given as goal

abbrev pub invariant-loop-bit : goal.invariant-loop-bit
invariant-loop-bit l = l.end ≡ offset_of l.map l.bit
