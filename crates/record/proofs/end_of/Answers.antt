use Rattle.std.proofs.Common.{◌+◌, ◌*◌, ◌≤◌, arith}
use Rattle.record.specs.Record.{offset_of}
use Rattle.record.proofs.Fields.{size_small, offset_small}
use Rattle.record.proofs.end_of.Goals as goal

pub overflow_add-end : goal.overflow_add-end
overflow_add-end c =
    let p : offset_of c.args.map c.loop-bit.bit ≤ 2 + 2 * c.loop-bit.bit = offset_small c.args.map c.loop-bit.bit in
    let w : c.size-end.result ≤ 2 = rw c.size-end.ensures (size_small c.of_bit.result) in
    record { fits = omega arith }
