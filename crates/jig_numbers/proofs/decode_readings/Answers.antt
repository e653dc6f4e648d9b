-- One reading more, and all of them.
use Rattle.std.proofs.Common.{◌<◌, length, arith, add-one}
use Rattle.std.proofs.Math.Seq.{take-suc, take-suc-set}
use Rattle.jig_numbers.specs.LittleEndian.{u16_le_all}
use Rattle.jig_numbers.proofs.LittleEndian.{u16_le_all_at, u16_le_all_length}
use Rattle.jig_numbers.proofs.decode_readings.Goals as goal

pub loop-i-preserved : goal.loop-i-preserved
loop-i-preserved c =
    let l = c.loop-i in
    let bytes = c.args.bytes.now in
    let h : l.i < length l.readings = omega arith in
    let k : l.i < length (u16_le_all bytes) = rw (u16_le_all_length bytes) (omega arith) in
    rw (add-one l.i, take-suc-set l.readings l.i c.u16_le_at.result h, take-suc (u16_le_all bytes) l.i 0 k, u16_le_all_at bytes l.i k, c.u16_le_at.ensures, l.invariant)
