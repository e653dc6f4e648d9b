-- Four quarters, and what is left over.
use mathlib.Core.Path.{sym}
use lib.ListN.{length}
use Prim.Native.Nat.{◌/◌}
use Rattle.laws.proofs.Quarters.{quarters}
use Rattle.readings.specs.Readings.{reading_in_range}
use Rattle.readings.proofs.all_in_range.Goals as goal

pub returns : goal.returns
returns c =
    let l = c.args.readings.now in
    let parts = c.of.ensures in
    rw (c.four_in_range.ensures, c.each_in_range.ensures, parts.first, parts.second, parts.third, parts.fourth, parts.rest)
    (sym (quarters reading_in_range (length l / 4) l))
