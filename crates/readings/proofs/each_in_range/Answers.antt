use mathlib.Core.Path.{◌≡◌}
use lib.Bits.{bit_or}
use Rattle.std.proofs.Common.{rules}
use Rattle.std.specs.List.{fold}
use Rattle.readings.proofs.Bits.{all_together}
use Rattle.readings.proofs.each_in_range.Goals as goal

pub returns : goal.returns
returns c =
    let bits : c.fold.result ≡ fold bit_or 0 c.args.readings.now = search rules in
    rw bits (all_together 0 c.args.readings.now)
