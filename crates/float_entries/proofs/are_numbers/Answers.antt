use Rattle.float_entries.proofs.Lanes.{none_missing}
use Rattle.float_entries.proofs.are_numbers.Goals as goal

pub returns : goal.returns
returns c = none_missing c.args.entries.now c.told-entries
