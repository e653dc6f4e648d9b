-- The flag, and the entries from i on.
use Rattle.std.proofs.Common.{◌≡◌, ◌&&◌, drop}
use Rattle.laws.specs.Lists.{every}
use Rattle.engines.specs.Engine.{in_floats}
use Rattle.engines.specs.SupportPasses.{possible_after_in}
use Rattle.float_entries.proofs.each_possible.Given as goal

abbrev pub invariant-loop-entry : goal.invariant-loop-entry
invariant-loop-entry l = every (possible_after_in in_floats l.k) l.sums ≡ (l.good && every (possible_after_in in_floats l.k) (drop l.entry-index l.sums))
