-- After i turns the sums are `over` the first i readings.
use Rattle.std.proofs.Common.{◌≡◌, take}
use Rattle.laws.specs.Lists.{over}
use Rattle.engines.specs.SupportPasses.{step_by_in}
use Rattle.ramp.proofs.feed_part.Given as goal

abbrev pub invariant-loop-i : goal.invariant-loop-i
invariant-loop-i g l = l.sums ≡ over (step_by_in g.E.Entry.engine l.sample) (take l.i l.readings) l.initial.sums
