-- After some turns the sums are those of the readings before the rest.
use Rattle.std.proofs.Common.{length, ◌+◌, ◌-◌, ◌≡◌, ◌≤◌, take, drop}
use Rattle.engines.specs.Engine.{step_in}
use Rattle.sums.specs.Feed.{feed_all}
use Rattle.ramp.proofs.write_sums.Given as goal

abbrev pub invariant-loop-rest : goal.invariant-loop-rest
invariant-loop-rest g l =
    (l.fed ≤ l.at)
    × (l.at + length l.rest ≡ l.fed + length l.readings)
    × (l.rest ≡ drop (l.at - l.fed) l.readings)
    × (length l.sums ≡ length l.initial.sums)
    × (l.sums ≡ feed_all g.E.Entry.engine.absent (step_in g.E.Entry.engine l.settings) (length l.initial.sums) l.fed (take (l.at - l.fed) l.readings) l.initial.sums)

abbrev pub decreases-loop-rest : goal.decreases-loop-rest
decreases-loop-rest g l = length l.rest
