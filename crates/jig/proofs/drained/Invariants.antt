-- At most 4,096 bytes a turn.
use Rattle.std.proofs.Common.{◌*◌, ◌≤◌}
use Rattle.jig.proofs.drained.Given as goal

abbrev pub invariant-loop-turn : goal.invariant-loop-turn
invariant-loop-turn _ l = l.total ≤ 4096 * l._turn
