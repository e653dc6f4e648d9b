-- At most ten digits.
use Rattle.std.proofs.Common.{◌≤◌}
use Rattle.replay_script.proofs.numbers.value_of.Given as goal

abbrev pub invariant-loop-digit : goal.invariant-loop-digit
invariant-loop-digit l = l.value ≤ 9999999999
