use Rattle.std.proofs.Common.{◌-◌, ◌≡◌, ◌*◌, ◌^◌, ◌≤◌}
use Rattle.settings.specs.Covered.{positives}
use Rattle.settings.proofs.Settings.positive_total.Given as goal

abbrev pub invariant-loop-i : goal.invariant-loop-i
invariant-loop-i l = (l.i ≤ l.n) × ((l.total ≡ positives l.self l.i) × (l.total ≤ l.i * 2 ^ 31))

abbrev pub decreases-loop-i : goal.decreases-loop-i
decreases-loop-i l = l.n - l.i
