-- `flag_rows::RowSearch::clear_to`: no flag is nearer than `clear`.
use Prim.Native.Nat.{◌-◌}
use lib.ListN.{length}
use Rattle.flag_rows.specs.SupportClear.{ClearTo}
use Rattle.flag_rows.proofs.RowSearch.clear_to.Given as goal

abbrev pub invariant-loop-clear : goal.invariant-loop-clear
invariant-loop-clear g l = ClearTo l.self.row.now l.self.column l.clear

abbrev pub decreases-loop-clear : goal.decreases-loop-clear
decreases-loop-clear g l = length l.self.row.now - l.clear
