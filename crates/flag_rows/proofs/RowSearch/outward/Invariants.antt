-- `flag_rows::RowSearch::outward`: no flag is nearer than `away`.
use Rattle.flag_rows.specs.SupportClear.{ClearTo}
use Rattle.flag_rows.proofs.RowSearch.outward.Given as goal

abbrev pub invariant-loop-away : goal.invariant-loop-away
invariant-loop-away l = ClearTo l.self.row.now l.self.column l.away
