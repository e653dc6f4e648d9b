-- `flag_rows::RowSearch::none_between` meets its contract.
use mathlib.Core.Path.{sym, ◌∙◌}
use Rattle.laws.proofs.Tests.{and_true}
use Rattle.flag_rows.proofs.Sideways.{between_clear}
use Rattle.flag_rows.proofs.RowSearch.none_between.Goals as goal

pub returns : goal.returns
returns c t =
    let a = c.args in
    let h = and_true c.no_flag.result c.no_flag-2.result t in
    between_clear a.self.row.now a.self.column a.near a.far c.saturating_sub-left_start.result c.saturating_sub-left_end.result c.min-right_start.result c.min-right_end.result a.self.inside.0
    c.saturating_sub-left_start.ensures c.saturating_sub-left_end.ensures c.min-right_start.ensures c.min-right_end.ensures
    (sym c.no_flag.ensures ∙ h.0) (sym c.no_flag-2.ensures ∙ h.1)
