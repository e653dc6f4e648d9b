-- `flag_rows::RowSearch::outward` meets its contract.
use Prim.Native.Nat.{◌+◌}
use mathlib.Core.Bool.{false}
use mathlib.Core.Path.{◌≡◌, sym, ◌∙◌}
use native.Mathlib.Omega.{arith}
use Rattle.places.specs.Places.{flag_at}
use Rattle.places.proofs.Flagged.{past_end}
use Rattle.flag_rows.proofs.Sideways.{left_nearest, right_nearest, further, past_row}
use Rattle.flag_rows.proofs.RowSearch.outward.Goals as goal
use Rattle.flag_rows.proofs.RowSearch.outward.Goals.{else-right-row-via-then-right-row+else-is_flag-2, else-right-row-via-else-right-row}

pub returns-then-is_flag : goal.returns-then-is_flag
returns-then-is_flag c =
    let l = c.loop-away in
    sym (left_nearest c.args.self.row.now c.args.self.column c.args.self.inside.0 l.away l.invariant c.saturating_sub-left.result c.saturating_sub-left.ensures (sym c.is_flag.ensures ∙ c.if-is_flag.true))

pub returns-then-is_flag-2 : goal.returns-then-is_flag-2
returns-then-is_flag-2 c =
    let l = c.loop-away in
    sym (right_nearest c.args.self.row.now c.args.self.column c.args.self.inside.0 l.away l.invariant c.saturating_sub-left.result c.saturating_sub-left.ensures (sym c.is_flag.ensures ∙ c.if-is_flag.false)
    (sym c.is_flag-then-right-row.ensures ∙ c.if-is_flag-2.true))

pub loop-away-preserved : goal.loop-away-preserved
loop-away-preserved c =
    let l = c.loop-away in
    let row = c.args.self.row.now in
    let right = c.args.self.column + l.away in
    let none : flag_at row right ≡ false =
    elim c.else-right-row.branch [
      | else-right-row-via-then-right-row+else-is_flag-2 w ↦ sym w.is_flag-then-right-row.ensures ∙ w.if-is_flag-2.false
      | else-right-row-via-else-right-row w ↦ past_end row right (omega (arith, w.if-right-row.false))
    ] in
    further row c.args.self.column c.args.self.inside.0 l.away l.invariant c.saturating_sub-left.result c.saturating_sub-left.ensures (sym c.is_flag.ensures ∙ c.if-is_flag.false) none

pub returns : goal.returns
returns c =
    let l = c.loop-away in
    sym (past_row c.args.self.row.now c.args.self.column c.args.self.inside.0 l.away l.invariant (omega arith))
