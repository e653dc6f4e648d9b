-- `flag_search::Query::row_key` meets its contract.
use native.Mathlib.Omega.{arith}
use Rattle.flag_search.proofs.RowKeys.{row_beyond, row_found, row_bounds}
use Rattle.flag_search.proofs.Query.row_key.Goals as goal

pub returns-then-row-frame : goal.returns-then-row-frame
returns-then-row-frame c = row_beyond _ _ _ _ c.args.self.checked _ (omega arith)

pub overflow_add-start : goal.overflow_add-start
overflow_add-start c =
    let b = row_bounds _ _ _ _ c.args.self.checked _ (omega arith) c.in_ok-column.column c.in_ok-column.ensures _ _ c.abs_diff.ensures c.abs_diff-2.ensures in
    omega (arith, b.2)

pub key-requires : goal.key-requires
key-requires c = row_bounds _ _ _ _ c.args.self.checked _ (omega arith) c.in_ok-column.column c.in_ok-column.ensures _ _ c.abs_diff.ensures c.abs_diff-2.ensures

pub returns : goal.returns
returns c =
    row_found _ _ _ _ c.args.self.checked c.args.row (omega arith) c.in_ok-column.column c.in_ok-column.ensures _ _ _ c.abs_diff.ensures c.abs_diff-2.ensures c.key.ensures
