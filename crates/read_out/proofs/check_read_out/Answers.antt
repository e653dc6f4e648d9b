-- `read_out::check_read_out` meets its contract.
use Rattle.std.proofs.Common.{sym}
use Rattle.std.proofs.lemmas.Result.{err_from_is_err_and}
use Rattle.checks.proofs.Laws.{verdict_append}
use Rattle.board.proofs.Checked.{ramp_taken}
use Rattle.read_out.proofs.check_read_out.Goals as goal

pub returns-in_err-check_ramp : goal.returns-in_err-check_ramp
returns-in_err-check_ramp g c =
    let p = err_from_is_err_and c.from_residual.result c.from_residual.ensures.1 in
    rw (p.1, p.2, verdict_append, ← c.in_err-check_ramp.ensures)

pub check_output-requires : goal.check_output-requires
check_output-requires g c = (ramp_taken _ _ (sym c.in_ok-check_ramp.ensures)).whole

pub returns : goal.returns
returns g c = rw (verdict_append, ← c.in_ok-check_ramp.ensures) c.check_output.ensures
