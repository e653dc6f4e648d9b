-- `feed::check_feed_sound` meets its contract.
use Rattle.std.proofs.Common.{sym}
use Rattle.std.proofs.lemmas.Result.{err_from_is_err_and}
use Rattle.checks.proofs.Laws.{verdict_append}
use Rattle.board.proofs.Checked.{ramp_taken}
use Rattle.feed.proofs.check_feed_sound.Goals as goal

pub returns-in_err-check_running : goal.returns-in_err-check_running
returns-in_err-check_running g c =
    let p = err_from_is_err_and c.from_residual.result c.from_residual.ensures.1 in
    rw (p.1, p.2, verdict_append, ← c.in_err-check_running.ensures)

pub check_readings-requires : goal.check_readings-requires
check_readings-requires g c =
    let t = ramp_taken _ _ (sym c.in_ok-check_running.ensures) in
    (t.whole, t.length_is)

pub returns : goal.returns
returns g c = rw (verdict_append, ← c.in_ok-check_running.ensures) c.check_readings.ensures
