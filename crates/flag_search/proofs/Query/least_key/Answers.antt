-- `flag_search::Query::least_key` meets its contract.
use Prim.Native.Nat.{◌+◌, ◌/◌}
use mathlib.Core.Path.{◌≡◌, sym, ◌∙◌}
use Rattle.flag_search.specs.SupportKeys.{Least}
use Rattle.flag_search.proofs.Keyed.{above_some, above_none, more_rows}
use Rattle.flag_search.proofs.Query.least_key.Goals as goal
use Rattle.flag_search.proofs.Query.least_key.Goals.{in_default-via-in-None-1, in_default-via-in-Some+else-found-key, in-Some-checked_sub, in-None}

pub loop-away-preserved : goal.loop-away-preserved
loop-away-preserved c =
    let q = c.args.self in
    let l = c.loop-away in
    let words = q.frame.words.now in
    let same : c.in_default.best ≡ l.best = elim c.in_default.branch [ in_default-via-in-None-1 w ↦ w.best-is | in_default-via-in-Some+else-found-key w ↦ w.best-is ∙ sym w.in-Some.is ] in
    let above : Least words q.frame.width q.place (λ j. j / q.frame.width + l.away ≡ q.place.row) c.match-checked_sub.above =
    elim c.match-checked_sub.branch [
      | in-Some-checked_sub w ↦ rw w.above-is (above_some words q.frame.width q.place l.away w.in-Some-checked_sub.row w.row_key-above.result (rw w.in-Some-checked_sub.is at c.checked_sub.ensures) w.row_key-above.ensures)
      | in-None w ↦ rw w.above-is (above_none words q.frame.width q.place l.away (rw w.in-None.is at c.checked_sub.ensures))
    ] in
    rw (c.lower-best.ensures, c.lower.ensures, same) (more_rows words q.frame.width q.place l.away l.best c.match-checked_sub.above c.row_key-below.result l.invariant above c.row_key-below.ensures)
