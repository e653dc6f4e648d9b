-- `whole_frame::frame_on` meets its contract.
use Rattle.std.proofs.Common.{sym}
use Rattle.std.proofs.lemmas.Result.{err_from_is_err_and}
use Rattle.whole_frame.specs.Chain.{frame_sums_on, frame_words_on}
use Rattle.whole_frame.proofs.Whole.{frame_feedable, frame_readable, sums_are, words_are}
use Rattle.whole_frame.proofs.frame_on.Goals as goal

pub write_sums-requires : goal.write_sums-requires
write_sums-requires c = frame_feedable _ _ _ _ (sym c.in_ok-check.ensures)

pub write_frame-requires : goal.write_frame-requires
write_frame-requires c = rw c.write_sums.ensures (frame_readable _ _ _ _ (sym c.in_ok-check.ensures))

pub returns-clause-sums : goal.returns-clause-sums
unfolding frame_sums_on
returns-clause-sums c = let left = sums_are _ _ _ _ (sym c.in_ok-check.ensures) in rw (← c.in_ok-check.ensures, left, c.write_sums.ensures)

pub returns-clause-words : goal.returns-clause-words
unfolding frame_words_on
returns-clause-words c = let words = words_are _ _ _ _ (sym c.in_ok-check.ensures) in rw (← c.in_ok-check.ensures, words, c.write_frame.ensures, c.write_sums.ensures)

pub returns-in_err-check-clause-answer : goal.returns-in_err-check-clause-answer
returns-in_err-check-clause-answer c =
    let p = err_from_is_err_and c.from_residual.result c.from_residual.ensures.1 in
    rw (← c.in_err-check.ensures, p.1, p.2)

pub returns-in_err-check-clause-sums : goal.returns-in_err-check-clause-sums
unfolding frame_sums_on
returns-in_err-check-clause-sums c = rw (← c.in_err-check.ensures)

pub returns-in_err-check-clause-words : goal.returns-in_err-check-clause-words
unfolding frame_words_on
returns-in_err-check-clause-words c = rw (← c.in_err-check.ensures)
