-- `whole_frame::frame_of` meets its contract.
use Rattle.std.proofs.Common.{◌∙◌}
use Rattle.std.proofs.lemmas.Result.{err_from_is_err_and}
use Rattle.whole_frame.specs.Chain.{frame_sums, frame_words}
use Rattle.begin.proofs.Beginning.{begun_is, begun_refused, started_unfed}
use Rattle.whole_frame.proofs.Whole.{frame_is, answer_on, sums_on, words_on}
use Rattle.whole_frame.proofs.frame_of.Goals as goal

pub frame_on-requires : goal.frame_on-requires
frame_on-requires c = rw (← (begun_is _ _ _ _ _ c.in_ok-board.ensures).1) (started_unfed _ _ _ _)

pub returns-clause-answer : goal.returns-clause-answer
returns-clause-answer c = c.frame_on.ensures.answer ∙ answer_on _ _ _ _ _ (begun_is _ _ _ _ _ c.in_ok-board.ensures) _ _ _

pub returns-clause-sums : goal.returns-clause-sums
returns-clause-sums c = c.frame_on.ensures.sums ∙ sums_on _ _ _ _ _ (begun_is _ _ _ _ _ c.in_ok-board.ensures) _ _ _

pub returns-clause-words : goal.returns-clause-words
returns-clause-words c = c.frame_on.ensures.words ∙ words_on _ _ _ _ _ (begun_is _ _ _ _ _ c.in_ok-board.ensures) _ _ _

pub returns-in_err-board-clause-answer : goal.returns-in_err-board-clause-answer
returns-in_err-board-clause-answer c =
    let p = err_from_is_err_and c.from_residual.result c.from_residual.ensures.1 in
    rw (frame_is, begun_refused _ _ _ _ _ c.in_err-board.ensures, p.1, p.2)

pub returns-in_err-board-clause-sums : goal.returns-in_err-board-clause-sums
unfolding frame_sums
returns-in_err-board-clause-sums c = rw (frame_is, begun_refused _ _ _ _ _ c.in_err-board.ensures)

pub returns-in_err-board-clause-words : goal.returns-in_err-board-clause-words
unfolding frame_words
returns-in_err-board-clause-words c = rw (frame_is, begun_refused _ _ _ _ _ c.in_err-board.ensures)
