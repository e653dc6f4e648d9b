-- `whole_frame::check` meets its contract.
use Rattle.std.proofs.Common.{sym}
use Rattle.std.proofs.lemmas.Result.{err_from_is_err_and}
use Rattle.engines.specs.Engine.{in_whole_numbers}
use Rattle.operations.specs.Feed.{feed_in}
use Rattle.board.proofs.Soundness.{sound_parts}
use Rattle.operations.proofs.FeedChecked.{feed_taken}
use Rattle.whole_frame.specs.Chain.{frame_answer_on}
use Rattle.whole_frame.proofs.Whole.{then_read_out}
use Rattle.whole_frame.proofs.check.Goals as goal

pub returns-in_err-check_feed : goal.returns-in_err-check_feed
unfolding frame_answer_on feed_in
returns-in_err-check_feed c =
    let p = err_from_is_err_and c.from_residual.result c.from_residual.ensures.1 in
    rw (← c.in_err-check_feed.ensures, p.1, p.2)

pub returns-in_err-refuse_when : goal.returns-in_err-refuse_when
unfolding frame_answer_on feed_in
returns-in_err-refuse_when c =
    let taken = sym c.in_ok-check_feed.ensures in
    let sides = (sound_parts _ (feed_taken in_whole_numbers _ _ _ taken).ramp.whole).sides in
    let wanted = rw (c.wanted.ensures, sides) at c.in_err-refuse_when.ensures in
    let p = err_from_is_err_and c.from_residual-in_err-refuse_when.result c.from_residual-in_err-refuse_when.ensures.1 in
    rw (then_read_out _ c.requires _ _ taken, taken, ← wanted, p.1, p.2)

pub returns : goal.returns
unfolding frame_answer_on feed_in
returns c =
    let taken = sym c.in_ok-check_feed.ensures in
    let sides = (sound_parts _ (feed_taken in_whole_numbers _ _ _ taken).ramp.whole).sides in
    let wanted = rw (c.wanted.ensures, sides) at c.in_ok-refuse_when.ensures in
    rw (then_read_out _ c.requires _ _ taken, taken, ← wanted, c.refuse_when-2.ensures, c.word_count.ensures, sides)
