-- `feed::feed_sound` meets its contract.
use native.Mathlib.Omega.{arith}
use Rattle.std.proofs.Common.{sym}
use Rattle.board.proofs.Soundness.{sound_parts, sides_of, wanted_nine}
use Rattle.operations.proofs.FeedChecked.{feed_taken}
use Rattle.feed.proofs.Feedable.{feedable}
use Rattle.feed.proofs.feed_sound.Goals as goal

pub write_sums-requires : goal.write_sums-requires
write_sums-requires g c = feedable g.E.Entry.engine _ _ _ (feed_taken g.E.Entry.engine _ _ _ (sym c.in_ok-check_feed_sound.ensures))

pub overflow_add-board : goal.overflow_add-board
overflow_add-board g c =
    let a = c.args in
    let t = feed_taken g.E.Entry.engine a.board.now a.readings.now a.sums.now (sym c.in_ok-check_feed_sound.ensures) in
    let s = sound_parts a.board.now t.ramp.whole in
    record { fits = omega (arith, t.room, wanted_nine a.board.now s, (sides_of a.board.now s).few) }
