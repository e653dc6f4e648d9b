-- `feed::check_readings` meets its contract.
use native.Mathlib.Omega.{arith}
use borrow.Author.Tests.{ltb-false}
use Rattle.std.proofs.Common.{sym, ◌∙◌}
use Rattle.checks.proofs.Laws.{when_taken}
use Rattle.board.proofs.Soundness.{sound_parts, sides_of, wanted_nine}
use Rattle.feed.proofs.Feedable.{wanted_left}
use Rattle.feed.proofs.check_readings.Goals as goal

pub overflow_sub-wanted : goal.overflow_sub-wanted
overflow_sub-wanted g c = let s = sound_parts _ c.requires.0 in rw (c.wanted.ensures, s.sides) s.fed

pub first_impossible_written-impossible-requires : goal.first_impossible_written-impossible-requires
first_impossible_written-impossible-requires g c =
    let b = c.args.board.now in
    let s = sound_parts b c.requires.0 in
    let z = sides_of b s in
    let room = ltb-false _ _ (sym (wanted_left b _ _ c.requires.0 c.wanted.ensures) ∙ when_taken _ _ (sym c.in_ok-refuse_when.ensures)) in
    rw c.requires.1 (z.some, z.few, omega (arith, room, wanted_nine b s))
