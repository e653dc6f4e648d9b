-- What the checks of a taken Feed have shown, and back; and that the board it leaves is sound.
use Prim.Native.Nat.{ℕ, ◌+◌, ◌≤◌}
use mathlib.Core.Bool.{true}
use mathlib.Core.List.{List}
use mathlib.Core.Path.{◌≡◌}
use borrow.Author.Tests.{ltb-false, le-ltb}
use lib.ListN.{length}
use Rattle.laws.specs.Lists.{every}
use Rattle.std.specs.Prelude.{None, Ok}
use Rattle.checks.specs.Search.{first_place}
use Rattle.checks.specs.Checks.{verdict}
use Rattle.checks.proofs.Laws.{verdict_append, when_taken, found_taken}
use Rattle.checks.proofs.Search.{found_every, none_every}
use Rattle.readings.specs.Readings.{reading_in_range}
use Rattle.engines.specs.Engine.{Engine, possible_in}
use Rattle.written.specs.Written.{impossible_at}
use Rattle.board.specs.declared.Board.{Board}
use Rattle.board.specs.Board.{wanted}
use Rattle.board.specs.RampChecks.{ramp_checks}
use Rattle.board.proofs.Soundness.{Sound}
use Rattle.board.proofs.Checked.{RampTaken, ramp_taken, ramp_passes, all_taken}
use Rattle.operations.specs.Feed.{feed_checks_in, extended}

pub record FeedTaken {E : Type 0} (engine : Engine E) (b : Board) (xs : List ℕ) (sums : List E) : Type 0 where
  pub ramp : RampTaken b (length sums)
  pub room : b.fed + length xs ≤ wanted b
  pub readings : every reading_in_range xs ≡ true
  pub entries : first_place (length sums) (impossible_at engine.absent (possible_in engine b.in_force) (length sums) b.fed (length xs) sums) ≡ None

pub feed_taken : {E : Type 0} (engine : Engine E) (b : Board) (xs : List ℕ) (sums : List E) → verdict (feed_checks_in engine b xs sums) ≡ Ok tt → FeedTaken engine b xs sums
feed_taken engine b xs sums e =
    let t = all_taken (ramp_checks b (length sums)) _ _ _ e in
    record {
      ramp = ramp_taken b (length sums) t.0;
      room = ltb-false _ _ (when_taken _ _ t.1);
      readings = none_every reading_in_range xs 0 (found_taken _ _ t.2);
      entries = found_taken _ _ t.3;
    }

pub feed_passes : {E : Type 0} (engine : Engine E) (b : Board) (xs : List ℕ) (sums : List E) → FeedTaken engine b xs sums → verdict (feed_checks_in engine b xs sums) ≡ Ok tt
unfolding verdict
feed_passes engine b xs sums t =
    rw (verdict_append (ramp_checks b (length sums)), ramp_passes b (length sums) t.ramp, le-ltb _ _ t.room, found_every reading_in_range xs 0 t.readings, t.entries)

pub extended_sound : {E : Type 0} (engine : Engine E) (b : Board) (xs : List ℕ) (sums : List E) → FeedTaken engine b xs sums → Sound b → Sound (extended (length xs) b)
extended_sound engine b xs sums t s = record { sides = s.sides; waiting = s.waiting; in_force = s.in_force; fed = t.room; idle = rw t.ramp.running }
