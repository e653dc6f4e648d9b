-- The tables of known answers, row by row, by computation.
use mathlib.Core.Path.{refl}
use Rattle.laws.specs.Lists.{every}
use Rattle.laws.specs.Tables.{AllHold}
use Rattle.laws.proofs.Tables.{◌then◌}
use Rattle.settings.specs.Settings.{defaults, in_range}
use Rattle.settings.specs.Covered.{positives, is_covered}
use Rattle.update.proofs.Known as UpdateKnown
use Rattle.checks.specs.Search.{first_place}
use Rattle.checks.specs.Checks.{verdict}
use Rattle.entries.specs.Possible.{possible_after}
use Rattle.board.specs.Board.{sides_taken, sound}
use Rattle.operations.specs.Update.{update_of}
use Rattle.operations.specs.Ramp.{start_of, drop_of}
use Rattle.operations.specs.Feed.{feed_in}
use Rattle.operations.specs.ReadOut.{read_out_in}
use Rattle.operations.specs.Covered.{coverage_of}
use Rattle.operations.specs.Known.{Holds, updates, AllKnown}

-- 2 and the empty record by the table of known records
updates_known : AllHold Holds updates
unfolding update_of verdict sound sides_taken in_range every
updates_known =
    let rows = UpdateKnown.known defaults in
    let empty = rows.1.0 in
    refl then (rw (rows.0)) then (rw empty) then (rw empty) then tt

pub known : AllKnown
unfolding lib.Ieee.of_bits lib.Ieee.in_signed lib.Ieee.to_signed lib.Ieee.whole start_of feed_in read_out_in drop_of coverage_of verdict first_place sound sides_taken in_range every possible_after is_covered positives
known = record {
  updates_known = updates_known;
  starts_known = refl then refl then refl then tt;
  feeds_known = refl then refl then refl then refl then refl then refl then refl then refl then refl then refl then refl then refl then refl then refl then refl then refl then refl then refl then refl then refl then refl then refl then refl then refl then refl then refl then refl then refl then tt;
  read_outs_known = refl then refl then refl then refl then refl then refl then refl then refl then refl then refl then refl then refl then refl then refl then refl then refl then refl then refl then refl then refl then refl then tt;
  float_feeds_known = refl then refl then refl then refl then refl then refl then refl then refl then refl then refl then refl then refl then refl then refl then refl then refl then refl then refl then refl then tt;
  float_read_outs_known = refl then refl then refl then refl then refl then refl then refl then refl then refl then refl then refl then refl then refl then refl then refl then refl then tt;
  drops_known = refl then refl then refl then refl then tt;
  coverages_known = refl then refl then refl then refl then refl then refl then refl then refl then refl then tt;
  boards_known = refl then refl then refl then refl then refl then refl then refl then refl then refl then refl then tt;
}
