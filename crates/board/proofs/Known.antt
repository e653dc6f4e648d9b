-- The table of known boards, row by row, by computation.
use mathlib.Core.Path.{refl}
use Rattle.laws.specs.Lists.{every}
use Rattle.laws.proofs.Tables.{◌then◌}
use Rattle.settings.specs.Settings.{in_range}
use Rattle.checks.specs.Checks.{verdict}
use Rattle.board.specs.Board.{sides_taken, sound}
use Rattle.board.specs.Open.{open_of}
use Rattle.board.specs.Known.{AllKnown}

pub known : AllKnown
unfolding open_of verdict sound sides_taken in_range every
known =
    refl then refl then refl then refl then refl then refl then refl then refl then refl then refl then refl then refl then refl
    then refl then refl then refl then refl then refl then refl then refl then refl then (refl, refl)
    then (refl, refl) then (refl, refl) then (refl, refl) then (refl, refl) then (refl, refl) then (refl, refl)
    then (refl, refl) then (refl, refl) then (refl, refl) then (refl, refl) then (refl, refl) then (refl, refl)
    then (refl, refl) then (refl, refl) then refl then refl then refl then refl then refl then refl then tt
