-- The table of known answers and words, row by row, by computation.
use mathlib.Core.Path.{refl}
use Rattle.laws.specs.Lists.{each, every}
use Rattle.laws.proofs.Tables.{◌then◌}
use Rattle.settings.specs.Settings.{in_range}
use Rattle.checks.specs.Checks.{verdict}
use Rattle.board.specs.Board.{sides_taken, sound}
use Rattle.board.specs.Open.{open_of}
use Rattle.operations.specs.Ramp.{start_of, drop_of}
use Rattle.board_words.specs.Words.{settings_fit, first_fit, board_fits, holds_board, held}
use Rattle.lent_board.specs.Lent.{open_answer, opened_words}
use Rattle.lent_board.specs.Known.{AllKnown}

pub known : AllKnown
unfolding open_answer opened_words open_of start_of drop_of verdict sound sides_taken in_range held holds_board board_fits first_fit settings_fit each every
known =
    (refl, refl) then (refl, refl) then (refl, refl) then (refl, refl) then (refl, refl) then (refl, refl) then (refl, refl) then (refl, refl)
    then refl then refl then refl then refl then refl then refl then refl then tt
