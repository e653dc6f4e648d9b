-- The table of known words, row by row, by computation.
use mathlib.Core.Path.{refl}
use Rattle.laws.specs.Lists.{each, every}
use Rattle.laws.proofs.Tables.{◌then◌}
use Rattle.board_words.specs.Words.{settings_fit, first_fit, board_fits, holds_board, held}
use Rattle.board_words.specs.Known.{AllKnown}

pub known : AllKnown
unfolding held holds_board board_fits first_fit settings_fit each every
known =
    (refl, refl) then (refl, refl) then refl then refl then refl then refl then refl then refl then refl then refl then refl then refl
    then refl then refl then refl then refl then refl then refl then refl then refl then refl then refl then refl then refl then refl
    then refl then refl then refl then refl then refl then refl then tt
