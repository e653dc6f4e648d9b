-- The table of known inputs, row by row, by computation.
use mathlib.Core.Path.{refl}
use Rattle.laws.proofs.Tables.{◌then◌}
use Rattle.checks.specs.Checks.{verdict}
use Rattle.sides.specs.Sides.{sides_taken}
use Rattle.jig_numbers.specs.LittleEndian.{u16_le_all}
use Rattle.jig_input.specs.Known.{AllKnown}

pub known : AllKnown
unfolding verdict sides_taken u16_le_all
known =
    refl then refl then refl
    then refl then refl
    then refl then refl
    then refl then refl then refl then refl then refl then refl
    then refl then refl then refl then refl
    then refl then refl then refl then refl then refl then refl
    then refl then refl then refl then refl
    then (refl, refl, refl, refl, refl)
    then (refl, refl, refl, refl, refl)
    then tt
