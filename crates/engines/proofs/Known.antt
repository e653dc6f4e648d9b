-- The known entries, by computation.
use mathlib.Core.Path.{refl}
use Rattle.laws.proofs.Tables.{◌then◌}
use Rattle.step.specs.Step.{step}
use Rattle.entries.specs.Possible.{possible_after}
use Rattle.engines.specs.Known.{AllKnown}

pub known : AllKnown
unfolding lib.Ieee.of_int lib.Ieee.of_bits lib.Ieee.in_signed lib.Ieee.to_signed lib.Ieee.whole possible_after step
known =
    (refl, refl)
    then (refl, refl)
    then (refl, refl)
    then (refl, refl)
    then (refl, refl)
    then refl
    then refl
    then refl
    then refl
    then refl
    then refl
    then refl
    then refl
    then refl
    then refl
    then refl
    then refl
    then refl
    then refl
    then refl
    then refl
    then refl
    then refl
    then refl
    then refl
    then refl
    then refl
    then refl
    then refl
    then refl
    then refl
    then refl
    then tt
