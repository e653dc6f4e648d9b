-- The known steps, by computation.
use mathlib.Core.Path.{refl}
use Rattle.step.specs.Step.{step}
use Rattle.step.specs.Known.{AllKnown}

pub known : AllKnown
unfolding step
known = record { known_sums = λ e. (refl, refl, refl); known_marks = λ e. (refl, refl, refl, refl) }
