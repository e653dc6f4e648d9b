-- The ends of the range of a side.
use mathlib.Core.Path.{refl}
use Rattle.sides.specs.Sides.{sides_taken}
use Rattle.sides.specs.Laws.{SidesLaws}

pub laws : SidesLaws
unfolding sides_taken
laws = record { known_taken = (refl, refl, refl); known_refused = (refl, refl, refl, refl, refl, refl) }
