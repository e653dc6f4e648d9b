-- The known numbers, by computation.
use mathlib.Core.Path.{refl}
use Rattle.settings.specs.Known.{AllKnown}

pub known : AllKnown
known = record { known_defaults = (refl, refl, refl, refl); known_ceilings = (refl, refl, refl) }
