-- The known weight byte, by computation.
use mathlib.Core.Path.{refl}
use Rattle.fields.specs.Known.{AllKnown}

pub known : AllKnown
known = record { known_minus_zero = λ i. refl }
