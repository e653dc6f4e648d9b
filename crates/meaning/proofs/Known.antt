-- The known refusals and limits, by computation.
use mathlib.Core.Path.{refl}
use Rattle.meaning.specs.Meaning.{meaning, read_word}
use Rattle.meaning.specs.Known.{AllKnown}

pub known : AllKnown
unfolding meaning read_word
known = record { known_refusals = λ w. (refl, refl); known_limits = (refl, refl) }
