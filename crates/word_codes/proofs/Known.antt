-- The known codes, by computation.
use mathlib.Core.Path.{refl}
use Rattle.word_codes.specs.Known.{AllKnown}

pub known : AllKnown
known = record {
  known_ordinary = (refl, refl);
  known_saturated = (refl, refl, refl, refl, refl, refl);
  known_negative = (refl, refl, refl);
}
