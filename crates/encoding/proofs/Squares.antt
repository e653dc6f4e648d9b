-- Known squares.
use mathlib.Core.Path.{refl}
use Rattle.encoding.specs.Frame.{pixels_of}
use Rattle.encoding.specs.Squares.{SquareLaws}

pub laws : SquareLaws
unfolding pixels_of
laws = record { known_squares = (refl, refl) }
