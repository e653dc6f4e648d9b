-- The known ramp, by computation.
use mathlib.Core.Path.{refl}
use Rattle.step.specs.Step.{step}
use Rattle.sums.specs.Feed.{feed_one, feed_all}
use Rattle.sums.specs.Known.{AllKnown}

pub known : AllKnown
unfolding lib.Ieee.of_int lib.Ieee.of_bits lib.Ieee.in_signed lib.Ieee.to_signed lib.Ieee.whole step feed_one feed_all
known = record { known_readings = (refl, refl, refl, refl); known_sums = λ e₀ e₁. refl; known_float_sums = λ e₀ e₁. refl }
