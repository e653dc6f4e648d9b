-- The ends of each range.
use mathlib.Core.Path.{refl}
use Rattle.ranges.specs.Laws.{RangesLaws}

pub laws : RangesLaws
laws = record {
  known_weights = (refl, refl, refl, refl);
  known_thresholds = (refl, refl, refl);
  known_truncations = (refl, refl, refl, refl);
  known_samples = (refl, refl, refl, refl);
}
