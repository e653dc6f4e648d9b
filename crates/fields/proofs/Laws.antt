-- The refusals of the fields.
use mathlib.Core.Path.{refl}
use Rattle.fields.specs.Laws.{FieldsLaws}

pub laws : FieldsLaws
laws = record {
  known_weights = λ i. (refl, refl);
  known_thresholds = (refl, refl);
  known_truncations = (refl, refl, refl, refl);
  known_samples = (refl, refl, refl, refl);
}
