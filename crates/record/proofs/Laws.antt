-- The laws of the record.
use mathlib.Core.Path.{refl}
use Rattle.record.specs.Record.{bit_set, field_of, weight_of}
use Rattle.record.specs.Laws.{RecordLaws}

pub laws : RecordLaws
unfolding bit_set field_of weight_of
laws = record {
  known_weights = (refl, refl, refl);
  known_fields = refl;
  known_last_fields = refl;
}
