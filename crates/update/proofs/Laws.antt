-- The laws of an update.
use mathlib.Core.Path.{refl}
use Rattle.laws.specs.Lists.{each, any_of}
use Rattle.checks.specs.Checks.{verdict}
use Rattle.record.specs.Record.{bit_set, field_of, offset_of}
use Rattle.fields.specs.Fields.{with_bits}
use Rattle.update.specs.Update.{apply_record}
use Rattle.update.specs.Laws.{UpdateLaws}
use Rattle.update.proofs.Keeps.{stays_in_range}
use Rattle.update.proofs.Changes.{changes_named}
use Rattle.update.proofs.Reaches.{reachable}

pub laws : UpdateLaws
unfolding any_of each verdict apply_record with_bits bit_set field_of offset_of
laws = record {
  stays_in_range = stays_in_range;
  changes_named = changes_named;
  refused_changes_nothing = λ s bytes r e. rw e;
  empty_map = λ s. refl;
  known_record = λ s. refl;
  known_refusals = λ s. (refl, refl, refl, refl, refl, refl, refl, refl);
  reachable = reachable;
}
