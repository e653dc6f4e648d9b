-- The table of known records, row by row, by computation.
use mathlib.Core.Path.{refl}
use Rattle.laws.specs.Lists.{each, any_of}
use Rattle.laws.proofs.Tables.{◌then◌}
use Rattle.checks.specs.Checks.{verdict}
use Rattle.record.specs.Record.{bit_set, field_of, offset_of, weight_of}
use Rattle.fields.specs.Fields.{with_bits}
use Rattle.update.specs.Update.{apply_record}
use Rattle.update.specs.Known.{AllKnown}

pub known : AllKnown
unfolding any_of each verdict apply_record with_bits bit_set field_of offset_of weight_of
known s =
    refl then refl then refl then refl then refl then refl then refl then refl then refl then refl then refl then refl
    then refl then refl then refl then refl then refl then refl then refl then refl then refl then refl then refl
    then refl then refl then refl then refl then refl then refl then tt
