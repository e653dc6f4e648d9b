-- The order of an update's checks.
--     answer_is     the tests of the map, its fields' end and the length, one after the other
use Prim.Native.Nat.{ℕ, ◌/◌, ◌<◌, ◌^◌}
use mathlib.Core.Bool.{not}
use mathlib.Core.List.{List}
use mathlib.Core.Path.{◌≡◌}
use lib.Dec.{ltb, eqb}
use lib.ListN.{length}
use Rattle.checks.specs.declared.Reason.TheVariants.{ShortRecord, UnknownField, RecordLength}
use Rattle.checks.specs.Checks.{Answer, when, first, verdict}
use Rattle.record.specs.Record.{map_of, field_count, offset_of}
use Rattle.record.proofs.Fields.{high_bits}
use Rattle.fields.specs.Fields.{field_checks}
use Rattle.update.specs.Update.{record_checks}

pub answer_is : (bytes : List ℕ) {map end : ℕ} {short unknown lengths fields : Answer} → map < 2 ^ 16 → map ≡ map_of bytes → end ≡ offset_of (map_of bytes) field_count
    → short ≡ when (ltb (length bytes) 2) ShortRecord
    → unknown ≡ when (not (eqb (map / 2 ^ field_count) 0)) UnknownField
    → lengths ≡ when (not (eqb (length bytes) end)) RecordLength
    → fields ≡ verdict (field_checks bytes)
    → first short (first unknown (first lengths fields)) ≡ verdict (record_checks bytes)
unfolding verdict
answer_is bytes {map} h m e p q r s = rw (p, q, r, s, high_bits map h, m, e)
