-- Update: its checks, and its outcome.
use Rattle.std.specs.Prelude.{ℕ, not, List, ◌∷◌, ltb, eqb, length}
use Rattle.checks.specs.declared.Reason.TheVariants.{ShortRecord, UnknownField, RecordLength}
use Rattle.checks.specs.Checks.{Answer, when, verdict, by_answer}
use Rattle.record.specs.Record.{map_of, field_count, unknown_bit, offset_of}
use Rattle.settings.specs.declared.Settings.{Settings}
use Rattle.fields.specs.Fields.{field_checks}
pub use Rattle.fields.specs.Fields.{resulting}

-- 2: under two bytes. 3: a map bit from 12 to 15 is set. 4: not the length that the map calls for. Then the checks of the fields, from the lowest bit up
abbrev pub record_checks : List ℕ → List Answer
record_checks bytes =
    when (ltb (length bytes) 2) ShortRecord
    ∷ when (unknown_bit (map_of bytes)) UnknownField
    ∷ when (not (eqb (length bytes) (offset_of (map_of bytes) field_count))) RecordLength
    ∷ field_checks bytes

-- what an update answers, and the settings as it leaves them
pub record Updated : Type 0 where
  pub answer : Answer
  pub settings : Settings

-- taken whole, or not at all
unfoldable pub apply_record : Settings → List ℕ → Updated
apply_record s bytes =
    let answer = verdict (record_checks bytes) in
    record { answer = answer; settings = by_answer answer (resulting bytes s) s }
