use Rattle.std.proofs.Common.{◌≡◌}
use Rattle.laws.specs.Lists.{each}
use Rattle.checks.specs.Checks.{verdict}
use Rattle.record.specs.Record.{map_of, offset_of}
use Rattle.fields.specs.Fields.{field_check, with_bits}
use Rattle.fields.proofs.write_fields.Given as goal

-- the fields of the bits so far are checked and written, and the next one would start at `at`
abbrev pub invariant-loop-bit : goal.invariant-loop-bit
invariant-loop-bit l =
    (l.at ≡ offset_of (map_of l.bytes) l.bit)
    × (l.answer ≡ verdict (each (field_check l.bytes) l.bit))
    × (l.settings ≡ with_bits l.bytes l.bit l.initial.settings)
