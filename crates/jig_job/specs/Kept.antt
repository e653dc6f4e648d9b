-- How much of an input matters.
use Rattle.std.specs.Prelude.{ℕ, ◌+◌, ◌*◌}
use Rattle.jig_input.specs.Input.{max_readings}

-- the six bytes, a record of 255 bytes, and the readings
abbrev pub capacity : ℕ
capacity = 6 + 255 + 2 * max_readings
