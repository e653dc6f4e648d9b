-- Which entries are *possible* after k samples.
use Rattle.std.specs.Prelude.{ℕ, ◌*◌, Bool, ◌&&◌, ◌||◌, ℤ, pos, ◌+ℤ◌, ◌-ℤ◌}
use Rattle.std.specs.Int.Signed.{le_z}
use Rattle.settings.specs.declared.Settings.{Settings}
use Rattle.settings.specs.Settings.{max_weight}
use Rattle.settings.specs.Covered.{pedestal}
use Rattle.readings.specs.Readings.{max_reading}
use Rattle.entries.specs.Mark.{mark_of}

-- the largest weight times the largest reading: 245,745
abbrev pub max_product : ℕ
max_product = max_weight * max_reading

-- what k samples can come to: from 128 − 245,745 × k to 128 + 245,745 × k
abbrev pub sum_of : ℕ → ℤ → Bool
sum_of k e = le_z (pos pedestal -ℤ pos (k * max_product)) e && le_z e (pos pedestal +ℤ pos (k * max_product))

-- a sum of k samples, or a mark with n from 1 to k
unfoldable pub possible_after : ℕ → ℤ → Bool
possible_after k e = sum_of k e || mark_of 1 k e

-- *possible* after k samples, the same under all settings
abbrev pub possible : Settings → ℕ → ℤ → Bool
possible s k e = possible_after k e
