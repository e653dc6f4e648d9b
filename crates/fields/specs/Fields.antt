-- The fields of a record: the check of each, and the settings with each of them written.
use Rattle.std.specs.Prelude.{ℕ, zero, suc, cond, not, List, ltb, set, Ok}
use Rattle.laws.specs.Lists.{each}
use Rattle.checks.specs.declared.Reason.TheVariants.{WeightRange, ThresholdRange, TruncationRange, SamplesRange}
use Rattle.checks.specs.Checks.{Answer, when}
use Rattle.record.specs.declared.Field.{Field}
use Rattle.record.specs.declared.Field.TheVariants.{Weight, Threshold, Truncation, Samples}
use Rattle.record.specs.Record.{bit_set, map_of, field_count, field_of, number_of, weight_of}
use Rattle.settings.specs.declared.Settings.{Settings}
use Rattle.settings.specs.Settings.{threshold_in_range, truncation_in_range, samples_in_range, with_weights, with_threshold, with_truncation, with_samples}

-- 5: a weight byte above 31. 6: a threshold above 16,383. 7: an r outside 1 to 3. 8: an N outside 1 to 9
abbrev pub check_of : Field → ℕ → Answer
check_of (Weight i) v = when (ltb 31 v) WeightRange
check_of Threshold v = when (not (threshold_in_range v)) ThresholdRange
check_of Truncation v = when (not (truncation_in_range v)) TruncationRange
check_of Samples v = when (not (samples_in_range v)) SamplesRange

-- the check of a bit's field, if the bit is set
abbrev pub field_check : List ℕ → ℕ → Answer
field_check bytes bit = cond (bit_set (map_of bytes) bit) (check_of (field_of bit) (number_of bytes bit)) (Ok tt)

-- the checks of a record's fields, from the lowest bit up
abbrev pub field_checks : List ℕ → List Answer
field_checks bytes = each (field_check bytes) field_count

-- settings with one field written
abbrev pub with_field : Field → ℕ → Settings → Settings
with_field (Weight i) v s = with_weights (set s.weights i (weight_of v)) s
with_field Threshold v s = with_threshold v s
with_field Truncation v s = with_truncation v s
with_field Samples v s = with_samples v s

-- settings with the field of a bit written, if the bit is set
abbrev pub with_bit : List ℕ → ℕ → Settings → Settings
with_bit bytes bit s = cond (bit_set (map_of bytes) bit) (with_field (field_of bit) (number_of bytes bit) s) s

-- settings with the fields of the bits below n written, in bit order
unfoldable pub with_bits : List ℕ → ℕ → Settings → Settings
with_bits bytes zero s = s
with_bits bytes (suc bit) s = with_bit bytes bit (with_bits bytes bit s)

-- the settings that would result
abbrev pub resulting : List ℕ → Settings → Settings
resulting bytes s = with_bits bytes field_count s
