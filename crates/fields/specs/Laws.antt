-- The refusals of the fields. `proofs/Laws.antt` shows it.
use Rattle.std.specs.Prelude.{ℕ, ◌≡◌, Ok, Err}
use Rattle.checks.specs.declared.Reason.TheVariants.{WeightRange, ThresholdRange, TruncationRange, SamplesRange}
use Rattle.checks.specs.Checks.{refusal}
use Rattle.record.specs.declared.Field.TheVariants.{Weight, Threshold, Truncation, Samples}
use Rattle.fields.specs.Fields.{check_of}

-- each number that is just within what a field takes, and just past it
pub record FieldsLaws : Type 0 where
  pub known_weights : (i : ℕ) → (check_of (Weight i) 31 ≡ Ok tt) × (check_of (Weight i) 32 ≡ Err (refusal WeightRange))
  pub known_thresholds : (check_of Threshold 16383 ≡ Ok tt) × (check_of Threshold 16384 ≡ Err (refusal ThresholdRange))
  pub known_truncations :
      (check_of Truncation 0 ≡ Err (refusal TruncationRange))
      × (check_of Truncation 1 ≡ Ok tt)
      × (check_of Truncation 3 ≡ Ok tt)
      × (check_of Truncation 4 ≡ Err (refusal TruncationRange))
  pub known_samples :
      (check_of Samples 0 ≡ Err (refusal SamplesRange))
      × (check_of Samples 1 ≡ Ok tt)
      × (check_of Samples 9 ≡ Ok tt)
      × (check_of Samples 10 ≡ Err (refusal SamplesRange))
