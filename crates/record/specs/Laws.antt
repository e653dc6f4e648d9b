-- What must be true of a record's bytes, beside the contracts. `proofs/Laws.antt` shows it.
use Rattle.std.specs.Prelude.{[], ◌∷◌, map, ◌≡◌, pos, neg_ℤ}
use Rattle.laws.specs.Lists.{up_from}
use Rattle.record.specs.declared.Field.TheVariants.{Weight, Threshold, Truncation, Samples}
use Rattle.record.specs.Record.{field_of, weight_of}

pub record RecordLaws : Type 0 where
  -- weight bytes 20, 31 and 16 are −4, −15 and 0
  pub known_weights : (weight_of 20 ≡ neg_ℤ (pos 4)) × (weight_of 31 ≡ neg_ℤ (pos 15)) × (weight_of 16 ≡ pos 0)
  -- bits 0 to 11 are for weights 1 to 9, the threshold, r and N
  pub known_fields : map field_of (up_from 0 9) ≡ Weight 0 ∷ Weight 1 ∷ Weight 2 ∷ Weight 3 ∷ Weight 4 ∷ Weight 5 ∷ Weight 6 ∷ Weight 7 ∷ Weight 8 ∷ []
  pub known_last_fields : map field_of (up_from 9 3) ≡ Threshold ∷ Truncation ∷ Samples ∷ []
