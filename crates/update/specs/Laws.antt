-- What must be true of an update, beside the contract. `proofs/Laws.antt` shows it.
use Rattle.std.specs.Prelude.{ℕ, ◌<◌, true, cond, List, [], ◌∷◌, ◌≡◌, ltb, ℤ, pos, length, get_or, Ok, Err}
use Rattle.laws.specs.Lists.{every}
use Rattle.checks.specs.declared.Reason.{Reason}
use Rattle.checks.specs.declared.Reason.TheVariants.{ShortRecord, UnknownField, RecordLength, WeightRange, ThresholdRange}
use Rattle.checks.specs.declared.Refusal.{Refusal}
use Rattle.checks.specs.Checks.{refusal}
use Rattle.settings.specs.declared.Settings.{Settings}
use Rattle.settings.specs.Settings.{max_samples, in_range, with_threshold, with_truncation}
use Rattle.record.specs.declared.Field.{Field}
use Rattle.record.specs.declared.Field.TheVariants.{Weight, Threshold, Truncation, Samples}
use Rattle.record.specs.Record.{bit_set, map_of, field_count, field_of, number_of, weight_of}
use Rattle.update.specs.Update.{Updated, apply_record}

-- what settings hold in a field
abbrev pub value_in : Field → Settings → ℤ
value_in (Weight i) s = get_or s.weights i (pos 0)
value_in Threshold s = pos s.threshold
value_in Truncation s = pos s.truncation
value_in Samples s = pos s.samples

-- what a record's number for a field means
abbrev pub meant_by : Field → ℕ → ℤ
meant_by (Weight i) v = weight_of v
meant_by Threshold v = pos v
meant_by Truncation v = pos v
meant_by Samples v = pos v

abbrev pub taken : Settings → Updated
taken s = record { answer = Ok tt; settings = s }

-- refused for a reason, at place 0, and nothing changes
abbrev pub refused_with : Reason → Settings → Updated
refused_with reason s = record { answer = Err (refusal reason); settings = s }

pub record UpdateLaws : Type 0 where
  -- an update keeps the settings in range, taken or refused
  pub stays_in_range : (s : Settings) (bytes : List ℕ) → in_range s ≡ true → in_range (apply_record s bytes).settings ≡ true
  -- a taken update changes exactly the fields whose bit is set
  pub changes_named : (s : Settings) (bytes : List ℕ) → length s.weights ≡ max_samples → (apply_record s bytes).answer ≡ Ok tt
      → (bit : ℕ) → bit < field_count
      → value_in (field_of bit) (apply_record s bytes).settings
      ≡ cond (bit_set (map_of bytes) bit) (meant_by (field_of bit) (number_of bytes bit)) (value_in (field_of bit) s)
  -- a refused one changes nothing
  pub refused_changes_nothing : (s : Settings) (bytes : List ℕ) (r : Refusal) → (apply_record s bytes).answer ≡ Err r → (apply_record s bytes).settings ≡ s
  -- the record 00 00 is taken and changes nothing
  pub empty_map : (s : Settings) → apply_record s (0 ∷ 0 ∷ []) ≡ taken s
  -- the record 00 06 1F 33 03 (hexadecimal): threshold 13,087 and r = 3
  pub known_record : (s : Settings) → apply_record s (0x00 ∷ 0x06 ∷ 0x1F ∷ 0x33 ∷ 0x03 ∷ []) ≡ taken (with_truncation 3 (with_threshold 13087 s))
  -- 2 to 4, each by a record that is just past what is taken (hexadecimal): no byte, one byte; map bits 12 and 15; a byte too few, one too many. A
  -- threshold of 16,384: 6. Weight byte 32 and then N = 0: 5
  pub known_refusals : (s : Settings)
      → (apply_record s [] ≡ refused_with ShortRecord s)
      × (apply_record s (0x00 ∷ []) ≡ refused_with ShortRecord s)
      × (apply_record s (0x00 ∷ 0x10 ∷ []) ≡ refused_with UnknownField s)
      × (apply_record s (0x00 ∷ 0x80 ∷ []) ≡ refused_with UnknownField s)
      × (apply_record s (0x00 ∷ 0x02 ∷ 0x00 ∷ []) ≡ refused_with RecordLength s)
      × (apply_record s (0x00 ∷ 0x00 ∷ 0x00 ∷ []) ≡ refused_with RecordLength s)
      × (apply_record s (0x00 ∷ 0x02 ∷ 0x00 ∷ 0x40 ∷ []) ≡ refused_with ThresholdRange s)
      × (apply_record s (0x01 ∷ 0x08 ∷ 0x20 ∷ 0x00 ∷ []) ≡ refused_with WeightRange s)
  -- from any settings one record of bytes leads to any settings in range
  pub reachable : (s t : Settings) → in_range s ≡ true → length t.weights ≡ max_samples
      → (bytes : List ℕ) × (every (λ b. ltb b 256) bytes ≡ true) × (apply_record t bytes ≡ taken s)
