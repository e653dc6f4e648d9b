-- Known answers. `proofs/Known.antt` shows them.
use Rattle.std.specs.Prelude.{true, false, [], ◌∷◌, ◌≡◌, ltb, map, Some, None, Ok, Err}
use Rattle.checks.specs.declared.Reason.TheVariants.{BadSides, ShortRecord, UnknownField, RecordLength, WeightRange, ThresholdRange, TruncationRange, SamplesRange, RampRunning, NoRamp, SumsLength, TooManyReadings, ReadingRange, EntryNotPossible, ReadingsWanted, WordsLength, BadInput, TooManyPixels, OutsideFrame, UnsoundBoard}
use Rattle.checks.specs.Search.{first_place}
use Rattle.checks.specs.Checks.{refusal, when, found, verdict}
use Rattle.checks.specs.Plain.{number, refusal_number, refusal_place}

pub record AllKnown : Type 0 where
  -- a refusal with no search has place 0, one with a search the place that was found
  pub known_places : (when true TooManyReadings ≡ Err (record { reason = TooManyReadings; place = 0 }))
      × (when false TooManyReadings ≡ Ok tt)
      × (found (Some 3) ReadingRange ≡ Err (record { reason = ReadingRange; place = 3 }))
      × (found None ReadingRange ≡ Ok tt)
  -- of several checks the first that refuses
  pub known_orders : (verdict ((Ok tt) ∷ when true NoRamp ∷ when true SumsLength ∷ []) ≡ Err (refusal NoRamp)) × (verdict ((Ok tt) ∷ (Ok tt) ∷ []) ≡ Ok tt)
  -- the smallest place below a bound
  pub known_searches : (first_place 9 (λ p. ltb 3 p) ≡ Some 4) × (first_place 4 (λ p. ltb 3 p) ≡ None)
  -- the number of each reason, as document 01 names it
  pub known_reasons : (map number (BadSides ∷ ShortRecord ∷ UnknownField ∷ RecordLength ∷ []) ≡ 1 ∷ 2 ∷ 3 ∷ 4 ∷ [])
      × (map number (WeightRange ∷ ThresholdRange ∷ TruncationRange ∷ SamplesRange ∷ []) ≡ 5 ∷ 6 ∷ 7 ∷ 8 ∷ [])
      × (map number (RampRunning ∷ NoRamp ∷ SumsLength ∷ TooManyReadings ∷ []) ≡ 9 ∷ 10 ∷ 11 ∷ 12 ∷ [])
      × (map number (ReadingRange ∷ EntryNotPossible ∷ ReadingsWanted ∷ WordsLength ∷ []) ≡ 13 ∷ 14 ∷ 15 ∷ 16 ∷ [])
      × (map number (BadInput ∷ TooManyPixels ∷ OutsideFrame ∷ UnsoundBoard ∷ []) ≡ 17 ∷ 18 ∷ 19 ∷ 99 ∷ [])
  -- for C: 0 for taken
  pub known_numbers : (refusal_number (Ok tt) ≡ 0)
      × (refusal_place (Ok tt) ≡ 0)
      × (refusal_number (Err (record { reason = ReadingRange; place = 3 })) ≡ 13)
      × (refusal_place (Err (record { reason = ReadingRange; place = 3 })) ≡ 3)
