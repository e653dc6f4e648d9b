-- An *engine* sums a ramp in entries of one kind: whole numbers, or 64-bit floats. Each entry that it stores stands for a whole number.
use Rattle.std.specs.Prelude.{ℕ, Bool, true, ◌&&◌, ℤ, pos}
use Rattle.std.specs.Float.{Float, nan, binary64}
use Rattle.std.specs.Float.Ieee.{of_int, in_signed, to_signed}
use Rattle.settings.specs.declared.Settings.{Settings}
use Rattle.entries.specs.Possible.{possible}
use Rattle.step.specs.Step.{step}

-- how entries of a kind stand for whole numbers
pub record Engine (E : Type 0) : Type 0 where
  -- what stands for an entry past the end, where none is asked for
  pub absent : E
  -- the entry of a whole number
  pub entry_of : ℤ → E
  -- whether an entry is that of a whole number
  pub is_whole : E → Bool
  -- the whole number that such an entry stands for; of any other this says nothing
  pub value_of : E → ℤ

-- *possible* after k samples: the entry of a whole number that is
abbrev pub possible_in : {E : Type 0} → Engine E → Settings → ℕ → E → Bool
possible_in engine s k e = engine.is_whole e && possible s k (engine.value_of e)

-- the entry e after the reading x of sample n: that of the whole number which the step makes of what e stands for; sample 1 reads no entry, so there e may be any
abbrev pub step_in : {E : Type 0} → Engine E → Settings → ℕ → E → ℕ → E
step_in engine s n e x = engine.entry_of (step s n (engine.value_of e) x)

-- ---- the two kinds

pub data Kind : Type 0 where
  whole_numbers : Kind
  floats : Kind

abbrev pub Entry : Kind → Type 0
Entry whole_numbers = ℤ
Entry floats = Float

-- a whole number is its own entry
abbrev pub in_whole_numbers : Engine ℤ
in_whole_numbers = record { absent = pos 0; entry_of = λ z. z; is_whole = λ e. true; value_of = λ e. e }

-- a whole number of 32 bits as a 64-bit float. Not each float is one: no number, an infinity, a fraction, a larger number and -0 aren't
abbrev pub in_floats : Engine Float
in_floats = record { absent = nan; entry_of = of_int binary64; is_whole = in_signed binary64 31; value_of = to_signed 31 }

abbrev pub engine_of : (kind : Kind) → Engine (Entry kind)
engine_of whole_numbers = in_whole_numbers
engine_of floats = in_floats
