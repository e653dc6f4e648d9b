-- What must be true of an engine. `proofs/Laws.antt` shows it of both.
use Rattle.std.specs.Prelude.{ℕ, ◌≤◌, true, ◌≡◌, ℤ, pos, nat_abs}
use Rattle.std.specs.Int.Signed.{lt_z}
use Rattle.std.specs.Float.{Float, binary64}
use Rattle.std.specs.Float.Ieee.{fits}
use Rattle.std.specs.Float.Ieee.Exact.{HasValue}
use Rattle.settings.specs.declared.Settings.{Settings}
use Rattle.settings.specs.Settings.{max_samples}
use Rattle.entries.specs.Possible.{possible}
use Rattle.engines.specs.Engine.{Engine, in_floats, Kind, whole_numbers, floats, Entry, engine_of}

-- of a whole number that is possible: its entry is that of a whole number, and stands for it
pub record StandsFor {E : Type 0} (engine : Engine E) : Type 0 where
  pub is_whole : (s : Settings) (k : ℕ) (z : ℤ) → k ≤ max_samples → possible s k z ≡ true → engine.is_whole (engine.entry_of z) ≡ true
  pub value : (s : Settings) (k : ℕ) (z : ℤ) → k ≤ max_samples → possible s k z ≡ true → engine.value_of (engine.entry_of z) ≡ z

-- an entry has exactly the value of a whole number, and a float its sign too: that of 0 is not -0
abbrev pub HasExactly : (kind : Kind) → Entry kind → ℤ → Type 0
HasExactly whole_numbers e z = e ≡ z
HasExactly floats e z = HasValue e (lt_z z (pos 0)) (nat_abs z) 1

pub record EngineLaws : Type 0 where
  pub stands_for : (kind : Kind) → StandsFor (engine_of kind)
  -- the entry of a possible whole number has exactly its value
  pub exact : (kind : Kind) (s : Settings) (k : ℕ) (z : ℤ) → k ≤ max_samples → possible s k z ≡ true → HasExactly kind ((engine_of kind).entry_of z) z
  -- and a float that 64 bits hold and that is the entry of a whole number has exactly the value of the one that it stands for: it is no NaN, infinity or fraction, and
  -- not -0
  pub only_exact : (e : Float) → fits binary64 e ≡ true → in_floats.is_whole e ≡ true → HasExactly floats e (in_floats.value_of e)
