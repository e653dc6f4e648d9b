-- What must be true of the settings and of the covered question, beside the contracts. `proofs/Laws.antt` shows it.
use Rattle.std.specs.Prelude.{true, false, ◌≡◌}
use Rattle.settings.specs.Settings.{defaults, in_range, with_threshold}
use Rattle.settings.specs.Covered.{reach, ceiling, is_covered}

pub record SettingsLaws : Type 0 where
  -- the settings at opening are ones that an update takes, and they are covered
  pub defaults_in_range : in_range defaults ≡ true
  pub defaults_covered : is_covered defaults ≡ true
  -- they give 130,998 against 131,008; with threshold 13,088 they give 131,008
  pub known_reach : (reach defaults ≡ 130998) × (reach (with_threshold 13088 defaults) ≡ 131008) × (ceiling 2 ≡ 131008)
  -- and are not covered
  pub known_uncovered : is_covered (with_threshold 13088 defaults) ≡ false
