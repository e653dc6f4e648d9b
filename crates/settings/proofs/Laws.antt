-- The laws of the settings and of the covered question.
use mathlib.Core.Path.{refl}
use Rattle.laws.specs.Lists.{every}
use Rattle.settings.specs.Settings.{in_range}
use Rattle.settings.specs.Covered.{positives, is_covered}
use Rattle.settings.specs.Laws.{SettingsLaws}

pub laws : SettingsLaws
unfolding in_range every positives is_covered
laws = record {
  defaults_in_range = refl;
  defaults_covered = refl;
  known_reach = (refl, refl, refl);
  known_uncovered = refl;
}
