-- What the pass of Feed requires. No rule of the product stands here: it is what the board has checked by then.
use Rattle.std.specs.Prelude.{ℕ, ◌+◌, ◌*◌, ◌≤◌, ◌<◌, true, List, ◌≡◌, length, None}
use Rattle.laws.specs.Lists.{every}
use Rattle.sides.specs.Sides.{max_area}
use Rattle.settings.specs.declared.Settings.{Settings}
use Rattle.settings.specs.Settings.{max_samples, in_range}
use Rattle.checks.specs.Search.{first_place}
use Rattle.readings.specs.Readings.{reading_in_range}
use Rattle.engines.specs.Engine.{Engine, possible_in}
use Rattle.written.specs.Written.{impossible_at}

pub record Feedable {E : Type 0} (engine : Engine E) (s : Settings) (f : ℕ) (xs : List ℕ) (sums : List E) : Type 0 where
  pub some : 0 < length sums
  pub few : length sums ≤ max_area
  pub settings : in_range s ≡ true
  pub room : f + length xs ≤ max_samples * length sums
  pub readings : every reading_in_range xs ≡ true
  pub entries : first_place (length sums) (impossible_at engine.absent (possible_in engine s) (length sums) f (length xs) sums) ≡ None
