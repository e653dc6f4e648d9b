-- The known answers, by computation.
use mathlib.Core.Path.{refl}
use Rattle.ramp_board.specs.Known.{AllKnown}

pub known : AllKnown
known = record {
  known_numbers = (refl, refl, refl, refl, refl, refl, refl);
  known_refusal_places = (refl, refl, refl);
  known_covered = (refl, refl, refl);
  known_kinds = (refl, refl, refl, refl, refl);
  known_limits = (refl, refl);
  known_sample = refl;
  known_untold = (refl, (refl, refl), ((refl, refl), refl), ((refl, refl), refl), ((refl, refl), refl));
  known_found = (refl, refl, refl);
  known_places = (refl, refl, refl, refl, refl, refl);
  known_counts = (refl, refl);
}
