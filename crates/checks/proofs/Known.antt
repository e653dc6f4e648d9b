-- The known answers, by computation.
use mathlib.Core.Path.{refl}
use Rattle.checks.specs.Search.{first_place}
use Rattle.checks.specs.Checks.{verdict}
use Rattle.checks.specs.Known.{AllKnown}

pub known : AllKnown
unfolding verdict first_place
known = record {
  known_places = (refl, refl, refl, refl);
  known_orders = (refl, refl);
  known_searches = (refl, refl);
  known_reasons = (refl, refl, refl, refl, refl);
  known_numbers = (refl, refl, refl, refl);
}
