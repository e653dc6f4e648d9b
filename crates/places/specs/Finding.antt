-- The nearest flagged place.
use Rattle.std.specs.Prelude.{ℕ, zero, suc, Bool, cond, List, leb, length, Option, Some, None, Result}
use Rattle.checks.specs.declared.Refusal.{Refusal}
use Rattle.checks.specs.Checks.{verdict, or_refused}
use Rattle.places.specs.declared.Place.{Place}
use Rattle.places.specs.Places.{place_of, flag_at, squared_distance}
use Rattle.places.specs.Checks.{nearest_checks}

-- the nearer of two that were found, and the first of two that are equally far
abbrev pub nearer : (ℕ → ℕ) → Option ℕ → Option ℕ → Option ℕ
nearer distance None other = other
nearer distance (Some i) None = Some i
nearer distance (Some i) (Some j) = cond (leb (distance i) (distance j)) (Some i) (Some j)

-- the nearest of 0 to n − 1 at which the test holds, and the first among equals
unfoldable pub nearest_at : ℕ → (ℕ → Bool) → (ℕ → ℕ) → Option ℕ
nearest_at zero test distance = None
nearest_at (suc n) test distance = nearer distance (nearest_at n test distance) (cond (test n) (Some n) None)

-- how far word i is from a place, squared
abbrev pub distance_from : ℕ → Place → ℕ → ℕ
distance_from width place i = squared_distance place (place_of width i)

-- the place of what was found
abbrev pub placed : ℕ → Option ℕ → Option Place
placed width (Some i) = Some (place_of width i)
placed width None = None

-- the nearest flagged place, or none, or a refusal
unfoldable pub nearest_of : List ℕ → ℕ → ℕ → Place → Result (Option Place) Refusal
nearest_of words width height place =
    or_refused (verdict (nearest_checks words width height place)) (placed width (nearest_at (length words) (flag_at words) (distance_from width place)))
