-- What the search asks for: it has been checked.
use Rattle.std.specs.Prelude.{ℕ, ◌*◌, ◌≤◌, ◌<◌, List, ◌≡◌, length}
use Rattle.sides.specs.Sides.{max_side, max_area}
use Rattle.places.specs.declared.Place.{Place}

-- a frame and a place that passed their checks
pub record Searched (words : List ℕ) (width height : ℕ) (place : Place) : Type 0 where
  pub whole : length words ≡ width * height
  pub wide : width ≤ max_side
  pub high : height ≤ max_side
  pub few : length words ≤ max_area
  pub row : place.row < height
  pub column : place.column < width
