-- What the count asks for: it has been checked.
use Rattle.std.specs.Prelude.{ℕ, ◌+◌, ◌*◌, ◌≤◌, ◌<◌, List, length}
use Rattle.sides.specs.Sides.{max_side, max_area}
use Rattle.places.specs.declared.Place.{Place}

-- a box that passed its checks
pub record Boxed (words : List ℕ) (width : ℕ) (first last : Place) : Type 0 where
  pub rows : first.row ≤ last.row
  pub columns : first.column ≤ last.column
  pub across : last.column < width
  pub wide : width ≤ max_side
  pub high : last.row < max_side
  pub down : last.row * width + width ≤ length words
  pub few : length words ≤ max_area
