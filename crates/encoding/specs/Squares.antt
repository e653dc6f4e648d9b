-- Known squares. `proofs/Squares.antt` shows it.
use Rattle.std.specs.Prelude.{true, [], ◌∷◌, ◌≡◌}
use Rattle.encoding.specs.Frame.{pixels_of}

pub record SquareLaws : Type 0 where
  -- of a board four pixels wide: the second square of the first two rows, and the first of the next two
  pub known_squares : (pixels_of 4 true 1 ≡ 2 ∷ 3 ∷ 6 ∷ 7 ∷ []) × (pixels_of 4 true 2 ≡ 8 ∷ 9 ∷ 12 ∷ 13 ∷ [])
