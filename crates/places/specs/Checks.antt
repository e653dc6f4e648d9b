-- The checks of both operations.
use Rattle.std.specs.Prelude.{ℕ, ◌*◌, Bool, false, not, ◌&&◌, List, [], ◌∷◌, leb, eqb, length}
use Rattle.checks.specs.declared.Reason.TheVariants.{WordsLength, OutsideFrame}
use Rattle.checks.specs.Checks.{Answer, when}
use Rattle.sides.specs.Sides.{sides_taken}
use Rattle.places.specs.declared.Place.{Place}
use Rattle.places.specs.Places.{is_inside}

-- 19: a side is 0 or above 1,024; an odd one is fine. 16: the words aren't width × height. Then the last check
abbrev pub frame_checks : List ℕ → ℕ → ℕ → Answer → List Answer
frame_checks words width height last =
    when (not (sides_taken width height false)) OutsideFrame ∷ when (not (eqb (length words) (width * height))) WordsLength ∷ last ∷ []

-- 19: the place is outside the frame
abbrev pub nearest_checks : List ℕ → ℕ → ℕ → Place → List Answer
nearest_checks words width height place = frame_checks words width height (when (not (is_inside width height place)) OutsideFrame)

-- a box: both corners are inside the frame, and the first isn't past the last in row or column
abbrev pub is_box : ℕ → ℕ → Place → Place → Bool
is_box width height first last =
    is_inside width height first && is_inside width height last && (leb first.row last.row && leb first.column last.column)

-- 19: the corners make no box of the frame
abbrev pub count_checks : List ℕ → ℕ → ℕ → Place → Place → List Answer
count_checks words width height first last = frame_checks words width height (when (not (is_box width height first last)) OutsideFrame)
