-- The checks of an input, and the board that it opens.
use Rattle.std.specs.Prelude.{ℕ, ◌+◌, ◌*◌, ◌%◌, not, List, [], ◌∷◌, ltb, eqb}
use Rattle.checks.specs.declared.Reason.TheVariants.{BadSides, BadInput, TooManyPixels}
use Rattle.checks.specs.Checks.{Answer, when, verdict}
use Rattle.sides.specs.Sides.{sides_taken}
use Rattle.board.specs.Board.{Outcome}
use Rattle.board.specs.Open.{open_of}
use Rattle.jig_input.specs.Input.{width_of, height_of, binned_byte, is_binned, readings_at, max_pixels}

abbrev pub job_area : List ℕ → ℕ
job_area bytes = width_of bytes * height_of bytes

-- `total` is how many bytes the whole input has.
-- 17: under six bytes; a binned byte above 1; a record that runs past the end; or an odd number of bytes after it, so that the total and the place after the
-- record are one even, one odd. Then 1, as Open gives it. Then 18: more than 1,024 pixels
abbrev pub input_checks : List ℕ → ℕ → List Answer
input_checks bytes total =
    when (ltb total 6) BadInput
    ∷ when (ltb 1 (binned_byte bytes)) BadInput
    ∷ when (ltb total (readings_at bytes)) BadInput
    ∷ when (eqb ((total + readings_at bytes) % 2) 1) BadInput
    ∷ when (not (sides_taken (width_of bytes) (height_of bytes) (is_binned bytes))) BadSides
    ∷ when (ltb max_pixels (job_area bytes)) TooManyPixels
    ∷ []

-- what the checks answer, and the board that Open gives for the sides that are named
abbrev pub opened_by : List ℕ → ℕ → Outcome
opened_by bytes total = record { answer = verdict (input_checks bytes total); board = (open_of (width_of bytes) (height_of bytes) (is_binned bytes)).board }
