-- The sides that Open takes.
use Rattle.std.specs.Prelude.{ℕ, ◌*◌, ◌%◌, Bool, cond, not, ◌&&◌, leb, eqb}

-- the longest side
abbrev pub max_side : ℕ
max_side = 1024

-- the most pixels of a board: 1,048,576
abbrev pub max_area : ℕ
max_area = max_side * max_side

-- a side is 1 to 1,024, and a binned board's is even
abbrev pub side_taken : Bool → ℕ → Bool
side_taken binned n = leb 1 n && leb n max_side && not (binned && eqb (n % 2) 1)

-- the sides of a board that Open takes
unfoldable pub sides_taken : ℕ → ℕ → Bool → Bool
sides_taken width height binned = side_taken binned width && side_taken binned height

-- n for sides that Open takes, and 0 for any other
abbrev pub of_sides : ℕ → ℕ → Bool → ℕ → ℕ
of_sides width height binned n = cond (sides_taken width height binned) n 0
