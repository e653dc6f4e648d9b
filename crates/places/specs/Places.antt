-- The places of a frame of words, by row and column, and their flags.
use Rattle.std.specs.Prelude.{ℕ, ◌+◌, ◌-◌, ◌*◌, ◌/◌, ◌%◌, Bool, ◌&&◌, List, ltb, get_or}
use Rattle.meaning.specs.Meaning.{is_flag}
use Rattle.places.specs.declared.Place.{Place}

abbrev pub place_at : ℕ → ℕ → Place
place_at row column = record { row = row; column = column }

-- the place of word i, row by row
abbrev pub place_of : ℕ → ℕ → Place
place_of width i = place_at (i / width) (i % width)

-- and back
abbrev pub index_of : ℕ → Place → ℕ
index_of width p = p.row * width + p.column

abbrev pub is_inside : ℕ → ℕ → Place → Bool
is_inside width height p = ltb p.row height && ltb p.column width

-- whether word i is a flag; past the end there is none
abbrev pub flag_at : List ℕ → ℕ → Bool
flag_at words i = is_flag (get_or words i 0)

-- how far apart two numbers are: a difference that would be below 0 is 0
abbrev pub apart : ℕ → ℕ → ℕ
apart a b = a - b + (b - a)

abbrev pub squared : ℕ → ℕ
squared n = n * n

-- in rows and columns
abbrev pub squared_distance : Place → Place → ℕ
squared_distance p q = squared (apart p.row q.row) + squared (apart p.column q.column)
