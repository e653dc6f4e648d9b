-- The flags in a box.
use Rattle.std.specs.Prelude.{ℕ, zero, suc, ◌+◌, Bool, cond, ◌&&◌, List, leb, length, Result}
use Rattle.checks.specs.declared.Refusal.{Refusal}
use Rattle.checks.specs.Checks.{verdict, or_refused}
use Rattle.places.specs.declared.Place.{Place}
use Rattle.places.specs.Places.{place_of, flag_at}
use Rattle.places.specs.Checks.{count_checks}

-- how many of 0 to n − 1 the test holds at
unfoldable pub how_many : ℕ → (ℕ → Bool) → ℕ
how_many zero test = 0
how_many (suc n) test = how_many n test + cond (test n) 1 0

-- from the first corner's row and column to the last one's, both counted in
abbrev pub in_box : Place → Place → Place → Bool
in_box first last p =
    leb first.row p.row && leb p.row last.row && (leb first.column p.column && leb p.column last.column)

-- whether word i is a flag within the box
abbrev pub flag_within : List ℕ → ℕ → Place → Place → ℕ → Bool
flag_within words width first last i = flag_at words i && in_box first last (place_of width i)

-- how many there are, or a refusal
unfoldable pub count_of : List ℕ → ℕ → ℕ → Place → Place → Result ℕ Refusal
count_of words width height first last =
    or_refused (verdict (count_checks words width height first last)) (how_many (length words) (flag_within words width first last))
