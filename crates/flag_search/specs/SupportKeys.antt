-- What the search keeps. No rule of the product stands here.
use Rattle.std.specs.Prelude.{ℕ, ◌+◌, ◌*◌, ◌%◌, ◌≤◌, true, List, Option, Some, None, ⊤, ◌≡◌, min}
use Rattle.sides.specs.Sides.{max_area}
use Rattle.places.specs.declared.Place.{Place}
use Rattle.places.specs.Places.{flag_at}
use Rattle.places.specs.Finding.{distance_from}

-- a word's distance and then its index, as one number: a frame has `max_area` words at most
abbrev pub key_of : ℕ → Place → ℕ → ℕ
key_of width place i = distance_from width place i * max_area + i

-- the lower of two keys
abbrev pub lower : Option ℕ → Option ℕ → Option ℕ
lower None y = y
lower (Some x) None = Some x
lower (Some x) (Some y) = Some (min x y)

-- no key, or that of a flag
abbrev pub IsKey : List ℕ → ℕ → Place → Option ℕ → Type 0
IsKey words width place None = ⊤
IsKey words width place (Some x) = (flag_at words (x % max_area) ≡ true) × (x ≡ key_of width place (x % max_area))

-- there is a key, and it is at most n
abbrev pub AtMost : Option ℕ → ℕ → Type 0
AtMost None n = ⊥
AtMost (Some x) n = x ≤ n

-- no key, or that of a flag; and no flag among some words has a lower one
pub record Least (words : List ℕ) (width : ℕ) (place : Place) (among : ℕ → Type 0) (key : Option ℕ) : Type 0 where
  pub held : IsKey words width place key
  pub least : (j : ℕ) → among j → flag_at words j ≡ true → AtMost key (key_of width place j)
