-- How far a row has no flag. No rule of the product stands here.
use Rattle.std.specs.Prelude.{ℕ, ◌≤◌, true, List, ◌≡◌}
use Rattle.places.specs.Places.{flag_at, apart}

-- no flag of a row is nearer to a column
abbrev pub ClearTo : List ℕ → ℕ → ℕ → Type 0
ClearTo row column near = (c : ℕ) → flag_at row c ≡ true → near ≤ apart column c
