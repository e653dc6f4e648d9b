-- A search for a place.
use Rattle.std.specs.Prelude.{ℕ, zero, suc, ◌+◌, Bool, cond, Option, Some, None}
use Rattle.std.specs.Option.{option_or}

-- the smallest place below n at which the test holds
unfoldable pub first_place : ℕ → (ℕ → Bool) → Option ℕ
first_place zero test = None
first_place (suc n) test = option_or (first_place n test) (cond (test n) (Some n) None)

-- a place of a part that starts at a, as a place of the whole
abbrev pub shifted : ℕ → Option ℕ → Option ℕ
shifted a (Some p) = Some (a + p)
shifted a None = None
