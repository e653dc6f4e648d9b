-- Entries that are surely possible. No rule of the product stands here: it is a quicker test, and where it fails the rule itself is asked.
use Rattle.std.specs.Prelude.{ℕ, Bool, cond, ◌&&◌, ltb, ℤ, pos, ◌+ℤ◌, ◌-ℤ◌, ◌≤ℤ◌}
use Rattle.std.specs.Int.Signed.{le_z, lt_z}
use Rattle.entries.specs.Mark.{marked}

-- an entry counted from `near` below 0, with marks moved down by a gap
abbrev pub moved : ℤ → ℤ → ℤ → ℤ
moved gap near e = cond (marked e) (e -ℤ gap) e +ℤ near

-- within the first 2 × near numbers
unfoldable pub is_near : ℤ → ℤ → ℤ → Bool
is_near gap near e = le_z (pos 0) (moved gap near e) && lt_z (moved gap near e) (near +ℤ near)

-- what a moved entry fits 32 bits with
abbrev pub Fitting : ℤ → ℤ → Type 0
Fitting gap near = (pos 0 ≤ℤ near) × (near ≤ℤ pos 1048576) × (near ≤ℤ gap) × (gap ≤ℤ pos 1073741825)

-- how far from 0 a sum is near after k samples
abbrev pub nearness : ℕ → ℕ
nearness k = cond (ltb k 5) 131072 1048576
