-- The bits of two numbers together are at least each of them.
use Prim.Native.Nat.{ℕ, ◌≤◌}
use native.Mathlib.Omega.{arith}
use lib.Bits.{bit_or, or_add_and, and_le_l, and_le_r}

pub or_above : (a b : ℕ) → (a ≤ bit_or a b) × (b ≤ bit_or a b)
or_above a b = omega (arith, or_add_and a b, and_le_l a b, and_le_r a b)
