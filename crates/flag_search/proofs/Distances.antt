-- Squares grow.
use Prim.Native.Nat.{ℕ, suc, ◌*◌, ◌≤◌, ◌<◌}
use native.Mathlib.Nat.{mul-le-mul, suc-mul, mul-suc}
use native.Mathlib.Omega.{arith}
use Rattle.places.specs.Places.{squared}

pub squared_less : {a b : ℕ} → a < b → squared a < squared b
squared_less {a} {b} h = let l : suc a * suc a ≤ b * b = mul-le-mul h h in omega (arith, suc-mul a (suc a), mul-suc a a)
