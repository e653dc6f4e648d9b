-- A sample's numbers as the machine holds them.
--     number, new_mark, weight      its number, its mark, its weight
use Prim.Native.Nat.{ℕ, ◌+◌, ◌≤◌}
use mathlib.Core.Bool.{true}
use mathlib.Core.Path.{◌≡◌}
use native.Mathlib.Omega.{arith}
use lib.IntN.{ℤ, pos, neg_ℤ}
use lib.Signed.{le_z}
use mir.Syntax.{w32}
use mir.Val.{SFits, to_z, of_z}
use mir.Facts.{to_z-of_z}
use Rattle.laws.proofs.Tests.{and_true}
use Rattle.laws.proofs.Ints.{fits, signed, to_z_nat}
use Rattle.settings.specs.Settings.{max_weight, weight_in_range}

pub number : (n : ℕ) → n ≤ 9 → to_z w32 n ≡ pos n
number n h = to_z_nat w32 n (omega arith)

pub new_mark : (n : ℕ) → n ≤ 9 → SFits w32 (pos (1073741824 + n))
new_mark n h = record { sfits = omega arith }

pub weight : (w : ℤ) → weight_in_range w ≡ true → to_z w32 (of_z w32 w) ≡ w
weight w h =
    let t = and_true (le_z (neg_ℤ (pos max_weight)) w) (le_z w (pos max_weight)) h in
    to_z-of_z (fits w32 w (omega signed))
