-- weight × reading, by the sign and the magnitude of the weight.
--     magnitude_le          the bound of a magnitude
--     size_le               the bound of magnitude × reading
--     product               the bound of the product
use Prim.Native.Nat.{ℕ, suc, ◌*◌, ◌≤◌, zero-le}
use mathlib.Core.Bool.{true}
use mathlib.Core.Path.{◌≡◌}
use native.Mathlib.Nat.{mul-le-mul}
use borrow.Author.Tests.{leb-true}
use lib.IntN.{ℤ, pos, negsuc, neg_ℤ, nat_abs, ◌*ℤ◌}
use lib.Signed.{le_z}
use Rattle.laws.proofs.Tests.{and_true}
use Rattle.laws.proofs.Ints.{up, dn, neg_up, neg_dn, signed}
use Rattle.settings.specs.Settings.{weight_in_range}
use Rattle.readings.specs.Readings.{max_reading, reading_in_range}
use Rattle.entries.specs.Possible.{max_product}

pub magnitude_le : (w : ℤ) → weight_in_range w ≡ true → nat_abs w ≤ 15
magnitude_le (pos a) p = leb-true a 15 p
magnitude_le (negsuc a) p =
    let h = and_true (le_z (neg_ℤ (pos 15)) (negsuc a)) (le_z (negsuc a) (pos 15)) p in
    omega signed

pub size_le : (w : ℤ) (x : ℕ) → weight_in_range w ≡ true → reading_in_range x ≡ true → nat_abs w * x ≤ max_product
size_le w x p q = mul-le-mul (magnitude_le w p) (leb-true x max_reading q)

pub product : (w : ℤ) (x : ℕ) → weight_in_range w ≡ true → reading_in_range x ≡ true → (up (w *ℤ pos x) ≤ max_product) × (dn (w *ℤ pos x) ≤ max_product)
product (pos a) x p q = (size_le (pos a) x p q, zero-le)
product (negsuc a) x p q = rw (neg_up (pos (suc a * x)), neg_dn (pos (suc a * x))) (zero-le, size_le (negsuc a) x p q)
