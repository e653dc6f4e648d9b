-- The magnitude of a weight byte and its negation, as the machine holds them.
use Prim.Native.Nat.{ℕ, zero, suc, ◌<◌, ◌%◌}
use mathlib.Core.Path.{◌≡◌}
use native.Mathlib.Omega.{arith}
use lib.Bits.{bit_and, and_mask}
use lib.IntN.{pos, neg_ℤ, ◌-ℤ◌, +ℤ_idl}
use lib.Signed.{mag}
use mir.Syntax.{w32}
use mir.Val.{to_z, of_z, SFits}
use Rattle.laws.proofs.Ints.{to_z_nat, back}

pub read_size : (b : ℕ) → to_z w32 (bit_and b 15) ≡ pos (b % 16)
read_size b = rw (and_mask b 4) (to_z_nat w32 (b % 16) (omega arith))

mag_neg : (n : ℕ) → n < 16 → mag (neg_ℤ (pos n)) < 16
mag_neg zero h = h
mag_neg (suc n) h = omega arith

pub neg_fits : (b : ℕ) → SFits w32 (pos 0 -ℤ to_z w32 (bit_and b 15))
neg_fits b = rw (read_size b, +ℤ_idl) (record { sfits = omega (arith, mag_neg (b % 16) (omega arith)) })

pub neg_read : (b : ℕ) → to_z w32 (of_z w32 (pos 0 -ℤ to_z w32 (bit_and b 15))) ≡ neg_ℤ (pos (b % 16))
neg_read b = rw (back w32 _ (neg_fits b).sfits, read_size b, +ℤ_idl)
