-- Weights as the machine holds them.
--     positive_cast .. positive_small   the positive part of a weight
--     weight_at_lem                     the weight of a sample, counted from 1
use Prim.Native.Nat.{ℕ, zero, suc, ◌-◌, ◌<◌, ◌^◌}
use mathlib.Core.Bool.{true, false}
use mathlib.Core.Path.{◌≡◌, refl, sym}
use native.Mathlib.Omega.{arith}
use borrow.Author.Tests.{ltb-false}
use lib.Dec.{T}
use lib.IntN.{ℤ, pos, negsuc, nat_abs}
use lib.ListN.{get_or}
use lib.Signed.{mag, lt_z, non_neg}
use mir.Syntax.{w32, w64}
use mir.Val.{Fits, SFits}
use Rattle.laws.proofs.Tests.{clash}
use Rattle.settings.specs.declared.Settings.{Settings}
use Rattle.settings.specs.Settings.{weight_at}
use Rattle.settings.specs.Covered.{positive_part}

-- a positive weight isn't negative, and its size fits 64 bits
pub positive_cast : (z : ℤ) → SFits w32 z → lt_z (pos 0) z ≡ true → T (non_neg z) × Fits w64 (nat_abs z)
positive_cast (pos n) f e = (tt, record { fits = omega (arith, f.sfits) })
positive_cast (negsuc n) f e = clash (sym e)

-- the positive part of a positive weight is its size, and of any other 0
pub positive_is : (z : ℤ) → lt_z (pos 0) z ≡ true → nat_abs z ≡ positive_part z
positive_is (pos n) e = refl
positive_is (negsuc n) e = clash (sym e)

pub positive_not : (z : ℤ) → lt_z (pos 0) z ≡ false → 0 ≡ positive_part z
positive_not (pos n) e = omega (arith, ltb-false 0 n e)
positive_not (negsuc n) e = refl

-- the positive part of a 32-bit weight is below 2^31
pub positive_small : (z : ℤ) → mag z < 2 ^ 31 → positive_part z < 2 ^ 31
positive_small (pos n) h = h
positive_small (negsuc n) h = omega arith

-- weight n stands at place n - 1
pub weight_at_lem : (s : Settings) (n : ℕ) → (n ≡ 0 → ⊥) → weight_at s n ≡ get_or s.weights (n - 1) (pos 0)
weight_at_lem s zero h = absurd (h refl)
weight_at_lem s (suc n) h = let e : suc n - 1 ≡ n = omega arith in rw e
