-- ℤ for `omega`: each integer z is read as the difference of two naturals, `up z - dn z`, of which one is 0. A sum, a test and a range of integers
-- are then linear facts about `up` and `dn`, which `omega` reads as unknowns.
--     sum, neg_up, neg_dn, times_up               the parts of a sum, a negation and a product with a natural
--     le_true .. lt_false                         what a test of order says; is_le, not_le, is_lt the test's value from the fact
--     signed                                      `omega`'s list with the tests of order: `omega signed`, `omega (signed, sum a b)`
--     fits, fitted, whole                         from a range to `SFits`, and back; a number that isn't negative
--     back, to_z_nat                               a number as the machine holds it
--     same                                        equal differences, equal integers
use mathlib.Core.Path.{◌≡◌, refl, sym, ap, ◌∙◌}
use mathlib.Core.Bool.{Bool, true, false, cond}
use Prim.Native.Nat.{ℕ, zero, suc, ◌+◌, ◌-◌, ◌*◌, ◌<◌, ◌≤◌, ◌^◌}
use native.Mathlib.Omega.{arith}
use native.Mathlib.Nat.{zero-mul}
use lib.Dec.{T, ltb}
use lib.IntN.{ℤ, pos, negsuc, neg_ℤ, nat_abs, sub_ℕ, ◌+ℤ◌, ◌*ℤ◌}
use lib.Signed.{mag, non_neg, lt_z, le_z}
use mir.Syntax.{Width}
use mir.Val.{Fits, SFits, bits, hbits, to_z, of_z}
use mir.Facts.{to_z-of_z}
use Rattle.laws.proofs.Tests.{clash, is_true}
use borrow.Author.Tests.{ltb-true, ltb-false, leb-true, leb-false, le-leb, lt-leb, lt-ltb}

abbrev pub up : ℤ → ℕ
up (pos n) = n
up (negsuc n) = 0

abbrev pub dn : ℤ → ℕ
dn (pos n) = 0
dn (negsuc n) = suc n

-- ---- sums and products

diff : (a b : ℕ) → up (sub_ℕ a b) + b ≡ dn (sub_ℕ a b) + a
diff a b = by (ltb a b) refl
  where
    by : (t : Bool) → ltb a b ≡ t → up (cond t (negsuc (b - suc a)) (pos (a - b))) + b ≡ dn (cond t (negsuc (b - suc a)) (pos (a - b))) + a
    by true e = omega (arith, ltb-true)
    by false e = omega (arith, ltb-false)

pub sum : (a b : ℤ) → up (a +ℤ b) + (dn a + dn b) ≡ dn (a +ℤ b) + (up a + up b)
sum (pos a) (pos b) = omega arith
sum (pos a) (negsuc b) = omega (arith, diff a (suc b))
sum (negsuc a) (pos b) = omega (arith, diff b (suc a))
sum (negsuc a) (negsuc b) = omega arith

pub neg_up : (a : ℤ) → up (neg_ℤ a) ≡ dn a
neg_up (pos zero) = refl
neg_up (pos (suc a)) = refl
neg_up (negsuc a) = refl

pub neg_dn : (a : ℤ) → dn (neg_ℤ a) ≡ up a
neg_dn (pos zero) = refl
neg_dn (pos (suc a)) = refl
neg_dn (negsuc a) = refl

pub times_up : (a : ℤ) (n : ℕ) → up (a *ℤ pos n) ≡ up a * n
times_up (pos a) n = refl
times_up (negsuc a) n = neg_up (pos (suc a * n)) ∙ sym (zero-mul n)

-- ---- tests

pub le_true : (a b : ℤ) → le_z a b ≡ true → up a + dn b ≤ up b + dn a
le_true (pos a) (pos b) e = omega (arith, leb-true)
le_true (pos a) (negsuc b) e = clash (sym e)
le_true (negsuc a) (pos b) e = omega arith
le_true (negsuc a) (negsuc b) e = omega (arith, leb-true)

pub le_false : (a b : ℤ) → le_z a b ≡ false → up b + dn a < up a + dn b
le_false (pos a) (pos b) e = omega (arith, leb-false)
le_false (pos a) (negsuc b) e = omega arith
le_false (negsuc a) (pos b) e = clash e
le_false (negsuc a) (negsuc b) e = omega (arith, leb-false)

pub lt_true : (a b : ℤ) → lt_z a b ≡ true → up a + dn b < up b + dn a
lt_true (pos a) (pos b) e = omega (arith, ltb-true)
lt_true (pos a) (negsuc b) e = clash (sym e)
lt_true (negsuc a) (pos b) e = omega arith
lt_true (negsuc a) (negsuc b) e = omega (arith, ltb-true)

pub lt_false : (a b : ℤ) → lt_z a b ≡ false → up b + dn a ≤ up a + dn b
lt_false (pos a) (pos b) e = omega (arith, ltb-false)
lt_false (pos a) (negsuc b) e = omega arith
lt_false (negsuc a) (pos b) e = clash e
lt_false (negsuc a) (negsuc b) e = omega (arith, ltb-false)

-- the test's value from the fact
pub is_le : (a b : ℤ) → up a + dn b ≤ up b + dn a → le_z a b ≡ true
is_le (pos a) (pos b) h = le-leb a b (omega arith)
is_le (pos a) (negsuc b) h = absurd (omega arith)
is_le (negsuc a) (pos b) h = refl
is_le (negsuc a) (negsuc b) h = le-leb b a (omega arith)

pub not_le : (a b : ℤ) → up b + dn a < up a + dn b → le_z a b ≡ false
not_le (pos a) (pos b) h = lt-leb a b (omega arith)
not_le (pos a) (negsuc b) h = refl
not_le (negsuc a) (pos b) h = absurd (omega arith)
not_le (negsuc a) (negsuc b) h = lt-leb b a (omega arith)

pub is_lt : (a b : ℤ) → up a + dn b < up b + dn a → lt_z a b ≡ true
is_lt (pos a) (pos b) h = lt-ltb a b (omega arith)
is_lt (pos a) (negsuc b) h = absurd (omega arith)
is_lt (negsuc a) (pos b) h = refl
is_lt (negsuc a) (negsuc b) h = lt-ltb b a (omega arith)

-- as a rule in `omega`'s list, which reads a record by its field
pub le_yes : (a b : ℤ) → T (le_z a b) → up a + dn b ≤ up b + dn a
le_yes a b h = le_true a b (is_true (le_z a b) h)

pub yes_le : (a b : ℤ) → up a + dn b ≤ up b + dn a → T (le_z a b)
yes_le a b h = rw (is_le a b h) tt

pub ruleset signed = (arith, le_true, le_false, lt_true, lt_false, le_yes, yes_le)

-- ---- ranges

pub fits : (w : Width) (z : ℤ) → (up z < dn z + 2 ^ hbits w) × (dn z ≤ up z + 2 ^ hbits w) → SFits w z
fits w (pos n) h = record { sfits = omega arith }
fits w (negsuc n) h = record { sfits = omega arith }

pub fitted : (w : Width) (z : ℤ) → SFits w z → (up z < 2 ^ hbits w) × (dn z ≤ 2 ^ hbits w)
fitted w (pos n) h = omega arith
fitted w (negsuc n) h = omega arith

-- a number that isn't negative, for a cast to an unsigned type
pub whole : (w : Width) (z : ℤ) → (dn z ≤ up z) × (up z < dn z + 2 ^ bits w) → T (non_neg z) × Fits w (nat_abs z)
whole w (pos n) h = (tt, record { fits = omega arith })
whole w (negsuc n) h = absurd (omega arith)

-- what a read of an element (`.given`) and a call's result (`.ok`) give, as the equation that is wanted of it
pub back : (w : Width) (z : ℤ) → mag z < 2 ^ hbits w → to_z w (of_z w z) ≡ z
back w z h = to_z-of_z (record { sfits = h })

-- a natural that was cast to a signed type, as a local holds it
pub to_z_nat : (w : Width) (n : ℕ) → n < 2 ^ hbits w → to_z w n ≡ pos n
to_z_nat w n h = to_z-of_z {w = w} {z = pos n} (record { sfits = h })

pub same : (a b : ℤ) → up a + dn b ≡ up b + dn a → a ≡ b
same (pos a) (pos b) e = ap pos (omega arith)
same (pos a) (negsuc b) e = absurd (omega arith)
same (negsuc a) (pos b) e = absurd (omega arith)
same (negsuc a) (negsuc b) e = ap negsuc (omega arith)
