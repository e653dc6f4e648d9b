-- Laws of the naturals.
--     less            a difference, as an integer
--     quarter         a product of two even numbers
--     quotient, rest  of a multiple and a smaller number
--     room            one multiple more
use Prim.Native.Nat.{ℕ, ◌+◌, ◌-◌, ◌*◌, ◌/◌, ◌%◌, ◌≤◌, ◌<◌}
use mathlib.Core.Path.{◌≡◌, ◌∙◌}
use native.Mathlib.Nat.{suc-mul, mul-le-mul_right, mul_assoc, mul_left_comm, mul_comm, mul-add-div_right, mul-add-mod_self_right, div-eq_of_lt, mod-eq_of_lt}
use native.Mathlib.Omega.{arith}
use lib.IntN.{pos, neg_ℤ, ◌-ℤ◌}
use Rattle.laws.proofs.Ints.{sum, neg_up, neg_dn, same}

pub less : (a b : ℕ) → b ≤ a → pos a -ℤ pos b ≡ pos (a - b)
less a b h = same (pos a -ℤ pos b) (pos (a - b)) (omega (arith, sum (pos a) (neg_ℤ (pos b)), neg_up (pos b), neg_dn (pos b)))

pub quarter : (a b : ℕ) → 2 * a * (2 * b) ≡ 4 * (b * a)
quarter a b = rw (mul_assoc 2 a (2 * b), mul_left_comm a 2 b, mul_comm a b) (omega arith)

pub room : (k n m : ℕ) → k < n → k * m + m ≤ n * m
room k n m h = rw (suc-mul k m) at (mul-le-mul_right m h)

module _ (m k i : ℕ) (h : i < m) where
  pub quotient : (k * m + i) / m ≡ k
  quotient = omega (arith, mul-add-div_right {m = m} (omega arith) k i, div-eq_of_lt h)

  pub rest : (k * m + i) % m ≡ i
  rest = mul-add-mod_self_right k m i ∙ mod-eq_of_lt h
