-- Floats by their bits: how code gets a number's float, and compares two, without a cast or a comparison of floats, which the compiler makes no vector code of.
--     number                a float that is a whole number's is one
--     shifted               from the bits of 2^52 on, the next bits are those of the next whole numbers
--     below                 a is below b where the difference has the sign
--     raised_below          so too of numbers that are 2^52 more
--     raised_back           and the difference to 2^52 is the number's float
use mathlib.Core.Bool.{Bool, false}
use mathlib.Core.Path.{◌≡◌, refl, sym, ap, ◌∙◌}
use Prim.Native.Nat.{ℕ, ◌+◌, ◌*◌, ◌/◌, ◌%◌, ◌^◌, ◌≤◌, ◌<◌}
use native.Mathlib.Nat.{mul-one, mul_right_comm, eq_of_mul-eq-mul_right}
use native.Mathlib.Omega.{arith}
use borrow.Author.Tests.{lt-leb, lt-ltb, le-ltb, ltb-true, ltb-false}
use lib.Dec.{leb, ltb}
use lib.Pow.{pow_pos}
use lib.IntN.{ℤ, pos, negsuc, neg_ℤ, nat_abs, ◌-ℤ◌, +ℤ_comm, +ℤ-neg_ℤ_cancel}
use lib.Signed.{lt_z}
use lib.Ieee.{Float, nan, inf, fin, binary64, up, down, of_int, of_bits, to_bits, of_fields, odd, sub, is_nan, nan_bits}
use lib.Ieee.Fits.{of_int-fits}
use lib.Ieee.Bits.{of_bits-fits, nan_bits_is, to_bits-of_bits}
use lib.Ieee.Exact.{HasValue, odd_sign}
use lib.Ieee.Back.{whole_unique}
use Rattle.std.specs.Float.{is_sign_negative}
use Rattle.laws.proofs.Ints.{dn, sum, neg_up, neg_dn, is_lt, lt_true}
use Rattle.laws.proofs.Ints.{up as size_up}
use Rattle.laws.proofs.Tests.{cases}
use Rattle.float_laws.proofs.Whole.{is_negative, Held, value, subtracted}

-- ---- what a value says

finite : (x : Float) (s : Bool) (a c : ℕ) → HasValue x s a c → is_nan x ≡ false
unfolding is_nan
finite nan s a c v = absurd v
finite (inf t) s a c v = refl
finite (fin t m e) s a c v = refl

signed : (x : Float) (s : Bool) (a c : ℕ) → HasValue x s a c → is_sign_negative x ≡ s
unfolding is_sign_negative
signed nan s a c v = absurd v
signed (inf t) s a c v = absurd v
signed (fin t m e) s a c v = v.0

cancelled : (x : Float) (s : Bool) (q p : ℕ) → 0 < p → HasValue x s (q * p) p → HasValue x s q 1
cancelled nan s q p h v = absurd v
cancelled (inf t) s q p h v = absurd v
cancelled (fin t m e) s q p h v =
    (v.0, eq_of_mul-eq-mul_right p h (m * up e * 1) (q * down e) (ap (λ (n : ℕ). n * p) (mul-one (m * up e)) ∙ v.1 ∙ mul_right_comm q p (down e)))

pub number : (z : ℤ) → Held binary64 z → is_nan (of_int binary64 z) ≡ false
number z h = finite (of_int binary64 z) (is_negative z) (nat_abs z) 1 (value binary64 z h)

-- ---- bits

module _ (n : ℕ) (small : n < 2 ^ 52) where
  abbrev pub bits : ℕ
  bits = 4841369599423283200 + n

  fields : of_bits binary64 bits ≡ odd 53 false (2 ^ 52 + n) 1074 1074
  unfolding of_bits of_fields
  fields =
      let sign : leb 9223372036854775808 bits ≡ false = lt-leb 9223372036854775808 bits (omega arith) in
      let exponent : bits % 9223372036854775808 / 4503599627370496 ≡ 1075 = omega arith in
      let digits : bits % 4503599627370496 ≡ n = omega arith in
      λ i. of_fields binary64 (sign i) (exponent i) (digits i)

  pub shifted : of_bits binary64 bits ≡ of_int binary64 (pos (2 ^ 52 + n))
  shifted =
      let own = cancelled (odd 53 false (2 ^ 52 + n) 1074 1074) false (2 ^ 52 + n) (2 ^ 1074) (pow_pos 1074) (odd_sign 53 false (2 ^ 52 + n) 1074 1074) in
      whole_unique binary64 (of_bits binary64 bits) (of_int binary64 (pos (2 ^ 52 + n))) false (2 ^ 52 + n)
      (of_bits-fits binary64 bits)
      (of_int-fits binary64 (pos (2 ^ 52 + n)))
      (rw fields own)
      (value binary64 (pos (2 ^ 52 + n)) (omega arith))

  pub bits_of : to_bits binary64 (of_int binary64 (pos (2 ^ 52 + n))) ≡ bits
  bits_of =
      ap (λ (x : Float). to_bits binary64 x) (sym shifted)
      ∙ to_bits-of_bits binary64 bits (omega arith) (rw (shifted, number (pos (2 ^ 52 + n)) (omega arith)) tt)

  pub bits_number : nan_bits binary64 bits ≡ false
  bits_number = nan_bits_is binary64 bits ∙ ap is_nan shifted ∙ number (pos (2 ^ 52 + n)) (omega arith)

-- ---- comparisons by a sign

sign_is_below : (a b : ℤ) → is_negative (a -ℤ b) ≡ lt_z a b
sign_is_below a b = by (a -ℤ b) (omega (arith, sum a (neg_ℤ b), neg_up b, neg_dn b))
  where
    by : (z : ℤ) → size_up z + (dn a + size_up b) ≡ dn z + (size_up a + dn b) → is_negative z ≡ lt_z a b
    by (pos n) h = cases (lt_z a b) (λ t. absurd (omega (arith, lt_true a b t))) (λ t. sym t)
    by (negsuc n) h = sym (is_lt a b (omega arith))

parts : (z : ℤ) → size_up z + dn z ≡ nat_abs z
parts (pos n) = omega arith
parts (negsuc n) = omega arith

module _ (a b : ℤ) (h : nat_abs a ≤ 2 ^ 53) (k : nat_abs b ≤ 2 ^ 53) (held : nat_abs (a -ℤ b) ≤ 2 ^ 53) where
  pub difference_number : is_nan (sub binary64 (of_int binary64 a) (of_int binary64 b)) ≡ false
  difference_number = ap is_nan (subtracted binary64 a b h k) ∙ number (a -ℤ b) held

  pub below : is_sign_negative (sub binary64 (of_int binary64 a) (of_int binary64 b)) ≡ lt_z a b
  below =
      ap is_sign_negative (subtracted binary64 a b h k)
      ∙ signed (of_int binary64 (a -ℤ b)) (is_negative (a -ℤ b)) (nat_abs (a -ℤ b)) 1 (value binary64 (a -ℤ b) held)
      ∙ sign_is_below a b

pub difference_held : (a b : ℤ) → nat_abs a ≤ 2 ^ 52 → nat_abs b ≤ 2 ^ 52 → nat_abs (a -ℤ b) ≤ 2 ^ 53
difference_held a b h k = by (a -ℤ b) (omega (arith, sum a (neg_ℤ b), neg_up b, neg_dn b))
  where
    by : (z : ℤ) → size_up z + (dn a + size_up b) ≡ dn z + (size_up a + dn b) → nat_abs z ≤ 2 ^ 53
    by (pos n) e = omega (arith, parts a, parts b)
    by (negsuc n) e = omega (arith, parts a, parts b)

-- ---- numbers that are 2^52 more

module _ (m n : ℕ) (h : m < 2 ^ 52) (k : n < 2 ^ 52) where
  held : nat_abs (pos (2 ^ 52 + m) -ℤ pos (2 ^ 52 + n)) ≤ 2 ^ 53
  held = by (pos (2 ^ 52 + m) -ℤ pos (2 ^ 52 + n)) (omega (arith, sum (pos (2 ^ 52 + m)) (neg_ℤ (pos (2 ^ 52 + n))), neg_up (pos (2 ^ 52 + n)), neg_dn (pos (2 ^ 52 + n))))
    where
      by : (z : ℤ) → size_up z + (2 ^ 52 + n) ≡ dn z + (2 ^ 52 + m) → nat_abs z ≤ 2 ^ 53
      by (pos d) e = omega arith
      by (negsuc d) e = omega arith

  pub raised_number : is_nan (sub binary64 (of_int binary64 (pos (2 ^ 52 + m))) (of_int binary64 (pos (2 ^ 52 + n)))) ≡ false
  raised_number = difference_number (pos (2 ^ 52 + m)) (pos (2 ^ 52 + n)) (omega arith) (omega arith) held

  pub raised_below : is_sign_negative (sub binary64 (of_int binary64 (pos (2 ^ 52 + m))) (of_int binary64 (pos (2 ^ 52 + n)))) ≡ ltb m n
  raised_below =
      below (pos (2 ^ 52 + m)) (pos (2 ^ 52 + n)) (omega arith) (omega arith) held
      ∙ cases (ltb m n)
      (λ t. lt-ltb (2 ^ 52 + m) (2 ^ 52 + n) (omega (arith, ltb-true m n t)) ∙ sym t)
      (λ t. le-ltb (2 ^ 52 + m) (2 ^ 52 + n) (omega (arith, ltb-false m n t)) ∙ sym t)

pub raised_back : (n : ℕ) → n < 2 ^ 52 → sub binary64 (of_int binary64 (pos (2 ^ 52 + n))) (of_int binary64 (pos (2 ^ 52))) ≡ of_int binary64 (pos n)
raised_back n h =
    subtracted binary64 (pos (2 ^ 52 + n)) (pos (2 ^ 52)) (omega arith) (omega arith)
    ∙ ap (λ (z : ℤ). of_int binary64 z) (ap (λ (z : ℤ). z -ℤ pos (2 ^ 52)) (+ℤ_comm (pos (2 ^ 52)) (pos n)) ∙ +ℤ-neg_ℤ_cancel (pos n) (pos (2 ^ 52)))
