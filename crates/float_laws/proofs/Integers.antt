-- The whole numbers of 32 bits among the floats: each is told by the bits of its sum with 2^52 + 2^31, whose high half is always the same and whose low half counts from −2^31.
--     stood_for              the float of what a whole number's float stands for is that float
--     whole_back             a whole number is what its float stands for
--     whole_number           a whole number's float is a number
--     moved_number, moved_back_number      the sum of a number is a number, and so is the sum less 2^52 + 2^31 again
--     low_whole_is           what the low half of a whole number's bits counts is the number
--     test_is                the bits tell a whole number, and any test of it
use mathlib.Core.Bool.{Bool, true, false, beq, ◌&&◌, cond}
use mathlib.Core.Path.{◌≡◌, refl, sym, ap, ◌∙◌}
use Prim.Native.Nat.{ℕ, zero, suc, ◌+◌, ◌-◌, ◌*◌, ◌/◌, ◌%◌, ◌^◌, ◌<◌}
use native.Mathlib.Omega.{arith}
use lib.Dec.{ltb, eqb, le→leb, lt→ltb}
use lib.IntN.{ℤ, pos, negsuc, neg_ℤ, ◌+ℤ◌, ◌-ℤ◌, +ℤ-neg_ℤ_cancel}
use lib.Signed.{mag, nat_abs-le}
use lib.Ieee.{Float, nan, inf, fin, binary64, Format, of_int, of_bits, to_bits, in_float, in_signed, to_signed, add, sub, sum, round, units, odd, neg, fits, is_nan, low, emax, prec, up, down}
use lib.Ieee.Fits.{add-fits, sub-fits, round_is}
use lib.Ieee.Bits.{is_true, of_bits-to_bits}
use lib.Ieee.Casts.{to_signed_in}
use lib.Ieee.Back.{positive_back, negative_back, Float-back_signed}
use borrow.Author.Tests.{eq-eqb, eqb-true}
use Rattle.laws.proofs.Tests.{clash, cases}
use Rattle.laws.proofs.Ints.{dn, same}
use Rattle.laws.proofs.Ints.{sum as sum_of}
use Rattle.laws.proofs.Ints.{up as size_up}
use Rattle.float_laws.proofs.Whole.{added, subtracted}
use Rattle.float_laws.proofs.Bits.{shifted, bits_of}

pub stood_for : (x : Float) → fits binary64 x ≡ true → in_signed binary64 31 x ≡ true → of_int binary64 (to_signed 31 x) ≡ x
stood_for x f w = (Float-back_signed binary64 31 x (rw f tt) (rw w tt)).1

pub whole_back : (z : ℤ) → mag z < 2 ^ 31 → (in_signed binary64 31 (of_int binary64 z) ≡ true) × (to_signed 31 (of_int binary64 z) ≡ z)
unfolding in_float
whole_back (pos n) h =
    let b = positive_back binary64 31 n (le→leb n (2 ^ 53) (omega arith)) h in
    (is_true (in_signed binary64 31 (of_int binary64 (pos n))) b.0, b.1)
whole_back (negsuc n) h =
    let b = negative_back binary64 31 n (lt→ltb n (2 ^ 53) (omega arith)) h in
    (is_true (in_signed binary64 31 (of_int binary64 (negsuc n))) b.0, b.1)

pub whole_number : (x : Float) → in_signed binary64 31 x ≡ true → is_nan x ≡ false
unfolding in_signed is_nan
whole_number nan w = sym w
whole_number (inf s) w = refl
whole_number (fin s m e) w = refl

-- ---- no sum of numbers of which one is finite is no number

odd_number : (d : ℕ) (s : Bool) (q k l : ℕ) → is_nan (odd d s q k l) ≡ false
unfolding is_nan odd
odd_number d s zero k l = refl
odd_number d s (suc q) k l = refl

either_number : (t : Bool) (x y : Float) → is_nan x ≡ false → is_nan y ≡ false → is_nan (cond t x y) ≡ false
either_number true x y h k = h
either_number false x y h k = k

infinity_number : (s : Bool) → is_nan (inf s) ≡ false
unfolding is_nan
infinity_number s = refl

units_number : (f : Format) (s : Bool) (q k : ℕ) → is_nan (units f s q k) ≡ false
unfolding units
units_number f s q k =
    either_number (ltb (q * 2 ^ k) (2 ^ (low f + suc (emax f)))) (odd (suc (prec f)) s q k (low f)) (inf s) (odd_number (suc (prec f)) s q k (low f)) (infinity_number s)

round_number : (f : Format) (s : Bool) (a c : ℕ) → is_nan (round f s a c) ≡ false
round_number f s a c = ap is_nan (round_is f s a c) ∙ units_number f s _ _

sum_number : (f : Format) (s : Bool) (a : ℕ) (t : Bool) (b c : ℕ) → is_nan (sum f s a t b c) ≡ false
unfolding sum
sum_number f s a t b c =
    either_number (beq s t) (round f s (a + b) c) (cond (ltb a b) (round f t (b - a) c) (round f (s && ltb b a) (a - b) c)) (round_number f s (a + b) c)
    (either_number (ltb a b) (round f t (b - a) c) (round f (s && ltb b a) (a - b) c) (round_number f t (b - a) c) (round_number f (s && ltb b a) (a - b) c))

pub added_number : (f : Format) (x : Float) (t : Bool) (n : ℕ) (d : ℤ) → is_nan x ≡ false → is_nan (add f x (fin t n d)) ≡ false
unfolding add is_nan
added_number f nan t n d h = h
added_number f (inf s) t n d h = refl
added_number f (fin s m e) t n d h = sum_number f s (m * up e * down d) t (n * up d * down e) (down e * down d)

-- ---- the sum with 2^52 + 2^31

-- 2^52 + l less 2^52 + 2^31 has 32 bits
in_range : (z : ℤ) (l : ℕ) → size_up z + 2147483648 ≡ dn z + l → l < 2 ^ 32 → mag z < 2 ^ 31
in_range (pos n) l e h = omega arith
in_range (negsuc n) l e h = omega arith

abbrev pub middle : Float
middle = of_bits binary64 4841369601570766848

middle_is : middle ≡ of_int binary64 (pos 4503601774854144)
unfolding of_bits of_int
middle_is = refl

-- how far a whole number lies above −2^31
abbrev low_of : ℤ → ℕ
low_of (pos n) = 2147483648 + n
low_of (negsuc n) = 2147483648 - suc n

low_small : (z : ℤ) → mag z < 2 ^ 31 → low_of z < 2 ^ 32
low_small (pos n) h = omega arith
low_small (negsuc n) h = omega arith

sum_is : (z : ℤ) → mag z < 2 ^ 31 → z +ℤ pos 4503601774854144 ≡ pos (2 ^ 52 + low_of z)
sum_is (pos n) h = ap pos (omega arith)
sum_is (negsuc n) h = same (negsuc n +ℤ pos 4503601774854144) (pos (2 ^ 52 + low_of (negsuc n))) (omega (arith, sum_of (negsuc n) (pos 4503601774854144)))

low_is : (z : ℤ) → mag z < 2 ^ 31 → pos (low_of z) -ℤ pos 2147483648 ≡ z
low_is (pos n) h = same (pos (2147483648 + n) -ℤ pos 2147483648) (pos n) (omega (arith, sum_of (pos (2147483648 + n)) (neg_ℤ (pos 2147483648))))
low_is (negsuc n) h = same (pos (2147483648 - suc n) -ℤ pos 2147483648) (negsuc n) (omega (arith, sum_of (pos (2147483648 - suc n)) (neg_ℤ (pos 2147483648))))

module _ (x : Float) where
  abbrev pub moved : Float
  moved = add binary64 x middle

  abbrev pub moved_back : Float
  moved_back = sub binary64 moved middle

  abbrev pub high : ℕ
  high = to_bits binary64 moved / 4294967296

  -- what the low half counts
  abbrev pub low_whole : ℤ
  low_whole = pos (to_bits binary64 moved % 4294967296) -ℤ pos 2147483648

  pub moved_number : is_nan x ≡ false → is_nan moved ≡ false
  unfolding of_bits
  moved_number h = added_number binary64 x _ _ _ h

  pub moved_back_number : is_nan x ≡ false → is_nan moved_back ≡ false
  unfolding of_bits sub neg
  moved_back_number h = added_number binary64 moved _ _ _ (moved_number h)

  module _ (f : fits binary64 x ≡ true) where
    module _ (w : in_signed binary64 31 x ≡ true) where
      abbrev z : ℤ
      z = to_signed 31 x

      small : mag z < 2 ^ 31
      small = to_signed_in 31 x

      moved_is : moved ≡ of_int binary64 (z +ℤ pos 4503601774854144)
      moved_is =
          (λ i. add binary64 (sym (stood_for x f w) i) (middle_is i)) ∙ added binary64 z (pos 4503601774854144) (let h = nat_abs-le z small in omega arith) (omega arith)

      bits_are : to_bits binary64 moved ≡ 4841369599423283200 + low_of z
      bits_are =
          ap (λ (y : Float). to_bits binary64 y) (moved_is ∙ ap (λ (y : ℤ). of_int binary64 y) (sum_is z small)) ∙ bits_of (low_of z) (let h = low_small z small in omega arith)

      pub high_is : high ≡ 1127219200
      high_is = rw bits_are (let h = low_small z small in omega arith)

      pub low_whole_is : low_whole ≡ z
      low_whole_is =
          let h = low_small z small in
          let e : (4841369599423283200 + low_of z) % 4294967296 ≡ low_of z = omega arith in
          rw (bits_are, e) (low_is z small)

      pub comes_back : moved_back ≡ x
      comes_back =
          (λ i. sub binary64 (moved_is i) (middle_is i))
          ∙ subtracted binary64 (z +ℤ pos 4503601774854144) (pos 4503601774854144) (rw (sum_is z small) (let h = low_small z small in omega arith)) (omega arith)
          ∙ ap (λ (y : ℤ). of_int binary64 y) (+ℤ-neg_ℤ_cancel z (pos 4503601774854144))
          ∙ stood_for x f w

    pub whole_by_bits : high ≡ 1127219200 → to_bits binary64 moved_back ≡ to_bits binary64 x → in_signed binary64 31 x ≡ true
    whole_by_bits h e =
        let l = to_bits binary64 moved % 4294967296 in
        let bits : to_bits binary64 moved ≡ 4841369599423283200 + l = omega arith in
        let is : moved ≡ of_int binary64 (pos (2 ^ 52 + l)) =
        sym (of_bits-to_bits binary64 moved (add-fits binary64 x middle)) ∙ ap (λ (n : ℕ). of_bits binary64 n) bits ∙ shifted l (omega arith) in
        let d = pos (2 ^ 52 + l) -ℤ pos 4503601774854144 in
        let back : moved_back ≡ of_int binary64 d = (λ i. sub binary64 (is i) (middle_is i)) ∙ subtracted binary64 (pos (2 ^ 52 + l)) (pos 4503601774854144) (omega arith) (omega arith) in
        let same_float : x ≡ moved_back =
        sym (of_bits-to_bits binary64 x (rw f tt)) ∙ ap (λ (n : ℕ). of_bits binary64 n) (sym e) ∙ of_bits-to_bits binary64 moved_back (sub-fits binary64 moved middle) in
        ap (in_signed binary64 31) (same_float ∙ back)
        ∙ (whole_back d (in_range d l (omega (arith, sum_of (pos (2 ^ 52 + l)) (neg_ℤ (pos 4503601774854144)))) (omega arith))).0

    -- for any test of the whole number
    pub test_is : (test : ℤ → Bool)
        → (eqb high 1127219200 && eqb (to_bits binary64 moved_back) (to_bits binary64 x) && test low_whole) ≡ (in_signed binary64 31 x && test (to_signed 31 x))
    test_is test =
        cases (in_signed binary64 31 x)
        (λ w.
        let same_bits : to_bits binary64 moved_back ≡ to_bits binary64 x = ap (λ (y : Float). to_bits binary64 y) (comes_back w) in
        rw (w, eq-eqb high 1127219200 (high_is w), eq-eqb (to_bits binary64 moved_back) (to_bits binary64 x) same_bits, low_whole_is w) refl)
        (λ w.
        rw w
        (cases (eqb high 1127219200)
        (λ h.
        cases (eqb (to_bits binary64 moved_back) (to_bits binary64 x))
        (λ e. clash (sym (whole_by_bits (eqb-true high 1127219200 h) (eqb-true (to_bits binary64 moved_back) (to_bits binary64 x) e)) ∙ w))
        (λ e. rw (h, e) refl))
        (λ h. rw h refl)))
