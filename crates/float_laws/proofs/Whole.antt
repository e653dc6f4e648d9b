-- Arithmetic of floats on whole numbers is that of the whole numbers, up to 2 ^ prec in size.
-- A product of 0 and a negative number is -0, which is the float of no whole number; its sum with the float of one is right again. So a product is stated with
-- its sign and size, and `product_added` states the two operations together, where no -0 is left.
--     is_negative, with_sign         a whole number's sign, and the whole number of a sign and a size
--     value                          the value of a whole number's float
--     product_added                  w × x + e
--     added, subtracted              a + b, a − b
use mathlib.Core.Path.{◌≡◌, refl, sym, ap, ◌∙◌}
use mathlib.Core.Bool.{Bool, true, false, not, ◌&&◌, beq, cond}
use Prim.Native.Nat.{ℕ, zero, suc, ◌+◌, ◌-◌, ◌*◌, ◌^◌, ◌≤◌, ◌<◌, zero-le}
use native.Mathlib.Nat.{mul-pos, mul-one, mul_comm, mul_assoc, mul_left_comm, zero-lt-suc, add-mul, mul-sub, mul-lt-mul_of_pos_right, mul-le-mul_right}
use native.Mathlib.Omega.{arith}
use lib.Dec.{ltb}
use lib.IntN.{ℤ, pos, negsuc, neg_ℤ, nat_abs, sub_ℕ, ◌+ℤ◌, ◌-ℤ◌, ◌*ℤ◌, +ℤ_comm}
use lib.Ieee.{Float, nan, inf, fin, Format, prec, up, down, unlike, round, of_int, neg, sum, add, sub, mul}
use lib.Ieee.Fits.{down_pos}
use lib.Ieee.Exact.{HasValue}
use lib.Ieee.Back.{round_whole}
use lib.Ieee.Scale.{round_same}
use borrow.Author.Tests.{ltb-true, ltb-false, lt-ltb, le-ltb}
use Rattle.laws.proofs.Tests.{cases}

abbrev pub is_negative : ℤ → Bool
is_negative (pos n) = false
is_negative (negsuc n) = true

abbrev pub with_sign : Bool → ℕ → ℤ
with_sign t n = cond t (neg_ℤ (pos n)) (pos n)

own_sign : (z : ℤ) → with_sign (is_negative z) (nat_abs z) ≡ z
own_sign (pos n) = refl
own_sign (negsuc n) = refl

other_sign : (z : ℤ) → with_sign (not (is_negative z)) (nat_abs z) ≡ neg_ℤ z
other_sign (pos n) = refl
other_sign (negsuc n) = refl

sign_of_product : (a b : ℤ) → with_sign (unlike (is_negative a) (is_negative b)) (nat_abs a * nat_abs b) ≡ a *ℤ b
sign_of_product (pos a) (pos b) = refl
sign_of_product (pos a) (negsuc b) = refl
sign_of_product (negsuc a) (pos b) = refl
sign_of_product (negsuc a) (negsuc b) = refl

-- ---- values

rounded : (f : Format) (z : ℤ) → of_int f z ≡ round f (is_negative z) (nat_abs z) 1
unfolding of_int
rounded f (pos n) = refl
rounded f (negsuc n) = refl

pub value : (f : Format) (z : ℤ) → nat_abs z ≤ 2 ^ prec f → HasValue (of_int f z) (is_negative z) (nat_abs z) 1
value f z h = rw rounded (round_whole f (is_negative z) (nat_abs z) h)

negated : (x : Float) (s : Bool) (a c : ℕ) → HasValue x s a c → HasValue (neg x) (not s) a c
unfolding neg
negated nan s a c v = absurd v
negated (inf t) s a c v = absurd v
negated (fin t m e) s a c v = (ap not v.0, v.1)

-- ---- a common factor c of two sizes

less_scaled : (a b c : ℕ) → 0 < c → ltb (a * c) (b * c) ≡ ltb a b
less_scaled a b c h =
    cases (ltb a b)
    (λ t. lt-ltb (a * c) (b * c) (mul-lt-mul_of_pos_right (ltb-true a b t) h) ∙ sym t)
    (λ t. le-ltb (a * c) (b * c) (mul-le-mul_right c (ltb-false a b t)) ∙ sym t)

difference_scaled : (a b c : ℕ) → a * c - b * c ≡ (a - b) * c
difference_scaled a b c = rw (mul_comm a c, mul_comm b c, ← mul-sub c a b) (mul_comm c (a - b))

sum_scaled : (f : Format) (s t : Bool) (a b c : ℕ) → 0 < c → sum f s (a * c) t (b * c) c ≡ sum f s a t b 1
unfolding sum
sum_scaled f s t a b c h = λ i. cond (beq s t) (alike s (a + b) (a * c + b * c) (sym (add-mul a b c)) i) (cond (less_scaled a b c h i) (alike t (b - a) (b * c - a * c) (difference_scaled b a c) i) (last i))
  where
    alike : (u : Bool) (n x : ℕ) → x ≡ n * c → round f u x c ≡ round f u n 1
    alike u n x e = round_same f u x c n 1 h (zero-lt-suc 0) (mul-one x ∙ e)

    last : round f (s && ltb (b * c) (a * c)) (a * c - b * c) c ≡ round f (s && ltb b a) (a - b) 1
    last = ap (λ (u : Bool). round f (s && u) (a * c - b * c) c) (less_scaled b a c h) ∙ alike (s && ltb b a) (a - b) (a * c - b * c) (difference_scaled a b c)

-- ---- the operations on values that are whole

crossed : (m e n d a b p q : ℕ) → m * e * 1 ≡ a * p → n * d * 1 ≡ b * q → m * e * (n * d) * 1 ≡ a * b * (p * q)
crossed m e n d a b p q h k =
    mul-one (m * e * (n * d)) ∙ (λ i. (sym (mul-one (m * e)) ∙ h) i * (sym (mul-one (n * d)) ∙ k) i) ∙ simp (mul_assoc, mul_left_comm)

product_value : (f : Format) (x y : Float) (s t : Bool) (a b : ℕ) → HasValue x s a 1 → HasValue y t b 1 → mul f x y ≡ round f (unlike s t) (a * b) 1
unfolding mul
product_value f nan y s t a b v w = absurd v
product_value f (inf u) y s t a b v w = absurd v
product_value f (fin u m e) nan s t a b v w = absurd w
product_value f (fin u m e) (inf q) s t a b v w = absurd w
product_value f (fin u m e) (fin q n d) s t a b v w =
    ap (λ (x : Bool). round f (unlike x q) (m * up e * (n * up d)) (down e * down d)) v.0
    ∙ ap (λ (x : Bool). round f (unlike s x) (m * up e * (n * up d)) (down e * down d)) w.0
    ∙ round_same f (unlike s t) (m * up e * (n * up d)) (down e * down d) (a * b) 1 (mul-pos (down_pos e) (down_pos d)) (zero-lt-suc 0)
    (crossed m (up e) n (up d) a b (down e) (down d) v.1 w.1)

-- a / 1 in the units of two denominators
spread : (x p q a : ℕ) → x * 1 ≡ a * q → x * p ≡ a * (q * p)
spread x p q a h = ap (λ (y : ℕ). y * p) (sym (mul-one x) ∙ h) ∙ mul_assoc a q p

spread_other : (x p q a : ℕ) → x * 1 ≡ a * q → x * p ≡ a * (p * q)
spread_other x p q a h = spread x p q a h ∙ ap (λ (y : ℕ). a * y) (mul_comm q p)

sum_value : (f : Format) (x y : Float) (s t : Bool) (a b : ℕ) → HasValue x s a 1 → HasValue y t b 1 → add f x y ≡ sum f s a t b 1
unfolding add
sum_value f nan y s t a b v w = absurd v
sum_value f (inf u) y s t a b v w = absurd v
sum_value f (fin u m e) nan s t a b v w = absurd w
sum_value f (fin u m e) (inf q) s t a b v w = absurd w
sum_value f (fin u m e) (fin q n d) s t a b v w =
    (λ i. sum f (v.0 i) (spread (m * up e) (down d) (down e) a v.1 i) (w.0 i) (spread_other (n * up d) (down e) (down d) b w.1 i) (down e * down d))
    ∙ sum_scaled f s t a b (down e * down d) (mul-pos (down_pos e) (down_pos d))

-- ---- a sum of a whole number and one with its sign and size, -0 among them

-- a - b, as `sum` finds it from either side
module _ (f : Format) (a b : ℕ) where
  from_below : cond (ltb a b) (round f true (b - a) 1) (round f false (a - b) 1) ≡ of_int f (sub_ℕ a b)
  unfolding of_int
  from_below = by (ltb a b) refl
    where
      by : (t : Bool) → ltb a b ≡ t → cond t (round f true (b - a) 1) (round f false (a - b) 1) ≡ of_int f (cond t (negsuc (b - suc a)) (pos (a - b)))
      by true e = let h : b - a ≡ suc (b - suc a) = omega (arith, ltb-true) in ap (λ (n : ℕ). round f true n 1) h
      by false e = refl

  from_above : cond (ltb b a) (round f false (a - b) 1) (round f (ltb a b) (b - a) 1) ≡ of_int f (sub_ℕ a b)
  from_above = by (ltb b a) refl ∙ from_below
    where
      even : (t : Bool) → ltb a b ≡ t → a ≤ b → round f t (b - a) 1 ≡ cond t (round f true (b - a) 1) (round f false (a - b) 1)
      even true e l = refl
      even false e l = let h : b - a ≡ a - b = omega (arith, ltb-false) in ap (λ (n : ℕ). round f false n 1) h

      by : (t : Bool) → ltb b a ≡ t → cond t (round f false (a - b) 1) (round f (ltb a b) (b - a) 1) ≡ cond (ltb a b) (round f true (b - a) 1) (round f false (a - b) 1)
      by true e = rw (le-ltb a b (omega (arith, ltb-true)))
      by false e = even (ltb a b) refl (ltb-false b a e)

sum_whole : (f : Format) (a : ℤ) (t : Bool) (b : ℕ) → sum f (is_negative a) (nat_abs a) t b 1 ≡ of_int f (a +ℤ with_sign t b)
unfolding sum of_int
sum_whole f (pos a) false b = refl
sum_whole f (pos a) true zero = from_below f a 0 ∙ ap (λ (z : ℤ). of_int f z) (none a)
  where
    none : (n : ℕ) → sub_ℕ n 0 ≡ pos (n + 0)
    none n = rw (le-ltb n 0 zero-le) (ap pos (omega arith))
sum_whole f (pos a) true (suc b) = from_below f a (suc b)
sum_whole f (negsuc a) false b = from_above f b (suc a)
sum_whole f (negsuc a) true zero = ap (λ (n : ℕ). round f true n 1) (omega arith) ∙ ap (λ (z : ℤ). of_int f z) (sym (none a))
  where
    none : (n : ℕ) → sub_ℕ 0 (suc n) ≡ negsuc n
    none n = rw (lt-ltb 0 (suc n) (zero-lt-suc n)) (ap negsuc (omega arith))
sum_whole f (negsuc a) true (suc b) = ap (λ (n : ℕ). round f true n 1) (omega arith)

-- either may come first
swapped : (f : Format) (s t : Bool) (a b : ℕ) → sum f s a t b 1 ≡ sum f t b s a 1
unfolding sum
swapped f true true a b = ap (λ (n : ℕ). round f true n 1) (omega arith)
swapped f false false a b = ap (λ (n : ℕ). round f false n 1) (omega arith)
swapped f true false a b = from_above f b a ∙ sym (from_below f b a)
swapped f false true a b = from_below f a b ∙ sym (from_above f a b)

-- ---- the laws

module _ (f : Format) where
  -- a whole number that the format counts without a gap
  abbrev pub Held : ℤ → Type 0
  Held z = nat_abs z ≤ 2 ^ prec f

  pub added : (a b : ℤ) → Held a → Held b → add f (of_int f a) (of_int f b) ≡ of_int f (a +ℤ b)
  added a b h k =
      sum_value f (of_int f a) (of_int f b) (is_negative a) (is_negative b) (nat_abs a) (nat_abs b) (value f a h) (value f b k)
      ∙ sum_whole f a (is_negative b) (nat_abs b)
      ∙ ap (λ (z : ℤ). of_int f (a +ℤ z)) (own_sign b)

  pub subtracted : (a b : ℤ) → Held a → Held b → sub f (of_int f a) (of_int f b) ≡ of_int f (a -ℤ b)
  unfolding sub
  subtracted a b h k =
      sum_value f (of_int f a) (neg (of_int f b)) (is_negative a) (not (is_negative b)) (nat_abs a) (nat_abs b) (value f a h)
      (negated (of_int f b) (is_negative b) (nat_abs b) 1 (value f b k))
      ∙ sum_whole f a (not (is_negative b)) (nat_abs b)
      ∙ ap (λ (z : ℤ). of_int f (a +ℤ z)) (other_sign b)

  pub product_added : (w x e : ℤ) → Held w → Held x → nat_abs w * nat_abs x ≤ 2 ^ prec f → Held e
      → add f (mul f (of_int f w) (of_int f x)) (of_int f e) ≡ of_int f (w *ℤ x +ℤ e)
  product_added w x e h k m l =
      let s = unlike (is_negative w) (is_negative x) in
      let n = nat_abs w * nat_abs x in
      ap (λ (y : Float). add f y (of_int f e)) (product_value f (of_int f w) (of_int f x) (is_negative w) (is_negative x) (nat_abs w) (nat_abs x) (value f w h) (value f x k))
      ∙ sum_value f (round f s n 1) (of_int f e) s (is_negative e) n (nat_abs e) (round_whole f s n m) (value f e l)
      ∙ swapped f s (is_negative e) n (nat_abs e)
      ∙ sum_whole f e s n
      ∙ ap (λ (z : ℤ). of_int f z) (+ℤ_comm e (with_sign s n) ∙ ap (λ (z : ℤ). z +ℤ e) (sign_of_product w x))
