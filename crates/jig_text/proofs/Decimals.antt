-- The digits that `io::decimal` puts are those of `decimal`.
use Prim.Native.Nat.{ℕ, zero, suc, ◌+◌, ◌-◌, ◌*◌, ◌/◌, ◌^◌, ◌≤◌, ◌<◌}
use mathlib.Core.Path.{◌≡◌, refl, ap}
use borrow.Author.Tests.{lt-ltb, le-ltb, ltb-true, ltb-false}
use native.Mathlib.Numerals.{unary_clauses}
use native.Mathlib.Omega.{arith}
use lib.Dec.{ltb}
use Rattle.laws.proofs.Tests.{cases}
use Rattle.io.specs.Digits.{last_digits, IsDigitCount}
use Rattle.jig_text.specs.Text.{digit_count, decimal}

ten_more : (r : ℕ) → 10 ^ suc r ≡ 10 ^ r * 10
ten_more r = simp unary_clauses

ten_pos : (r : ℕ) → 1 ≤ 10 ^ r
ten_pos zero = omega arith
ten_pos (suc r) = omega (arith, ten_pos r, ten_more r)

counted : (k r n : ℕ) → r ≤ k → n < 10 ^ suc r → (1 ≤ r → 10 ^ r ≤ n) → digit_count k n ≡ suc r
unfolding digit_count
counted zero zero n h below from = refl
counted zero (suc r) n h below from = absurd (omega arith)
counted (suc k) zero n h below from = rw (lt-ltb n 10 (omega (arith, ten_more 0)))
counted (suc k) (suc r) n h below from =
    let f : 10 ^ suc r ≤ n = from (omega arith) in
    let big : 10 ≤ n = omega (arith, f, ten_more r, ten_pos r) in
    rw (le-ltb n 10 big)
    (ap suc (counted k r (n / 10) (omega arith) (omega (arith, below, ten_more (suc r))) (λ q. omega (arith, f, ten_more r))))

pub is_decimal : (n r : ℕ) → IsDigitCount 10 1 n r → r ≤ 20 → last_digits 10 r n ≡ decimal n
unfolding decimal
is_decimal n zero f h = absurd (omega (arith, f.0))
is_decimal n (suc r) f h =
    let e : suc r - 1 ≡ r = omega arith in
    rw (counted 19 r n (omega arith) f.1 (λ q. rw e at (f.2 (omega arith))))

ten_mono : (d i : ℕ) → 10 ^ i ≤ 10 ^ (d + i)
ten_mono zero i = let e : 0 + i ≡ i = omega arith in rw e (omega arith)
ten_mono (suc d) i = let e : suc d + i ≡ suc (d + i) = omega arith in rw e (omega (arith, ten_mono d i, ten_more (d + i)))

-- a number of 64 bits has 20 digits at most
pub few : (n r : ℕ) → IsDigitCount 10 1 n r → n < 2 ^ 64 → r ≤ 20
few n r f h =
    cases (ltb 20 r)
    (λ q.
    let k : 20 < r = ltb-true 20 r q in
    let from : 10 ^ (r - 1) ≤ n = f.2 (omega arith) in
    let e : r - 21 + 20 ≡ r - 1 = omega arith in
    let m : 10 ^ 20 ≤ 10 ^ (r - 1) = rw e at (ten_mono (r - 21) 20) in
    absurd (omega (arith, m, from)))
    (λ q. ltb-false 20 r q)
