-- The numbers of readings, from 0, on m pixels: number k × m + p is of pixel p, at sample k + 1.
--     same_sample     two numbers of one pixel that lie less than m apart are of one sample
--     place, few      the sample and the pixel of number f
--     next            after f readings, the next of a pixel p that has had k samples is number k × m + p, one of the m from number f on
use Prim.Native.Nat.{ℕ, suc, ◌+◌, ◌*◌, ◌/◌, ◌%◌, ◌≤◌, ◌<◌}
use mathlib.Core.Path.{◌≡◌}
use native.Mathlib.Nat.{add-mul, suc-mul, div-add-mod', mod-lt, div-lt_iff_lt-mul, lt_of_mul-lt-mul_right}
use native.Mathlib.Omega.{arith}
use borrow.Author.Tests.{ltb-true, ltb-false}
use lib.Dec.{ltb}
use Rattle.laws.proofs.Tests.{cases}
use Rattle.written.specs.Written.{samples_written}

pub same_sample : (m p a b : ℕ) → a * m + p < b * m + p + m → b * m + p < a * m + p + m → a ≡ b
same_sample m p a b h l =
    let c : a < suc b = lt_of_mul-lt-mul_right m (rw suc-mul (omega arith)) in
    let d : b < suc a = lt_of_mul-lt-mul_right m (rw suc-mul (omega arith)) in
    omega arith

module _ (f m : ℕ) (some : 0 < m) where
  pub place : (f / m * m + f % m ≡ f) × (f % m < m)
  place = (div-add-mod' f m, mod-lt f some)

  pub few : f < 9 * m → f / m ≤ 8
  few h = let l = (div-lt_iff_lt-mul {k = m} {x = f} {y = 9} some).1 h in omega arith

  pub next : (p : ℕ) → p < m → let k = samples_written m f p in (f ≤ k * m + p) × (k * m + p < f + m)
  next p h =
      cases (ltb p (f % m))
      (λ t. rw (t, add-mul) (omega (arith, place, ltb-true p (f % m) t)))
      (λ t. rw (t, add-mul) (omega (arith, place, ltb-false p (f % m) t)))
