-- The bound of a pixel's exact sum.
--     total_le, total_at             readings that are not over the threshold come to at most P × T; and some to just that
--     at_most, product_le            a reading at or below the threshold is not over it; and what one that is not over it adds
--     cover_holds, cover_breaks      covered settings keep every exact sum below the ceiling; others don't
--     below_marks                    an unmarked sum lies below every mark
use Prim.Native.Nat.{ℕ, zero, suc, ◌+◌, ◌*◌, ◌≤◌, ◌<◌, min}
use mathlib.Core.Bool.{true, false}
use mathlib.Core.Path.{◌≡◌, refl, ap}
use borrow.Author.Tests.{ltb-true, ltb-false, le-ltb, leb-true}
use native.Mathlib.Nat.{add-mul, mul-le-mul, zero-mul, mul-zero}
use native.Mathlib.Omega.{arith}
use lib.Dec.{ltb}
use lib.IntN.{ℤ, pos, negsuc, ◌*ℤ◌}
use lib.ListN.{get_or-eq_default}
use lib.Signed.{◌≤ℤ◌}
use Rattle.laws.specs.Numbers.{sum_to}
use Rattle.laws.proofs.Tests.{cases}
use Rattle.laws.proofs.Ints.{up, dn, sum, times_up, signed}
use Rattle.laws.proofs.Firsts.{Nowhere}
use Rattle.settings.specs.declared.Settings.{Settings}
use Rattle.settings.specs.Settings.{max_threshold, weight_in_range, weight_at}
use Rattle.settings.specs.Covered.{positive_part, positives, reach, ceiling, is_covered}
use Rattle.settings.proofs.Parts.{InRange}
use Rattle.step.specs.Step.{over_it}
use Rattle.sums.specs.Exact.{exact_sum}
use Rattle.step.proofs.Steps.{weight_in_range_lem}

-- weight n × reading n
abbrev pub part : Settings → (ℕ → ℕ) → ℕ → ℤ
part s x n = weight_at s n *ℤ pos (x n)

-- no reading of the samples 1 to k is over the threshold
abbrev pub Low : Settings → ℕ → (ℕ → ℕ) → Type 0
Low s k x = Nowhere (λ n. over_it s n (x n)) k

-- a reading at or below the threshold is not over it
pub at_most : (s : Settings) (n x : ℕ) → x ≤ s.threshold → over_it s n x ≡ false
at_most s n x h = le-ltb s.threshold x h

up_is : (z : ℤ) → up z ≡ positive_part z
up_is (pos n) = refl
up_is (negsuc n) = refl

-- what a reading that is not over the threshold adds
product_le : (s : Settings) (n x : ℕ) → over_it s n x ≡ false → up (weight_at s n) * x ≤ positive_part (weight_at s n) * s.threshold
product_le s n x h = mul-le-mul (omega (arith, up_is (weight_at s n))) (ltb-false s.threshold x h)

total_le : (s : Settings) (x : ℕ → ℕ) (k : ℕ) → Low s k x → let z = sum_to k (part s x) in up z ≤ dn z + positives s k * s.threshold
unfolding sum_to positives
total_le s x zero h = omega arith
total_le s x (suc k) h =
    let w = weight_at s (suc k) in
    let a : up w * x (suc k) ≤ positive_part w * s.threshold = product_le s (suc k) (x (suc k)) (h (suc k) (omega arith) (omega arith)) in
    omega (arith, total_le s x k (λ n l m. h n l (omega arith)), sum (sum_to k (part s x)) (part s x (suc k)), times_up w (x (suc k)), add-mul (positives s k) (positive_part w) s.threshold)

-- ---- the covered question

pub cover_holds : (s : Settings) → is_covered s ≡ true → (x : ℕ → ℕ) → Low s s.samples x
    → let z = exact_sum s s.samples x in up z < dn z + ceiling s.truncation
unfolding is_covered
cover_holds s c x h =
    omega (arith, ltb-true (reach s) (ceiling s.truncation) c, total_le s x s.samples h, sum (pos 128) (sum_to s.samples (part s x)))

-- the threshold where the weight is positive, and 0 elsewhere
abbrev highest : ℕ → ℤ → ℕ
highest t (pos zero) = 0
highest t (pos (suc w)) = t
highest t (negsuc w) = 0

highest_le : (t : ℕ) (w : ℤ) → highest t w ≤ t
highest_le t (pos zero) = omega arith
highest_le t (pos (suc w)) = omega arith
highest_le t (negsuc w) = omega arith

highest_is : (t : ℕ) (w : ℤ) → w *ℤ pos (highest t w) ≡ pos (positive_part w * t)
highest_is t (pos zero) = ap pos (omega (arith, zero-mul t))
highest_is t (pos (suc w)) = refl
highest_is t (negsuc w) = rw (mul-zero (suc w), zero-mul t)

abbrev pub worst : Settings → ℕ → ℕ
worst s n = highest s.threshold (weight_at s n)

pub worst_le : (s : Settings) (n : ℕ) → worst s n ≤ s.threshold
worst_le s n = highest_le s.threshold (weight_at s n)

total_at : (s : Settings) (k : ℕ) → sum_to k (part s (worst s)) ≡ pos (positives s k * s.threshold)
unfolding sum_to positives
total_at s zero = ap pos (omega (arith, zero-mul s.threshold))
total_at s (suc k) =
    rw (total_at s k, highest_is s.threshold (weight_at s (suc k)), add-mul (positives s k) (positive_part (weight_at s (suc k))) s.threshold)

pub cover_breaks : (s : Settings) → is_covered s ≡ false → pos (ceiling s.truncation) ≤ℤ exact_sum s s.samples (worst s)
unfolding is_covered
cover_breaks s c =
    rw (total_at s s.samples) (omega (signed, ltb-false (reach s) (ceiling s.truncation) c))

-- ---- marks

positive_le : (w : ℤ) → weight_in_range w ≡ true → positive_part w ≤ 15
positive_le (pos w) e = leb-true w 15 e
positive_le (negsuc w) e = omega arith

-- there are nine weights
no_weight : (s : Settings) → InRange s → (k : ℕ) → 9 ≤ k → weight_at s (suc k) ≡ pos 0
no_weight s r k h = get_or-eq_default s.weights (pos 0) {n = k} (omega (arith, r.nine))

positives_le : (s : Settings) → InRange s → (k : ℕ) → positives s k ≤ 15 * min k 9
unfolding positives
positives_le s r zero = omega arith
positives_le s r (suc k) =
    cases (ltb k 9)
    (λ t. omega (arith, ltb-true k 9 t, positives_le s r k, positive_le (weight_at s (suc k)) (weight_in_range_lem s r (suc k))))
    (λ t. rw (no_weight s r k (ltb-false k 9 t)) (omega (arith, positives_le s r k)))

pub below_marks : (s : Settings) → InRange s → (x : ℕ → ℕ) (k : ℕ) → Low s k x → let z = exact_sum s k x in up z < dn z + 1073741825
below_marks s r x k l =
    let a : positives s k * s.threshold ≤ 135 * max_threshold = mul-le-mul {n₂ = 135} (omega (arith, positives_le s r k)) r.threshold in
    omega (arith, total_le s x k l, sum (pos 128) (sum_to k (part s x)))
