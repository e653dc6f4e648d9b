-- What `inRange` says of each setting, and back; and what the range of r says alone.
--     Fields, fields_of, of_fields                  the range of each
--     InRange, in_range_parts, in_range_whole       as bounds
use Prim.Native.Nat.{ℕ, ◌≤◌}
use mathlib.Core.Bool.{true}
use mathlib.Core.Path.{◌≡◌, refl}
use borrow.Author.Tests.{leb-true, le-leb, eqb-true, eq-eqb}
use lib.Dec.{leb}
use lib.IntN.{pos}
use lib.ListN.{length, get_or}
use Rattle.laws.proofs.Tests.{and_true}
use Rattle.laws.proofs.Every.{every_all, every_each}
use Rattle.settings.specs.declared.Settings.{Settings}
use Rattle.settings.specs.Settings.{weight_in_range, weights_in_range, threshold_in_range, max_threshold, truncation_in_range, samples_in_range, max_samples, in_range}

-- each setting in its range
pub record Fields (s : Settings) : Type 0 where
  pub weights : weights_in_range s.weights ≡ true
  pub threshold : threshold_in_range s.threshold ≡ true
  pub truncation : truncation_in_range s.truncation ≡ true
  pub samples : samples_in_range s.samples ≡ true

pub fields_of : (s : Settings) → in_range s ≡ true → Fields s
unfolding in_range
fields_of s e =
    let a = and_true _ _ e in
    let b = and_true _ _ a.0 in
    let c = and_true _ _ b.0 in
    record { weights = c.0; threshold = c.1; truncation = b.1; samples = a.1 }

pub of_fields : (s : Settings) → Fields s → in_range s ≡ true
unfolding in_range
of_fields s p = rw (p.weights, p.threshold, p.truncation, p.samples)

-- and what that says of its numbers
pub record InRange (s : Settings) : Type 0 where
  pub nine : length s.weights ≡ 9
  pub weights : (i : ℕ) → weight_in_range (get_or s.weights i (pos 0)) ≡ true
  pub threshold : s.threshold ≤ max_threshold
  pub truncation_low : 1 ≤ s.truncation
  pub truncation_high : s.truncation ≤ 3
  pub samples_low : 1 ≤ s.samples
  pub samples_high : s.samples ≤ max_samples

pub in_range_parts : (s : Settings) → in_range s ≡ true → InRange s
in_range_parts s e =
    let f = fields_of s e in
    let w = and_true _ _ f.weights in
    let r = and_true _ _ f.truncation in
    let n = and_true _ _ f.samples in
    record {
      nine = eqb-true _ _ w.0;
      weights = every_each weight_in_range s.weights w.1 (pos 0) refl;
      threshold = leb-true _ _ f.threshold;
      truncation_low = leb-true _ _ r.0;
      truncation_high = leb-true _ _ r.1;
      samples_low = leb-true _ _ n.0;
      samples_high = leb-true _ _ n.1;
    }

pub in_range_whole : (s : Settings) → InRange s → in_range s ≡ true
unfolding in_range
in_range_whole s p =
    rw (
      eq-eqb _ _ p.nine,
      every_all weight_in_range s.weights (pos 0) (λ i h. p.weights i),
      le-leb _ _ p.threshold,
      le-leb _ _ p.truncation_low,
      le-leb _ _ p.truncation_high,
      le-leb _ _ p.samples_low,
      le-leb _ _ p.samples_high,
    )

pub truncation_parts : (r : ℕ) → truncation_in_range r ≡ true → (1 ≤ r) × (r ≤ 3)
truncation_parts r e = let t = and_true (leb 1 r) (leb r 3) e in (leb-true 1 r t.0, leb-true r 3 t.1)
