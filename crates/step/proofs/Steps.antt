-- The laws of one step.
--     later_adds                what a sample from the second on adds to its product is the stored sum
--     addend_in_range           what any sample adds to it is in range
--     weight_in_range_lem           and so is its weight
--     possible_step             a step takes an entry that is possible for k to one that is possible for k + 1; sample 1 takes any entry
use Prim.Native.Nat.{ℕ, zero, suc, ◌≤◌, ◌<◌}
use mathlib.Core.Bool.{Bool, true, false, cond}
use mathlib.Core.Logic.{inl, inr, ⊎_elim}
use mathlib.Core.Path.{◌≡◌, refl}
use borrow.Author.Tests.{ne_eqb, ltb-false, le-leb}
use native.Mathlib.Omega.{arith}
use lib.IntN.{ℤ, pos, ◌+ℤ◌, ◌*ℤ◌}
use Rattle.laws.proofs.Ints.{sum, is_le, not_le}
use Rattle.laws.proofs.Tests.{cases}
use Rattle.settings.specs.declared.Settings.{Settings}
use Rattle.settings.specs.Settings.{weight_in_range, weight_at}
use Rattle.settings.proofs.Parts.{InRange}
use Rattle.entries.specs.Mark.{mark}
use Rattle.readings.specs.Readings.{max_reading, reading_in_range}
use Rattle.entries.specs.Possible.{possible_after, possible}
use Rattle.entries.specs.SupportRange.{entry_in_range}
use Rattle.entries.proofs.Possible.{Mark, Near, fair, is_fair}
use Rattle.step.specs.Step.{over_it, pedestal_or_stored, sum_or_mark, step}
use Rattle.step.proofs.Products.{product}

pub later_adds : (n : ℕ) (e : ℤ) → 1 < n → pedestal_or_stored n e ≡ e
later_adds n e l = rw (ne_eqb n 1 (λ q. omega arith))

pub addend_in_range : (n : ℕ) (e : ℤ) → 1 ≤ n → (1 < n → entry_in_range e ≡ true) → entry_in_range (pedestal_or_stored n e) ≡ true
unfolding entry_in_range
addend_in_range zero e h a = absurd (omega arith)
addend_in_range (suc zero) e h a = refl
addend_in_range (suc (suc n)) e h a = let l : 1 < suc (suc n) = omega arith in rw (later_adds _ e l) (a l)

pub weight_in_range_lem : (s : Settings) → InRange s → (n : ℕ) → weight_in_range (weight_at s n) ≡ true
weight_in_range_lem s r zero = refl
weight_in_range_lem s r (suc i) = r.weights i

module _ (w : ℤ) (x : ℕ) (hw : weight_in_range w ≡ true) (hx : reading_in_range x ≡ true) (k : ℕ) (few : k ≤ 8) where
  -- on an entry that is near for k, unmarked
  near_step : (e : ℤ) → Near k e → (above : Bool) → possible_after (suc k) (sum_or_mark e above (mark (suc k)) (w *ℤ pos x +ℤ e)) ≡ true
  near_step e h above = rw (not_le (mark 1) e (omega arith)) (by above)
    where
      by : (b : Bool) → possible_after (suc k) (cond b (mark (suc k)) (w *ℤ pos x +ℤ e)) ≡ true
      by true = is_fair (suc k) (mark (suc k)) (inl (omega arith))
      by false = is_fair (suc k) (w *ℤ pos x +ℤ e) (inr (omega (arith, product w x hw hx, sum (w *ℤ pos x) e)))

  -- on a mark of a sample up to k
  mark_step : (e : ℤ) → Mark k e → (above : Bool) → possible_after (suc k) (sum_or_mark e above (mark (suc k)) (w *ℤ pos x +ℤ e)) ≡ true
  mark_step e h above = rw (is_le (mark 1) e (omega arith)) (is_fair (suc k) e (inl (omega arith)))

any_step : (w : ℤ) (above : Bool) (k : ℕ) (e : ℤ) (x : ℕ) → weight_in_range w ≡ true → reading_in_range x ≡ true → k ≤ 8 → (0 < k → possible_after k e ≡ true)
    → let addend = pedestal_or_stored (suc k) e in possible_after (suc k) (sum_or_mark addend above (mark (suc k)) (w *ℤ pos x +ℤ addend)) ≡ true
any_step w above zero e x hw hx few h = near_step w x hw hx 0 few (pos 128) (omega arith) above
any_step w above (suc k) e x hw hx few h =
    rw (later_adds (suc (suc k)) e (omega arith))
    (⊎_elim (λ m. mark_step w x hw hx (suc k) few e m above) (λ m. near_step w x hw hx (suc k) few e m above) (fair (suc k) e (h (omega arith))))

-- whatever the reading: one that is out of range is over any threshold, and then its size doesn't matter
pub possible_step : (s : Settings) → InRange s → (k : ℕ) (e : ℤ) (x : ℕ) → k ≤ 8 → (0 < k → possible s k e ≡ true) → possible s (suc k) (step s (suc k) e x) ≡ true
unfolding step
possible_step s r k e x few h =
    let w = weight_at s (suc k) in
    let hw = weight_in_range_lem s r (suc k) in
    cases (over_it s (suc k) x)
    (λ t. rw t (any_step w true k e 0 hw refl few h))
    (λ t. rw t (any_step w false k e x hw (le-leb x max_reading (omega (arith, ltb-false s.threshold x t, r.threshold))) few h))
