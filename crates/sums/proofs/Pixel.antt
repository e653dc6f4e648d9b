-- One pixel's entry, sample after sample.
--     entry_step          a step takes the entry of k samples to that of k + 1; sample 1 takes any entry
--     entry_same          the entry of k samples turns on the readings of those alone
--     entry_possible      it is possible for k
--     entry_sample        it is marked with the first sample over the threshold, if there is one
use Prim.Native.Nat.{ℕ, zero, suc, ◌≤◌, ◌<◌}
use mathlib.Core.Bool.{Bool, true, false, cond}
use Rattle.std.specs.Prelude.{Option, Some, None}
use Rattle.std.specs.Option.{option_or}
use mathlib.Core.Path.{◌≡◌, refl, ◌∙◌}
use native.Mathlib.Omega.{arith}
use lib.IntN.{ℤ, pos, ◌+ℤ◌, +ℤ_assoc, +ℤ_comm}
use Rattle.laws.specs.Numbers.{first_of, sum_to}
use Rattle.laws.proofs.Ints.{not_le}
use Rattle.laws.proofs.Firsts.{Nowhere, Says, first_says, first_same, sum_same}
use Rattle.settings.specs.declared.Settings.{Settings}
use Rattle.settings.proofs.Parts.{InRange}
use Rattle.entries.specs.Mark.{mark, marked, sample_of}
use Rattle.entries.specs.Possible.{possible}
use Rattle.entries.proofs.Marks.{is_marked, sample_is, sample_none}
use Rattle.step.specs.Step.{over_it, sum_or_mark, step}
use Rattle.sums.specs.Exact.{exact_sum, first_over, marked_by, entry_after}
use Rattle.step.proofs.Steps.{later_adds, possible_step}
use Rattle.sums.proofs.Bounds.{part, below_marks}

module _ (s : Settings) (r : InRange s) (x : ℕ → ℕ) where
  abbrev over : ℕ → Bool
  over n = over_it s n (x n)

  unmarked : (k : ℕ) → Nowhere over k → marked (exact_sum s k x) ≡ false
  unmarked k h = not_le (mark 1) (exact_sum s k x) (omega (arith, below_marks s r x k h))

  pub entry_sample : (k : ℕ) → sample_of (entry_after s k x) ≡ first_over s k x
  entry_sample k = by (first_over s k x) (first_says over k)
    where
      by : (o : Option ℕ) → Says over k o → sample_of (marked_by o (exact_sum s k x)) ≡ o
      by (Some n) f = sample_is n f.low
      by None f = sample_none (exact_sum s k x) (unmarked k f)

  next_entry : (k : ℕ) → sum_or_mark (entry_after s k x) (over (suc k)) (mark (suc k)) (part s x (suc k) +ℤ entry_after s k x) ≡ entry_after s (suc k) x
  unfolding first_of sum_to
  next_entry k = by (first_over s k x) (first_says over k)
    where
      z : ℤ
      z = exact_sum s k x

      last : (b : Bool) → cond b (mark (suc k)) (part s x (suc k) +ℤ z) ≡ marked_by (cond b (Some (suc k)) None) (pos 128 +ℤ (sum_to k (part s x) +ℤ part s x (suc k)))
      last true = refl
      last false = +ℤ_comm (part s x (suc k)) z ∙ +ℤ_assoc (pos 128) (sum_to k (part s x)) (part s x (suc k))

      by : (o : Option ℕ) → Says over k o
          → sum_or_mark (marked_by o z) (over (suc k)) (mark (suc k)) (part s x (suc k) +ℤ marked_by o z)
          ≡ marked_by (option_or o (cond (over (suc k)) (Some (suc k)) None)) (pos 128 +ℤ (sum_to k (part s x) +ℤ part s x (suc k)))
      by (Some n) f = rw (is_marked n f.low)
      by None f = rw (unmarked k f) (last (over (suc k)))

  pub entry_step : (k : ℕ) (e : ℤ) → (1 ≤ k → e ≡ entry_after s k x) → step s (suc k) e (x (suc k)) ≡ entry_after s (suc k) x
  unfolding step first_of sum_to
  entry_step zero e q = next_entry 0
  entry_step (suc k) e q = rw (later_adds (suc (suc k)) e (omega arith), q (omega arith)) (next_entry (suc k))

  pub entry_possible : (k : ℕ) → k ≤ 9 → 0 < k → possible s k (entry_after s k x) ≡ true
  entry_possible zero few l = absurd (omega arith)
  entry_possible (suc k) few l =
      rw (← entry_step k (entry_after s k x) (λ l. refl))
      (possible_step s r k (entry_after s k x) (x (suc k)) (omega arith) (entry_possible k (omega arith)))

pub entry_same : (s : Settings) (x y : ℕ → ℕ) (k : ℕ) → ((n : ℕ) → 1 ≤ n → n ≤ k → x n ≡ y n) → entry_after s k x ≡ entry_after s k y
entry_same s x y k h =
    rw (
      first_same (λ n. over_it s n (x n)) (λ n. over_it s n (y n)) k (λ n a l. rw (h n a l)),
      sum_same (part s x) (part s y) k (λ n a l. rw (h n a l)),
    )
