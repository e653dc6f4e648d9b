-- What must be true of a step, beside the contract. `proofs/Laws.antt` shows it.
use Rattle.std.specs.Prelude.{ℕ, suc, ◌≤◌, ◌<◌, true, false, ◌≡◌, ℤ}
use Rattle.settings.specs.declared.Settings.{Settings}
use Rattle.settings.specs.Settings.{max_threshold, in_range}
use Rattle.readings.specs.Readings.{reading_in_range}
use Rattle.entries.specs.Possible.{possible}
use Rattle.step.specs.Step.{over_it, step}

pub record StepLaws : Type 0 where
  -- the largest threshold marks nothing
  pub largest_marks_nothing : (s : Settings) → s.threshold ≡ max_threshold → (n x : ℕ) → reading_in_range x ≡ true → over_it s n x ≡ false
  -- a step by any reading takes an entry that is possible for k to one that is possible for k + 1, and at sample 1 any entry to one that is possible for 1
  pub stays_possible : (s : Settings) → in_range s ≡ true → (k : ℕ) (e : ℤ) (x : ℕ) → k ≤ 8
      → (0 < k → possible s k e ≡ true) → possible s (suc k) (step s (suc k) e x) ≡ true
