-- What one reading does to one entry, in the order of section 2.3 of the Description: multiply, add 128 or the stored sum, store.
use Rattle.std.specs.Prelude.{ℕ, ◌≤◌, ◌≡◌, Bool, true, cond, eqb, ltb, ℤ, pos, ◌+ℤ◌, ◌*ℤ◌}
use Rattle.settings.specs.declared.Settings.{Settings}
use Rattle.settings.specs.Settings.{max_samples, weight_in_range, threshold_in_range, weight_at}
use Rattle.settings.specs.Covered.{pedestal}
use Rattle.entries.specs.Mark.{mark, marked}
use Rattle.step.specs.declared.Sample.{Sample}

-- a sample of a ramp, with a weight and a threshold in range
pub record SampleInRange (sample : Sample) : Type 0 where
  pub number : (1 ≤ sample.n) × (sample.n ≤ max_samples)
  pub weight : weight_in_range sample.weight ≡ true
  pub threshold : threshold_in_range sample.threshold ≡ true

-- a reading x above the threshold t: equal to it isn't above it
abbrev pub is_above : ℕ → ℕ → Bool
is_above t x = ltb t x

-- whether the reading x of a sample is over the threshold
abbrev pub is_over : Sample → ℕ → Bool
is_over sample x = is_above sample.threshold x

-- what sample n adds to its product: 128 at sample 1, whatever the entry held, else the stored sum
abbrev pub pedestal_or_stored : ℕ → ℤ → ℤ
pedestal_or_stored n stored = cond (eqb n 1) (pos pedestal) stored

-- what is stored: a marked entry stays (128 is no mark); a reading over the threshold stores its mark; any other stores the sum
abbrev pub sum_or_mark : ℤ → Bool → ℤ → ℤ → ℤ
sum_or_mark addend over new_mark sum = cond (marked addend) addend (cond over new_mark sum)

-- the entry after the reading x of a sample: multiply; add 128 or the stored sum; store the sum, or a mark
abbrev pub step_by : Sample → ℕ → ℤ → ℤ
step_by sample x entry =
    let product = sample.weight *ℤ pos x in
    let addend = pedestal_or_stored sample.n entry in
    let sum = product +ℤ addend in
    sum_or_mark addend (is_over sample x) (mark sample.n) sum

-- what the settings say of sample n
abbrev pub sample_at : Settings → ℕ → Sample
sample_at s n = record { n = n; weight = weight_at s n; threshold = s.threshold }

-- whether the reading x of sample n is over the threshold
abbrev pub over_it : Settings → ℕ → ℕ → Bool
over_it s n x = is_over (sample_at s n) x

-- the entry e after the reading x of sample n
unfoldable pub step : Settings → ℕ → ℤ → ℕ → ℤ
step s n e x = step_by (sample_at s n) x e
