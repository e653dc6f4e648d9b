-- What the readings of a ramp say of a word's pixels, one or a square's four.
use Rattle.std.specs.Prelude.{ℕ, ◌*◌, Bool, List, map, ℤ}
use Rattle.laws.specs.Lists.{each, any_of}
use Rattle.laws.specs.Numbers.{First, first_of}
use Rattle.settings.specs.declared.Settings.{Settings}
use Rattle.step.specs.Step.{over_it}
use Rattle.sums.specs.Exact.{reading_of, exact_sum}
use Rattle.encoding.specs.Word.{word_by}
use Rattle.encoding.specs.Frame.{pixels_of, word_count}
use Rattle.sides.specs.declared.Sides.{Sides}
use Rattle.history.specs.Calls.{Ledger}

-- what a frame is made from: the sides and the binning of the board, the settings in force when the ramp began, and the readings
pub record Ramp : Type 0 where
  pub sides : Sides
  pub settings : Settings
  pub readings : List ℕ

-- the ramp that a ledger holds
abbrev pub ramp_of : Ledger → Ramp
ramp_of ℓ = record { sides = ℓ.sides; settings = ℓ.in_force; readings = ℓ.readings }

-- M
abbrev pub ramp_area : Ramp → ℕ
ramp_area ramp = ramp.sides.width * ramp.sides.height

-- the reading of pixel p at sample n
abbrev pub reading_at : Ramp → ℕ → ℕ → ℕ
reading_at ramp p = reading_of (ramp_area ramp) ramp.readings p

-- how many words the frame has
abbrev pub words : Ramp → ℕ
words ramp = word_count ramp.sides.binned (ramp_area ramp)

-- the pixels of word j
abbrev pub pixels : Ramp → ℕ → List ℕ
pixels ramp j = pixels_of ramp.sides.width ramp.sides.binned j

-- the exact sums of pixels, over all N samples
abbrev pub exact_sums : Ramp → List ℕ → List ℤ
exact_sums ramp ps = map (λ p. exact_sum ramp.settings ramp.settings.samples (reading_at ramp p)) ps

-- whether the reading of one of the pixels at sample n is over the threshold
abbrev pub over_at : Ramp → List ℕ → ℕ → Bool
over_at ramp ps n = any_of (λ p. over_it ramp.settings n (reading_at ramp p n)) ps

-- n is the first sample, of 1 to N, at which one of the pixels is over the threshold
abbrev pub FirstOver : Ramp → List ℕ → ℕ → Type 0
FirstOver ramp ps n = First (over_at ramp ps) ramp.settings.samples n

abbrev pub NeverOver : Ramp → List ℕ → Type 0
NeverOver ramp ps = (n : ℕ) → FirstOver ramp ps n → ⊥

-- the frame that the readings make, word by word
unfoldable pub frame_from : Ramp → List ℕ
frame_from ramp =
    each
    (λ j. word_by ramp.settings.truncation (first_of ramp.settings.samples (over_at ramp (pixels ramp j))) (exact_sums ramp (pixels ramp j)))
    (words ramp)
