-- The settings at opening, number by number, and the ceiling for each r. `proofs/Known.antt` shows them.
use Rattle.std.specs.Prelude.{[], ◌∷◌, map, ◌≡◌, pos, neg_ℤ}
use Rattle.laws.specs.Lists.{up_from}
use Rattle.settings.specs.Settings.{defaults, weight_at}
use Rattle.settings.specs.Covered.{ceiling}

pub record AllKnown : Type 0 where
  -- the weights of samples 1 to 9, threshold, r and N
  pub known_defaults : (map (weight_at defaults) (up_from 1 9) ≡ neg_ℤ (pos 4) ∷ neg_ℤ (pos 3) ∷ neg_ℤ (pos 2) ∷ neg_ℤ (pos 1) ∷ pos 0 ∷ pos 1 ∷ pos 2 ∷ pos 3 ∷ pos 4 ∷ [])
      × (defaults.threshold ≡ 13087)
      × (defaults.truncation ≡ 2)
      × (defaults.samples ≡ 9)
  -- 32,752 × 2^r
  pub known_ceilings : (ceiling 1 ≡ 65504) × (ceiling 2 ≡ 131008) × (ceiling 3 ≡ 262016)
