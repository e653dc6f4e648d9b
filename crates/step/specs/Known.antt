-- Known steps with the defaults. `proofs/Known.antt` shows them.
use Rattle.std.specs.Prelude.{ℤ, pos, neg_ℤ, ◌≡◌}
use Rattle.settings.specs.Settings.{defaults}
use Rattle.entries.specs.Mark.{mark}
use Rattle.step.specs.Step.{step}

pub record AllKnown : Type 0 where
  -- sample 1 makes 128 − 4 × 1,000 of any entry; sample 9 adds 4 × 1,000 to a sum, and leaves a mark
  pub known_sums : (e : ℤ) → (step defaults 1 e 1000 ≡ neg_ℤ (pos 3872))
      × (step defaults 9 (pos 128) 1000 ≡ pos 4128)
      × (step defaults 9 (mark 3) 1000 ≡ mark 3)
  -- a reading of 13,088 is above the threshold of 13,087, which is not above itself: at sample 1, at sample 5, whose weight is 0, and not over an earlier mark
  pub known_marks : (e : ℤ) → (step defaults 1 e 13088 ≡ mark 1)
      × (step defaults 5 (pos 128) 13088 ≡ mark 5)
      × (step defaults 5 (pos 128) 13087 ≡ pos 128)
      × (step defaults 9 (mark 3) 13088 ≡ mark 3)
