-- The range of each setting.
use Rattle.std.specs.Prelude.{ℕ, Bool, ◌&&◌, List, leb, eqb, ℤ, pos, neg_ℤ, length}
use Rattle.std.specs.Int.Signed.{le_z}
use Rattle.laws.specs.Lists.{every}

-- the largest weight: a magnitude has four bits
abbrev pub max_weight : ℕ
max_weight = 15

-- a weight is −15 to 15
abbrev pub weight_in_range : ℤ → Bool
weight_in_range w = le_z (neg_ℤ (pos max_weight)) w && le_z w (pos max_weight)

-- the largest threshold
abbrev pub max_threshold : ℕ
max_threshold = 16383

abbrev pub threshold_in_range : ℕ → Bool
threshold_in_range t = leb t max_threshold

-- r is 1 to 3
abbrev pub truncation_in_range : ℕ → Bool
truncation_in_range r = leb 1 r && leb r 3

-- the largest N: there are nine weights, one for each sample
abbrev pub max_samples : ℕ
max_samples = 9

-- N is 1 to 9
abbrev pub samples_in_range : ℕ → Bool
samples_in_range n = leb 1 n && leb n max_samples

-- nine weights, each in range
abbrev pub weights_in_range : List ℤ → Bool
weights_in_range ws = eqb (length ws) max_samples && every weight_in_range ws
