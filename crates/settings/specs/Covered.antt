-- The covered question.
use Rattle.std.specs.Prelude.{ℕ, zero, suc, ◌+◌, ◌*◌, ◌^◌, Bool, ltb, ℤ, pos, negsuc}
use Rattle.word_codes.specs.Codes.{ordinary_end}
use Rattle.settings.specs.declared.Settings.{Settings}
use Rattle.settings.specs.Settings.{weight_at}

-- 128, which every sum starts from
abbrev pub pedestal : ℕ
pedestal = 128

-- a positive weight, or 0 for any other
abbrev pub positive_part : ℤ → ℕ
positive_part (pos w) = w
positive_part (negsuc w) = 0

-- P, for n = N: the positive weights among the first n, added up
unfoldable pub positives : Settings → ℕ → ℕ
positives s zero = 0
positives s (suc n) = positives s n + positive_part (weight_at s (suc n))

-- 128 + P × T: no readings at or below the threshold have a larger sum
abbrev pub reach : Settings → ℕ
reach s = pedestal + positives s s.samples * s.threshold

-- the first sum that no ordinary word stands for: 32,752 × 2^r
abbrev pub ceiling : ℕ → ℕ
ceiling r = ordinary_end * 2 ^ r

-- *covered*: 128 + P × T lies below 32,752 × 2^r
unfoldable pub is_covered : Settings → Bool
is_covered s = ltb (reach s) (ceiling s.truncation)
