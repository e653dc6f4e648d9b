-- Reading a word, and which words are flags.
use Rattle.std.specs.Prelude.{ℕ, ◌+◌, ◌-◌, ◌*◌, ◌^◌, Bool, cond, not, ◌&&◌, ◌||◌, leb, ltb, eqb, Float, pos, Result, Ok, Err}
use Rattle.std.specs.Float.{binary64}
use Rattle.std.specs.Float.Ieee.{of_int}
use Rattle.checks.specs.declared.Reason.TheVariants.{TruncationRange}
use Rattle.checks.specs.declared.Refusal.{Refusal}
use Rattle.checks.specs.Checks.{refusal}
use Rattle.word_codes.specs.Codes.{ordinary_end, first_saturated, last_saturated, negative_code}
use Rattle.settings.specs.Settings.{truncation_in_range}
use Rattle.meaning.specs.declared.WordRead.{WordRead}
use Rattle.meaning.specs.declared.WordRead.TheVariants.{Ordinary, Saturated, Negative, Unassigned}

-- a whole number as a 64-bit float
abbrev pub limit : ℕ → Float
limit n = of_int binary64 (pos n)

-- 32,753 to 32,761: saturated
abbrev pub saturated_word : ℕ → Bool
saturated_word w = leb first_saturated w && leb w last_saturated

-- 32,767: negative
abbrev pub negative_word : ℕ → Bool
negative_word w = eqb w negative_code

-- below 32,752 ordinary: a sum of w × 2^r or more, and below (w + 1) × 2^r; saturated at sample 1 to 9, or negative; any other is unassigned
unfoldable pub meaning : ℕ → ℕ → WordRead
meaning r w =
    cond (ltb w ordinary_end) (Ordinary (limit (w * 2 ^ r)) (limit ((w + 1) * 2 ^ r)))
    (cond (saturated_word w) (Saturated (w - ordinary_end))
    (cond (negative_word w) Negative
    Unassigned))

-- a flag: a word that means saturated or negative, whatever r is
unfoldable pub is_flag : ℕ → Bool
is_flag w = saturated_word w || negative_word w

-- 7: an r outside 1 to 3
unfoldable pub read_word : ℕ → ℕ → Result WordRead Refusal
read_word r w = cond (not (truncation_in_range r)) (Err (refusal TruncationRange)) (Ok (meaning r w))
