-- Numbers, refusals and what words mean, as bytes in ASCII.
use Rattle.std.specs.Prelude.{ℕ, zero, suc, ◌/◌, cond, List, [], ◌∷◌, ◌++◌, ltb, Float, Result, Ok, Err}
use Rattle.std.specs.Float.Ieee.{to_unsigned}
use Rattle.io.specs.Digits.{last_digits}
use Rattle.checks.specs.declared.Refusal.{Refusal}
use Rattle.checks.specs.Plain.{number}
use Rattle.meaning.specs.declared.WordRead.{WordRead}
use Rattle.meaning.specs.declared.WordRead.TheVariants.{Ordinary, Saturated, Negative, Unassigned}

-- how many decimal digits a number has, up to k + 1 of them
unfoldable pub digit_count : ℕ → ℕ → ℕ
digit_count zero n = 1
digit_count (suc k) n = cond (ltb n 10) 1 (suc (digit_count k (n / 10)))

-- a number in decimal, with no zero in front; it has 20 digits at most
unfoldable pub decimal : ℕ → List ℕ
decimal n = last_digits 10 (digit_count 19 n) n

-- ` `
abbrev pub space : List ℕ
space = 32 ∷ []

-- the end of a line
abbrev pub newline : List ℕ
newline = 10 ∷ []

-- `..`
abbrev pub dots : List ℕ
dots = 46 ∷ 46 ∷ []

-- `sat `
abbrev pub sat : List ℕ
sat = 115 ∷ 97 ∷ 116 ∷ 32 ∷ []

-- `neg`
abbrev pub neg : List ℕ
neg = 110 ∷ 101 ∷ 103 ∷ []

-- `none`
abbrev pub unassigned : List ℕ
unassigned = 110 ∷ 111 ∷ 110 ∷ 101 ∷ []

-- `refused `
abbrev pub refused : List ℕ
refused = 114 ∷ 101 ∷ 102 ∷ 117 ∷ 115 ∷ 101 ∷ 100 ∷ 32 ∷ []

-- a limit as a whole number
abbrev pub whole_of : Float → ℕ
whole_of x = to_unsigned 64 x

-- a refusal's number
abbrev pub refusal_text : Refusal → List ℕ
refusal_text r = refused ++ decimal (number r.reason)

-- what a word means: the two limits with `..` between, or `sat`, a space and the sample, or `neg`, or `none`
abbrev pub meaning_text : Result WordRead Refusal → List ℕ
meaning_text (Ok (Ordinary low high)) = (decimal (whole_of low) ++ dots) ++ decimal (whole_of high)
meaning_text (Ok (Saturated n)) = sat ++ decimal n
meaning_text (Ok Negative) = neg
meaning_text (Ok Unassigned) = unassigned
meaning_text (Err r) = refusal_text r
