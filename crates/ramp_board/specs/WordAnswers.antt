-- What a word means, as plain numbers. What an answer doesn't tell is as it was.
use Rattle.std.specs.Prelude.{ℕ, Float, Result, Ok, Err}
use Rattle.checks.specs.declared.Refusal.{Refusal}
use Rattle.meaning.specs.declared.WordRead.{WordRead}
use Rattle.meaning.specs.declared.WordRead.TheVariants.{Ordinary, Saturated, Negative, Unassigned}

-- 0 for ordinary, 1 for saturated, 2 for negative, 3 for unassigned
abbrev pub kind_after : Result WordRead Refusal → ℕ → ℕ
kind_after (Ok (Ordinary low high)) old = 0
kind_after (Ok (Saturated n)) old = 1
kind_after (Ok Negative) old = 2
kind_after (Ok Unassigned) old = 3
kind_after (Err r) old = old

-- the limits of an ordinary word
abbrev pub low_after : Result WordRead Refusal → Float → Float
low_after (Ok (Ordinary low high)) old = low
low_after (Ok (Saturated n)) old = old
low_after (Ok Negative) old = old
low_after (Ok Unassigned) old = old
low_after (Err r) old = old

abbrev pub high_after : Result WordRead Refusal → Float → Float
high_after (Ok (Ordinary low high)) old = high
high_after (Ok (Saturated n)) old = old
high_after (Ok Negative) old = old
high_after (Ok Unassigned) old = old
high_after (Err r) old = old

-- the sample of a saturated one
abbrev pub sample_after : Result WordRead Refusal → ℕ → ℕ
sample_after (Ok (Ordinary low high)) old = old
sample_after (Ok (Saturated n)) old = n
sample_after (Ok Negative) old = old
sample_after (Ok Unassigned) old = old
sample_after (Err r) old = old
