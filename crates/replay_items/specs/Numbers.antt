-- The numbers of a line.
use Rattle.std.specs.Prelude.{ℕ, ◌+◌, Bool, ℤ, pos, ltb, replicate, set}
use Rattle.replay_items.specs.declared.numbers.Numbers.{Numbers}

abbrev pub no_numbers : Numbers
no_numbers = record { numbers = replicate 4097 (pos 0); count = 0 }

-- a line has at most 4,097
abbrev pub has_room : Numbers → Bool
has_room l = ltb l.count 4097

-- one more, behind those that are there
abbrev pub with_number : ℤ → Numbers → Numbers
with_number n l = record { numbers = set l.numbers l.count n; count = l.count + 1 }
