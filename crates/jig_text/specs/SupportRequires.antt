-- What the functions that put text require. No rule of the product stands here.
use Rattle.std.specs.Prelude.{T, Result, Ok, Err}
use Rattle.std.specs.Float.{binary64}
use Rattle.std.specs.Float.Ieee.{in_unsigned}
use Rattle.checks.specs.declared.Refusal.{Refusal}
use Rattle.meaning.specs.declared.WordRead.{WordRead}
use Rattle.meaning.specs.declared.WordRead.TheVariants.{Ordinary, Saturated, Negative, Unassigned}

-- the limits of an ordinary word are whole numbers of 64 bits
abbrev pub WholeLimits : Result WordRead Refusal → Type 0
WholeLimits (Ok (Ordinary low high)) = T (in_unsigned binary64 64 low) × T (in_unsigned binary64 64 high)
WholeLimits (Ok (Saturated n)) = Unit {0}
WholeLimits (Ok Negative) = Unit {0}
WholeLimits (Ok Unassigned) = Unit {0}
WholeLimits (Err r) = Unit {0}
