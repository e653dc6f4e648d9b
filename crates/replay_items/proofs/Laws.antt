-- The two directions of a pattern.
use Rattle.std.proofs.Common.{refl, is_nan, arith}
use Rattle.std.proofs.lemmas.Float.{T_from_false}
use Rattle.std.specs.Float.{binary64}
use Rattle.std.specs.Float.Ieee.{to_bits}
use lib.Ieee.Bits.{to_bits-of_bits}
use Rattle.replay_items.specs.Patterns.{pattern_of, float_of_halves}
use Rattle.replay_items.specs.Laws.{PatternLaws}

pub laws : PatternLaws
unfolding to_bits
laws = record {
  kept = λ high low h l number. to_bits-of_bits binary64 (pattern_of high low) (omega arith) (T_from_false (is_nan (float_of_halves high low)) number);
  no_number = refl;
  high = λ high low l. omega arith;
  low = λ high low l. omega arith;
}
