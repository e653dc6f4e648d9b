-- The laws of the text of a word.
use mathlib.Core.Path.{refl}
use native.Mathlib.Omega.{arith}
use Rattle.meaning.specs.Meaning.{meaning, read_word}
use Rattle.jig_text.specs.Text.{digit_count, decimal}
use Rattle.jig_text.specs.Laws.{TextLaws}
use Rattle.jig_text.proofs.Limits.{whole_is, ordinary_text}

pub laws : TextLaws
unfolding meaning read_word decimal digit_count
laws = record {
  ordinary_text = ordinary_text;
  known_digits = (refl, refl, refl, refl);
  known_meanings = (rw (whole_is 128 (omega arith), whole_is 132 (omega arith)), refl, refl, refl, refl, refl, refl);
}
