-- The known words and frames, by computation.
use mathlib.Core.Path.{refl}
use Rattle.laws.specs.Lists.{each, total}
use Rattle.entries.specs.Mark.{sample_of}
use Rattle.encoding.specs.Word.{smallest_mark, is_negative}
use Rattle.encoding.specs.Frame.{pixels_of, word_in, frame_in}
use Rattle.encoding.specs.Known.{AllKnown}

pub known : AllKnown
unfolding lib.Ieee.of_bits lib.Ieee.to_signed lib.Ieee.whole each total sample_of smallest_mark is_negative pixels_of word_in frame_in
known = record { known_remainders = (refl, refl, refl); known_frames = (refl, refl); known_float_frames = (refl, refl) }
