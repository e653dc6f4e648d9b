-- The laws of entries.
use mathlib.Core.Path.{refl}
use Rattle.entries.specs.Possible.{possible_after}
use Rattle.entries.specs.Laws.{EntryLaws}

pub laws : EntryLaws
unfolding possible_after
laws = record { largest_sum = (refl, refl); smallest_sum = (refl, refl); known_marks = (refl, refl, refl, refl, refl) }
