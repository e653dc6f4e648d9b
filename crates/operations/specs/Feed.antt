-- Feed, of an engine. The checks, their order and what is left of the board are the same for both kinds of entries.
use Rattle.std.specs.Prelude.{ℕ, ◌+◌, not, List, [], ◌∷◌, ◌++◌, ltb, ℤ, length, get_or}
use Rattle.checks.specs.declared.Reason.TheVariants.{TooManyReadings, ReadingRange, EntryNotPossible}
use Rattle.checks.specs.Search.{first_place}
use Rattle.checks.specs.Checks.{Answer, when, found, verdict, by_answer}
use Rattle.readings.specs.Readings.{reading_in_range}
use Rattle.engines.specs.Engine.{Engine, possible_in, in_whole_numbers}
use Rattle.sums.specs.Feed.{sums_in}
use Rattle.written.specs.Written.{impossible_at}
use Rattle.board.specs.declared.Board.{Board}
use Rattle.board.specs.Board.{Outcome, wanted, with_ramp, leaves}
use Rattle.board.specs.RampChecks.{ramp_checks}

-- 12: the ramp wants fewer readings than come. 13: a reading is above 16,383; the place is the index of the first in the readings. 14: an entry that this ramp
-- has written, and that gets a reading now, isn't possible for its k; the place is the smallest such index in the sums
abbrev pub reading_checks_in : {E : Type 0} → Engine E → Board → List ℕ → List E → List Answer
reading_checks_in engine b readings sums =
    when (ltb (wanted b) (b.fed + length readings)) TooManyReadings
    ∷ found (first_place (length readings) (λ i. not (reading_in_range (get_or readings i 0)))) ReadingRange
    ∷ found (first_place (length sums) (impossible_at engine.absent (possible_in engine b.in_force) (length sums) b.fed (length readings) sums)) EntryNotPossible
    ∷ []

abbrev pub feed_checks_in : {E : Type 0} → Engine E → Board → List ℕ → List E → List Answer
feed_checks_in engine b readings sums = ramp_checks b (length sums) ++ reading_checks_in engine b readings sums

-- more readings are fed
abbrev pub extended : ℕ → Board → Board
extended count b = with_ramp b.running (b.fed + count) b

unfoldable pub feed_in : {E : Type 0} → Engine E → Board → List ℕ → List E → Outcome
feed_in engine b readings sums = leaves (verdict (feed_checks_in engine b readings sums)) (extended (length readings) b) b

-- the sums as Feed leaves them
unfoldable pub fed_sums_in : {E : Type 0} → Engine E → Board → List ℕ → List E → List E
fed_sums_in engine b readings sums =
    by_answer (verdict (feed_checks_in engine b readings sums)) (sums_in engine b.in_force b.fed readings sums) sums

-- ---- in whole numbers

abbrev pub feed_of : Board → List ℕ → List ℤ → Outcome
feed_of b readings sums = feed_in in_whole_numbers b readings sums

abbrev pub fed_sums : Board → List ℕ → List ℤ → List ℤ
fed_sums b readings sums = fed_sums_in in_whole_numbers b readings sums
