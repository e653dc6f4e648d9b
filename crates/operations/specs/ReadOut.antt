-- Read out, of an engine. A taken one ends the ramp.
use Rattle.std.specs.Prelude.{ℕ, not, List, [], ◌∷◌, ◌++◌, ltb, eqb, ℤ, length, get_or}
use Rattle.checks.specs.declared.Reason.TheVariants.{EntryNotPossible, ReadingsWanted, WordsLength}
use Rattle.checks.specs.Search.{first_place}
use Rattle.checks.specs.Checks.{Answer, when, found, verdict, by_answer}
use Rattle.engines.specs.Engine.{Engine, possible_in, in_whole_numbers}
use Rattle.encoding.specs.Frame.{word_count, frame_in}
use Rattle.board.specs.declared.Board.{Board}
use Rattle.board.specs.Board.{Outcome, board_area, wanted, ended, leaves}
use Rattle.board.specs.RampChecks.{ramp_checks}

-- 15: the ramp wants more readings. 16: the output isn't one word for each pixel, or for each square if binned. 14: an entry isn't possible for k = N; the place is
-- the smallest such index
abbrev pub output_checks_in : {E : Type 0} → Engine E → Board → List E → ℕ → List Answer
output_checks_in engine b sums outputLength =
    when (ltb b.fed (wanted b)) ReadingsWanted
    ∷ when (not (eqb outputLength (word_count b.sides.binned (board_area b)))) WordsLength
    ∷ found (first_place (length sums) (λ p. not (possible_in engine b.in_force b.in_force.samples (get_or sums p engine.absent)))) EntryNotPossible
    ∷ []

abbrev pub read_out_checks_in : {E : Type 0} → Engine E → Board → List E → List ℕ → List Answer
read_out_checks_in engine b sums output = ramp_checks b (length sums) ++ output_checks_in engine b sums (length output)

unfoldable pub read_out_in : {E : Type 0} → Engine E → Board → List E → List ℕ → Outcome
read_out_in engine b sums output = leaves (verdict (read_out_checks_in engine b sums output)) (ended b) b

-- the output as Read out leaves it; the sums are only read
unfoldable pub read_out_words_in : {E : Type 0} → Engine E → Board → List E → List ℕ → List ℕ
read_out_words_in engine b sums output =
    by_answer (verdict (read_out_checks_in engine b sums output)) (frame_in engine b.sides.width b.sides.binned b.in_force.truncation sums) output

-- ---- in whole numbers

abbrev pub read_out_of : Board → List ℤ → List ℕ → Outcome
read_out_of b sums output = read_out_in in_whole_numbers b sums output

abbrev pub read_out_words : Board → List ℤ → List ℕ → List ℕ
read_out_words b sums output = read_out_words_in in_whole_numbers b sums output
