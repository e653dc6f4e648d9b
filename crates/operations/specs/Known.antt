-- Known answers of the operations, in tables that one statement covers: a row for each two checks that follow each other, where both would refuse, and one for
-- each side of a bound.
use Rattle.std.specs.Prelude.{ℕ, true, false, List, [], ◌∷◌, ◌≡◌, ℤ, pos, neg_ℤ, replicate, map, Result, Bool, Ok, Err}
use Rattle.std.specs.Float.{binary64}
use Rattle.std.specs.Float.Ieee.{of_bits}
use Rattle.laws.specs.Tables.{AllHold}
use Rattle.settings.specs.Settings.{defaults, with_weights, with_threshold, with_truncation, with_samples}
use Rattle.checks.specs.declared.Reason.{Reason}
use Rattle.checks.specs.declared.Reason.TheVariants.{ShortRecord, RampRunning, NoRamp, SumsLength, TooManyReadings, ReadingRange, EntryNotPossible, ReadingsWanted, WordsLength, UnsoundBoard}
use Rattle.checks.specs.declared.Refusal.{Refusal}
use Rattle.checks.specs.Checks.{Answer, refusal}
use Rattle.entries.specs.Mark.{mark}
use Rattle.engines.specs.Engine.{Kind, whole_numbers, floats, Entry, in_floats, engine_of}
use Rattle.board.specs.declared.Board.{Board}
use Rattle.board.specs.Board.{Outcome, opened, with_settings, with_ramp}
use Rattle.operations.specs.Update.{update_of}
use Rattle.operations.specs.Ramp.{start_of, drop_of}
use Rattle.operations.specs.Feed.{feed_in, feed_of}
use Rattle.operations.specs.ReadOut.{read_out_in, read_out_of}
use Rattle.operations.specs.Covered.{coverage_of}

-- a call on a board, and its answer; and the board that a call leaves
pub data Known : Type 0 where
  update : (b : Board) (bytes : List ℕ) (answer : Answer) → Known
  start : (b : Board) (answer : Answer) → Known
  feed_by : (kind : Kind) (b : Board) (readings : List ℕ) (sums : List (Entry kind)) (answer : Answer) → Known
  read_out_by : (kind : Kind) (b : Board) (sums : List (Entry kind)) (output : List ℕ) (answer : Answer) → Known
  drop : (b : Board) (answer : Answer) → Known
  covered : (b : Board) (says : Result Bool Refusal) → Known
  leaves : (outcome : Outcome) (left : Board) → Known

-- it follows from the definitions
abbrev pub Holds : Known → Type 0
Holds (update b bytes answer) = (update_of b bytes).answer ≡ answer
Holds (start b answer) = (start_of b).answer ≡ answer
Holds (feed_by kind b readings sums answer) = (feed_in (engine_of kind) b readings sums).answer ≡ answer
Holds (read_out_by kind b sums output answer) = (read_out_in (engine_of kind) b sums output).answer ≡ answer
Holds (drop b answer) = (drop_of b).answer ≡ answer
Holds (covered b says) = coverage_of b ≡ says
Holds (leaves outcome left) = outcome.board ≡ left

-- in whole numbers
abbrev feed : Board → List ℕ → List ℤ → Answer → Known
feed b readings sums answer = feed_by whole_numbers b readings sums answer

abbrev read_out : Board → List ℤ → List ℕ → Answer → Known
read_out b sums output answer = read_out_by whole_numbers b sums output answer

-- in floats, each by its 64-bit pattern
abbrev float_feed : Board → List ℕ → List ℕ → Answer → Known
float_feed b readings patterns answer = feed_by floats b readings (map (of_bits binary64) patterns) answer

abbrev float_read_out : Board → List ℕ → List ℕ → Answer → Known
float_read_out b patterns output answer = read_out_by floats b (map (of_bits binary64) patterns) output answer

-- refused for a reason at a place
abbrev at : Reason → ℕ → Answer
at reason place = Err (record { reason = reason; place = place })

-- a board of one pixel with the defaults: a ramp wants nine readings
abbrev idle : Board
idle = opened 1 1 false

-- its ramp, with so many readings fed
abbrev fed : ℕ → Board
fed count = with_ramp true count idle

-- boards that aren't sound: fed while no ramp runs, and fed more than a ramp wants
abbrev fed_idle : Board
fed_idle = with_ramp false 1 idle

abbrev overfed : Board
overfed = fed 10

-- N is 1 in force and 9 waiting; the ramp's one reading is fed
abbrev short : Board
short = with_settings defaults (with_samples 1 defaults) (fed 1)

-- two pixels in a row, with so many readings fed
abbrev two : ℕ → Board
two count = with_ramp true count (opened 2 1 false)

-- one square, with all its readings fed
abbrev square : Board
square = with_ramp true 36 (opened 2 2 true)

abbrev pub updates : List Known
updates =
    -- 99 before 2; 2 to 8 are the record's own
    update overfed [] (at UnsoundBoard 0)
    ∷ update idle [] (at ShortRecord 0)
    ∷ update idle (0 ∷ 0 ∷ []) (Ok tt)
    -- at any time
    ∷ update (fed 4) (0 ∷ 0 ∷ []) (Ok tt)
    ∷ []

abbrev pub starts : List Known
starts =
    -- 99 before 9
    start overfed (at UnsoundBoard 0)
    ∷ start (fed 0) (at RampRunning 0)
    ∷ start idle (Ok tt)
    ∷ []

abbrev pub feeds : List Known
feeds =
    -- 99 before 10, 10 before 11, 11 before 12, 12 before 13, 13 before 14
    feed fed_idle [] [] (at UnsoundBoard 0)
    ∷ feed idle [] [] (at NoRamp 0)
    ∷ feed (fed 0) (replicate 10 16384) [] (at SumsLength 0)
    ∷ feed (fed 0) (replicate 10 16384) (pos 0 ∷ []) (at TooManyReadings 0)
    ∷ feed (fed 1) (16384 ∷ []) (pos 245874 ∷ []) (at ReadingRange 0)
    ∷ feed (fed 1) (16383 ∷ []) (pos 245874 ∷ []) (at EntryNotPossible 0)
    -- 11: a sum too many
    ∷ feed (fed 0) [] (pos 0 ∷ pos 0 ∷ []) (at SumsLength 0)
    -- 12: nine readings are taken, at once or after others, and no tenth
    ∷ feed (fed 0) (replicate 9 0) (pos 0 ∷ []) (Ok tt)
    ∷ feed (fed 0) (replicate 10 0) (pos 0 ∷ []) (at TooManyReadings 0)
    ∷ feed (fed 8) (0 ∷ []) (pos 0 ∷ []) (Ok tt)
    ∷ feed (fed 9) (0 ∷ []) (pos 0 ∷ []) (at TooManyReadings 0)
    ∷ feed short (0 ∷ []) (pos 0 ∷ []) (at TooManyReadings 0)
    -- 13: the first of two
    ∷ feed (fed 0) (16383 ∷ 16384 ∷ 65535 ∷ []) (pos 0 ∷ []) (at ReadingRange 1)
    -- 14 at k = 1: 128 ± 245,745, and the mark of sample 1
    ∷ feed (fed 1) (0 ∷ []) (pos 245873 ∷ []) (Ok tt)
    ∷ feed (fed 1) (0 ∷ []) (neg_ℤ (pos 245617) ∷ []) (Ok tt)
    ∷ feed (fed 1) (0 ∷ []) (neg_ℤ (pos 245618) ∷ []) (at EntryNotPossible 0)
    ∷ feed (fed 1) (0 ∷ []) (mark 1 ∷ []) (Ok tt)
    ∷ feed (fed 1) (0 ∷ []) (mark 2 ∷ []) (at EntryNotPossible 0)
    ∷ feed (fed 2) (0 ∷ []) (mark 2 ∷ []) (Ok tt)
    -- 14 asks for entries that the ramp has written and that get a reading, and tells the first in the sums
    ∷ feed (fed 0) (0 ∷ []) (pos 245874 ∷ []) (Ok tt)
    ∷ feed (fed 1) [] (pos 245874 ∷ []) (Ok tt)
    ∷ feed (two 1) (0 ∷ []) (pos 245874 ∷ pos 245874 ∷ []) (Ok tt)
    ∷ feed (two 1) (0 ∷ 0 ∷ []) (pos 245874 ∷ pos 245874 ∷ []) (at EntryNotPossible 0)
    ∷ feed (two 2) (0 ∷ []) (pos 0 ∷ pos 245874 ∷ []) (Ok tt)
    ∷ feed (two 2) (0 ∷ 0 ∷ []) (pos 0 ∷ pos 245874 ∷ []) (at EntryNotPossible 1)
    ∷ feed (two 3) (0 ∷ 0 ∷ []) (pos 491619 ∷ pos 245874 ∷ []) (at EntryNotPossible 0)
    -- k is what it was when the call came, of all its readings
    ∷ feed (fed 1) (0 ∷ 0 ∷ []) (pos 245874 ∷ []) (at EntryNotPossible 0)
    ∷ feed (fed 1) (0 ∷ 0 ∷ []) (mark 2 ∷ []) (at EntryNotPossible 0)
    ∷ []

abbrev pub read_outs : List Known
read_outs =
    -- 99 before 10, 10 before 11, 11 before 15, 15 before 16, 16 before 14
    read_out fed_idle [] [] (at UnsoundBoard 0)
    ∷ read_out idle [] [] (at NoRamp 0)
    ∷ read_out (fed 8) [] [] (at SumsLength 0)
    ∷ read_out (fed 8) (pos 2211834 ∷ []) [] (at ReadingsWanted 0)
    ∷ read_out (fed 9) (pos 2211834 ∷ []) [] (at WordsLength 0)
    ∷ read_out (fed 9) (pos 2211834 ∷ []) (0 ∷ []) (at EntryNotPossible 0)
    ∷ read_out (fed 9) (pos 2211833 ∷ []) (0 ∷ []) (Ok tt)
    -- 11: a sum too many
    ∷ read_out (fed 9) (pos 0 ∷ pos 0 ∷ []) (0 ∷ []) (at SumsLength 0)
    -- 16: a word too many; a square has one word
    ∷ read_out (fed 9) (pos 0 ∷ []) (0 ∷ 0 ∷ []) (at WordsLength 0)
    ∷ read_out square (replicate 4 (pos 0)) (0 ∷ []) (Ok tt)
    ∷ read_out square (replicate 4 (pos 0)) (replicate 4 0) (at WordsLength 0)
    -- 14: k is the N in force
    ∷ read_out short (pos 245873 ∷ []) (0 ∷ []) (Ok tt)
    ∷ read_out short (pos 245874 ∷ []) (0 ∷ []) (at EntryNotPossible 0)
    ∷ read_out (fed 9) (neg_ℤ (pos 2211577) ∷ []) (0 ∷ []) (Ok tt)
    ∷ read_out (fed 9) (neg_ℤ (pos 2211578) ∷ []) (0 ∷ []) (at EntryNotPossible 0)
    ∷ read_out (fed 9) (mark 9 ∷ []) (0 ∷ []) (Ok tt)
    ∷ read_out (fed 9) (mark 10 ∷ []) (0 ∷ []) (at EntryNotPossible 0)
    ∷ read_out short (mark 1 ∷ []) (0 ∷ []) (Ok tt)
    ∷ read_out short (mark 2 ∷ []) (0 ∷ []) (at EntryNotPossible 0)
    -- the first of two, and the last entry too
    ∷ read_out (two 18) (pos 2211834 ∷ pos 2211834 ∷ []) (0 ∷ 0 ∷ []) (at EntryNotPossible 0)
    ∷ read_out (two 18) (pos 0 ∷ pos 2211834 ∷ []) (0 ∷ 0 ∷ []) (at EntryNotPossible 1)
    ∷ []

-- no number, of two patterns, the two infinities, -0, 128.5, 0.25 and 2^32 + 128
abbrev strange_floats : List ℕ
strange_floats =
    0x7ff8_0000_0000_0000
    ∷ 0xfff0_0000_0000_0001
    ∷ 0x7ff0_0000_0000_0000
    ∷ 0xfff0_0000_0000_0000
    ∷ 0x8000_0000_0000_0000
    ∷ 0x4060_1000_0000_0000
    ∷ 0x3fd0_0000_0000_0000
    ∷ 0x41f0_0000_0800_0000
    ∷ []

abbrev no_number : ℕ
no_number = 0x7ff8_0000_0000_0000

abbrev pub float_feeds : List Known
float_feeds =
    -- 13 before 14
    float_feed (fed 1) (16384 ∷ []) (no_number ∷ []) (at ReadingRange 0)
    -- 0, 128 and the mark of sample 1; the mark of sample 2, which comes later
    ∷ float_feed (fed 1) (0 ∷ []) (0x0000_0000_0000_0000 ∷ []) (Ok tt)
    ∷ float_feed (fed 1) (0 ∷ []) (0x4060_0000_0000_0000 ∷ []) (Ok tt)
    ∷ float_feed (fed 1) (0 ∷ []) (0x41d0_0000_0040_0000 ∷ []) (Ok tt)
    ∷ float_feed (fed 1) (0 ∷ []) (0x41d0_0000_0080_0000 ∷ []) (at EntryNotPossible 0)
    -- sample 1 looks at no entry, nor does a Feed with no reading for it
    ∷ float_feed (fed 0) (0 ∷ []) (no_number ∷ []) (Ok tt)
    ∷ float_feed (fed 1) [] (no_number ∷ []) (Ok tt)
    ∷ float_feed (two 1) (0 ∷ []) (no_number ∷ no_number ∷ []) (Ok tt)
    ∷ float_feed (two 2) (0 ∷ []) (0x4060_0000_0000_0000 ∷ no_number ∷ []) (Ok tt)
    -- the place of the first
    ∷ float_feed (two 2) (0 ∷ 0 ∷ []) (0x4060_0000_0000_0000 ∷ no_number ∷ []) (at EntryNotPossible 1)
    ∷ float_feed (two 2) (0 ∷ 0 ∷ []) (0x8000_0000_0000_0000 ∷ no_number ∷ []) (at EntryNotPossible 0)
    -- none of these is an entry after sample 1
    ∷ map (λ pattern. float_feed (fed 1) (0 ∷ []) (pattern ∷ []) (at EntryNotPossible 0)) strange_floats

abbrev pub float_read_outs : List Known
float_read_outs =
    -- 16 before 14
    float_read_out (fed 9) (no_number ∷ []) [] (at WordsLength 0)
    -- 0; the largest sum, and one more; the mark of sample 9, and of sample 10
    ∷ float_read_out (fed 9) (0x0000_0000_0000_0000 ∷ []) (0 ∷ []) (Ok tt)
    ∷ float_read_out (fed 9) (0x4140_dffc_8000_0000 ∷ []) (0 ∷ []) (Ok tt)
    ∷ float_read_out (fed 9) (0x4140_dffd_0000_0000 ∷ []) (0 ∷ []) (at EntryNotPossible 0)
    ∷ float_read_out (fed 9) (0x41d0_0000_0240_0000 ∷ []) (0 ∷ []) (Ok tt)
    ∷ float_read_out (fed 9) (0x41d0_0000_0280_0000 ∷ []) (0 ∷ []) (at EntryNotPossible 0)
    -- the place of the first
    ∷ float_read_out (two 18) (0x4060_0000_0000_0000 ∷ no_number ∷ []) (0 ∷ 0 ∷ []) (at EntryNotPossible 1)
    ∷ float_read_out (two 18) (0x8000_0000_0000_0000 ∷ no_number ∷ []) (0 ∷ 0 ∷ []) (at EntryNotPossible 0)
    -- none of these is an entry after sample 9
    ∷ map (λ pattern. float_read_out (fed 9) (pattern ∷ []) (0 ∷ []) (at EntryNotPossible 0)) strange_floats

abbrev pub drops : List Known
drops =
    -- 99 before 10
    drop fed_idle (at UnsoundBoard 0)
    ∷ drop idle (at NoRamp 0)
    ∷ drop (fed 0) (Ok tt)
    ∷ drop (fed 9) (Ok tt)
    ∷ []

abbrev pub coverages : List Known
coverages =
    covered fed_idle (Err (refusal UnsoundBoard))
    ∷ covered idle (Ok true)
    -- the settings in force, with others waiting
    ∷ covered (with_settings defaults (with_threshold 13088 defaults) idle) (Ok false)
    ∷ covered (with_settings (with_threshold 13088 defaults) defaults idle) (Ok true)
    -- r = 1 and r = 3; only the weights up to N
    ∷ covered (with_settings defaults (with_truncation 1 (with_threshold 6537 defaults)) idle) (Ok true)
    ∷ covered (with_settings defaults (with_truncation 1 (with_threshold 6538 defaults)) idle) (Ok false)
    ∷ covered (with_settings defaults (with_truncation 3 (with_threshold 1939 (with_weights (replicate 9 (pos 15)) defaults))) idle) (Ok true)
    ∷ covered (with_settings defaults (with_truncation 3 (with_threshold 1940 (with_weights (replicate 9 (pos 15)) defaults))) idle) (Ok false)
    ∷ covered (with_settings defaults (with_samples 8 (with_threshold 16383 defaults)) idle) (Ok true)
    ∷ []

-- Start begins a ramp by the waiting settings, with nothing fed; Feed counts its readings; Read out and Drop end the ramp and keep both settings; what is
-- refused leaves the board
abbrev pub boards : List Known
boards =
    leaves (start_of (with_settings (with_threshold 1 defaults) defaults idle)) (with_settings (with_threshold 1 defaults) (with_threshold 1 defaults) (fed 0))
    ∷ leaves (start_of (fed 4)) (fed 4)
    ∷ leaves (feed_of (fed 2) (0 ∷ 0 ∷ []) (pos 0 ∷ [])) (fed 4)
    ∷ leaves (feed_of (fed 9) (0 ∷ []) (pos 0 ∷ [])) (fed 9)
    ∷ leaves (feed_in in_floats (fed 2) (0 ∷ 0 ∷ []) (of_bits binary64 0 ∷ [])) (fed 4)
    ∷ leaves (read_out_of short (pos 0 ∷ []) (0 ∷ [])) (with_settings defaults (with_samples 1 defaults) idle)
    ∷ leaves (read_out_of (fed 8) (pos 0 ∷ []) (0 ∷ [])) (fed 8)
    ∷ leaves (read_out_in in_floats short (of_bits binary64 0 ∷ []) (0 ∷ [])) (with_settings defaults (with_samples 1 defaults) idle)
    ∷ leaves (drop_of short) (with_settings defaults (with_samples 1 defaults) idle)
    ∷ leaves (drop_of idle) idle
    ∷ []

-- every row follows from the definitions
pub record AllKnown : Type 0 where
  pub updates_known : AllHold Holds updates
  pub starts_known : AllHold Holds starts
  pub feeds_known : AllHold Holds feeds
  pub read_outs_known : AllHold Holds read_outs
  pub float_feeds_known : AllHold Holds float_feeds
  pub float_read_outs_known : AllHold Holds float_read_outs
  pub drops_known : AllHold Holds drops
  pub coverages_known : AllHold Holds coverages
  pub boards_known : AllHold Holds boards
