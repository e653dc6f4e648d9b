-- One frame: a board is opened, updated with a record and started, all readings are fed at once, and the frame is read out. Each operation gets the board that
-- the one before left, and Read out the sums that Feed left.
use Rattle.std.specs.Prelude.{ℕ, Bool, List, [], ◌∷◌, ℤ}
use Rattle.checks.specs.Checks.{Answer, first, verdict, by_answer}
use Rattle.board.specs.declared.Board.{Board}
use Rattle.board.specs.Board.{Outcome}
use Rattle.board.specs.Open.{open_of}
use Rattle.begin.specs.Begin.{updated, started}
use Rattle.operations.specs.Feed.{feed_of, fed_sums}
use Rattle.operations.specs.ReadOut.{read_out_of, read_out_words}

-- ---- On a board that was begun

-- Read out after a Feed
abbrev pub read_out_after : Board → List ℕ → List ℤ → List ℕ → Outcome
read_out_after b readings sums output = read_out_of (feed_of b readings sums).board (fed_sums b readings sums) output

-- the first refusal of the two; taken if neither refuses
unfoldable pub frame_answer_on : Board → List ℕ → List ℤ → List ℕ → Answer
frame_answer_on b readings sums output = first (feed_of b readings sums).answer (read_out_after b readings sums output).answer

-- the sums and the words as the two leave them; after a refusal, whichever operation's, as they were
unfoldable pub frame_sums_on : Board → List ℕ → List ℤ → List ℕ → List ℤ
frame_sums_on b readings sums output = by_answer (frame_answer_on b readings sums output) (fed_sums b readings sums) sums

unfoldable pub frame_words_on : Board → List ℕ → List ℤ → List ℕ → List ℕ
frame_words_on b readings sums output = by_answer (frame_answer_on b readings sums output) (read_out_words (feed_of b readings sums).board (fed_sums b readings sums) output) output

-- ---- From sides and a record

-- the first refusal of the five; taken if none refuses
unfoldable pub frame_answer : ℕ → ℕ → Bool → List ℕ → List ℕ → List ℤ → List ℕ → Answer
frame_answer width height binned bytes readings sums output =
    let b = (started width height binned bytes).board in
    verdict (
    (open_of width height binned).answer
    ∷ (updated width height binned bytes).answer
    ∷ (started width height binned bytes).answer
    ∷ (feed_of b readings sums).answer
    ∷ (read_out_after b readings sums output).answer
    ∷ []
    )

-- the sums and the words as the chain leaves them; after a refusal, whichever operation's, as they were
unfoldable pub frame_sums : ℕ → ℕ → Bool → List ℕ → List ℕ → List ℤ → List ℕ → List ℤ
frame_sums width height binned bytes readings sums output =
    by_answer (frame_answer width height binned bytes readings sums output) (fed_sums (started width height binned bytes).board readings sums) sums

unfoldable pub frame_words : ℕ → ℕ → Bool → List ℕ → List ℕ → List ℤ → List ℕ → List ℕ
frame_words width height binned bytes readings sums output =
    let b = (started width height binned bytes).board in
    by_answer
    (frame_answer width height binned bytes readings sums output)
    (read_out_words (feed_of b readings sums).board (fed_sums b readings sums) output)
    output
