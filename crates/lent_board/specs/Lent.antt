-- The operations on a board in lent memory: what they leave of its words.
use Rattle.std.specs.Prelude.{ℕ, Bool, not, eqb, List, [], ◌∷◌, ℤ, length}
use Rattle.checks.specs.declared.Reason.TheVariants.{UnsoundBoard}
use Rattle.checks.specs.Checks.{Answer, when, verdict, by_answer}
use Rattle.board.specs.Board.{Outcome}
use Rattle.board.specs.Open.{open_of}
use Rattle.board_words.specs.Words.{board_length, words_of}

-- a taken operation leaves the words of the board that it leaves, a refused one the words as they were
abbrev pub words_left : Outcome → List ℤ → List ℤ
words_left outcome words = by_answer outcome.answer (words_of outcome.board) words

-- Open looks only at how many words there are. 99: not as many as a board takes. Then 1
unfoldable pub open_answer : List ℤ → ℕ → ℕ → Bool → Answer
open_answer words width height binned = verdict (when (not (eqb (length words) board_length)) UnsoundBoard ∷ (open_of width height binned).answer ∷ [])

unfoldable pub opened_words : List ℤ → ℕ → ℕ → Bool → List ℤ
opened_words words width height binned = by_answer (open_answer words width height binned) (words_of (open_of width height binned).board) words
