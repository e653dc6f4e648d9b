-- What must be true of a board in lent memory, beside the contracts. `proofs/Laws.antt` shows it.
use Rattle.std.specs.Prelude.{true, List, ◌≡◌, ℤ}
use Rattle.board.specs.declared.Board.{Board}
use Rattle.board.specs.Board.{sound}
use Rattle.board_words.specs.Words.{words_of, held}

pub record WordsLaws : Type 0 where
  -- the words of a sound board hold that board
  pub reads_back : (b : Board) → sound b ≡ true → held (words_of b) ≡ b
  -- words that hold a sound board are the words of that board
  pub no_other : (words : List ℤ) → sound (held words) ≡ true → words ≡ words_of (held words)
