-- Known answers of Open on words, and words that calls leave, in one table that one statement covers. `proofs/Known.antt` shows it.
use Rattle.std.specs.Prelude.{ℕ, Bool, true, false, List, [], ◌∷◌, ◌++◌, ◌≡◌, ℤ, pos, neg_ℤ, replicate, Ok, Err}
use Rattle.laws.specs.Tables.{AllHold}
use Rattle.checks.specs.declared.Reason.TheVariants.{BadSides, UnsoundBoard}
use Rattle.checks.specs.Checks.{Answer, refusal}
use Rattle.operations.specs.Ramp.{start_of, drop_of}
use Rattle.board_words.specs.Words.{held}
use Rattle.lent_board.specs.Lent.{open_answer, opened_words, words_left}

-- Open on so many words of 7, its answer, and the words that it leaves; and words, with those that Start or Drop leaves
pub data Known : Type 0 where
  opens : (count width height : ℕ) (binned : Bool) (answer : Answer) (after : List ℤ) → Known
  starts : (words after : List ℤ) → Known
  drops : (words after : List ℤ) → Known

-- the words of the defaults
abbrev default_words : List ℤ
default_words =
    neg_ℤ (pos 4) ∷ neg_ℤ (pos 3) ∷ neg_ℤ (pos 2) ∷ neg_ℤ (pos 1) ∷ pos 0 ∷ pos 1 ∷ pos 2 ∷ pos 3 ∷ pos 4
    ∷ pos 13087 ∷ pos 2 ∷ pos 9
    ∷ []

-- the words of a board of 6 by 4 that isn't binned: just opened, and with a ramp
abbrev idle_words : List ℤ
idle_words = (pos 6 ∷ pos 4 ∷ pos 0 ∷ pos 0 ∷ pos 0 ∷ []) ++ default_words ++ default_words

abbrev running_words : List ℤ
running_words = (pos 6 ∷ pos 4 ∷ pos 0 ∷ pos 1 ∷ pos 0 ∷ []) ++ default_words ++ default_words

-- of one that is binned, just opened
abbrev binned_words : List ℤ
binned_words = (pos 6 ∷ pos 4 ∷ pos 1 ∷ pos 0 ∷ pos 0 ∷ []) ++ default_words ++ default_words

abbrev sevens : ℕ → List ℤ
sevens count = replicate count (pos 7)

-- a row follows from the definitions
abbrev pub Holds : Known → Type 0
Holds (opens count width height binned answer after) = (open_answer (sevens count) width height binned ≡ answer) × (opened_words (sevens count) width height binned ≡ after)
Holds (starts words after) = words_left (start_of (held words)) words ≡ after
Holds (drops words after) = words_left (drop_of (held words)) words ≡ after

abbrev pub table : List Known
table =
    -- whatever the 29 words hold, they are a board's then
    opens 29 6 4 false (Ok tt) idle_words
    ∷ opens 29 6 4 true (Ok tt) binned_words
    ∷ opens 28 6 4 false (Err (refusal UnsoundBoard)) (sevens 28)
    ∷ opens 30 6 4 false (Err (refusal UnsoundBoard)) (sevens 30)
    ∷ opens 0 6 4 false (Err (refusal UnsoundBoard)) []
    -- 99 before 1
    ∷ opens 28 0 4 false (Err (refusal UnsoundBoard)) (sevens 28)
    ∷ opens 29 0 4 false (Err (refusal BadSides)) (sevens 29)
    ∷ opens 29 6 5 true (Err (refusal BadSides)) (sevens 29)
    -- a taken call leaves the words of the board that it leaves
    ∷ starts idle_words running_words
    ∷ drops running_words idle_words
    -- a refused one leaves the words as they were: words that hold no board, and those of a board
    ∷ starts (sevens 29) (sevens 29)
    ∷ starts (sevens 3) (sevens 3)
    ∷ drops [] []
    ∷ starts running_words running_words
    ∷ drops idle_words idle_words
    ∷ []

-- every row follows from the definitions
abbrev pub AllKnown : Type 0
AllKnown = AllHold Holds table
