-- Calls on a board in lent memory, as C, Rust and Python make them. Lists of them are the lists of calls on a board, so the demands hold of them.
use Rattle.std.specs.Prelude.{ℕ, Bool, true, cond, eqb, List, [], ◌∷◌, ◌↔◌, ◌⊎◌, ◌≡◌, ℤ, length, Ok, Err}
use Rattle.checks.specs.declared.Reason.TheVariants.{UnsoundBoard}
use Rattle.checks.specs.declared.Refusal.{Refusal}
use Rattle.checks.specs.Checks.{refusal}
use Rattle.board.specs.declared.Board.{Board}
use Rattle.board.specs.Board.{sound}
use Rattle.board.specs.Open.{open_of}
use Rattle.operations.specs.Update.{update_of}
use Rattle.operations.specs.Ramp.{start_of, drop_of}
use Rattle.operations.specs.Feed.{feed_in}
use Rattle.operations.specs.ReadOut.{read_out_in}
use Rattle.history.specs.Calls.{engine, Call, update, start, feed, read_out, drop, ask, refused_given, outcome_of, given_by_board, State, after, opening}
use Rattle.history.specs.Demands.{Every, AtSome, Demand1, RefusedChangesNothing, Sound, Demand2, SaidCovered, NoFalseWord, HandedOnPossible, AnyRampFollows, WaitingStays}
use Rattle.history.specs.Engines.{StoredExactly, EqualFrames}
use Rattle.board_words.specs.Words.{board_length, words_of, held}
use Rattle.lent_board.specs.Lent.{words_left, open_answer, opened_words}

-- ---- one call

-- what a call leaves of the words, as its function's contract in `lent_board` says; Covered only reads them
abbrev pub words_after : List ℤ → Call → List ℤ
words_after words (update bytes) = words_left (update_of (held words) bytes) words
words_after words start = words_left (start_of (held words)) words
words_after words (feed readings sums) = words_left (feed_in (engine sums) (held words) readings sums.entries) words
words_after words (read_out sums output) = words_left (read_out_in (engine sums) (held words) sums.entries output) words
words_after words drop = words_left (drop_of (held words)) words
words_after words (ask question) = words

-- what a call finds: the board is the one that the words hold
abbrev pub found_in : State → List ℤ → State
found_in at words = record at { board = held words }

-- a call writes nothing: every word is as it was, the buffers are as it brought them, and there is no reply
pub record NothingWritten (words : List ℤ) (c : Call) : Type 0 where
  pub words_stay : words_after words c ≡ words
  pub given : given_by_board (held words) c ≡ refused_given c

-- ---- lists

-- at each call of a list: the next call finds the words that this one left
abbrev pub EveryLent : (State → Call → Type 0) → State → List ℤ → List Call → Type 0
EveryLent P at words [] = Unit {0}
EveryLent P at words (c ∷ calls) = P (found_in at words) c × EveryLent P (after (found_in at words) c) (words_after words c) calls

-- at some call of a list
abbrev pub AtSomeLent : (State → Call → Type 0) → State → List ℤ → List Call → Type 0
AtSomeLent P at words [] = ⊥
AtSomeLent P at words (c ∷ calls) = P (found_in at words) c ⊎ AtSomeLent P (after (found_in at words) c) (words_after words c) calls

-- at every call of every list after a taken Open, whatever the words were before it
abbrev pub AlwaysLent : (State → Call → Type 0) → Type 0
AlwaysLent P =
    (w h : ℕ) (binned : Bool) (words : List ℤ) → open_answer words w h binned ≡ Ok tt
    → (calls : List Call) → EveryLent P (opening w h binned) (opened_words words w h binned) calls

-- ---- the laws

pub record LentLaws : Type 1 where
  -- Open answers as on a board where there are as many words as a board takes, and 99 for any other number of words
  pub open_answers : (words : List ℤ) (w h : ℕ) (binned : Bool)
      → open_answer words w h binned ≡ cond (eqb (length words) board_length) (open_of w h binned).answer (Err (refusal UnsoundBoard))
  -- the words that a taken Open left hold the board that it gives
  pub opened_reads_back : (words : List ℤ) (w h : ℕ) (binned : Bool) → open_answer words w h binned ≡ Ok tt
      → held (opened_words words w h binned) ≡ (open_of w h binned).board
  -- those that a call leaves, taken or refused, hold the board that it leaves, whatever they were before
  pub reads_back : (words : List ℤ) (c : Call) → held (words_after words c) ≡ (outcome_of (held words) c).board
  -- a refused call writes nothing, and a refused Open leaves every word
  pub refused_leaves : (words : List ℤ) (c : Call) (r : Refusal) → (outcome_of (held words) c).answer ≡ Err r → NothingWritten words c
  pub refused_open_leaves : (words : List ℤ) (w h : ℕ) (binned : Bool) (r : Refusal) → open_answer words w h binned ≡ Err r → opened_words words w h binned ≡ words
  -- words that are not those of a sound board, too few or too many among them, get 99 from every call
  pub others_99 : (words : List ℤ) → ((b : Board) → sound b ≡ true → words ≡ words_of b → ⊥)
      → (c : Call) → (outcome_of (held words) c).answer ≡ Err (refusal UnsoundBoard)
  -- where the words hold a board, a list of calls on them is the list of calls on the board: what holds at each call of one, or at some call, holds so of the other
  pub same_lists : (P : State → Call → Type 0) (at : State) (words : List ℤ) → held words ≡ at.board
      → (calls : List Call) → Every P at calls ↔ EveryLent P at words calls
  pub same_some : (P : State → Call → Type 0) (at : State) (words : List ℤ) → held words ≡ at.board
      → (calls : List Call) → AtSome P at calls ↔ AtSomeLent P at words calls
  -- so the demands hold
  pub demand_1 : AlwaysLent Demand1
  pub refused_changes_nothing : AlwaysLent RefusedChangesNothing
  pub sound : AlwaysLent Sound
  pub demand_2 : AlwaysLent Demand2
  pub demand_3 : AlwaysLent (λ at c. SaidCovered at → NoFalseWord at c)
  pub handed_on_possible : AlwaysLent HandedOnPossible
  -- by `same_some`, the calls that it promises can be made on the words
  pub any_ramp_follows : AlwaysLent AnyRampFollows
  -- and where the waiting settings stay as they were, Covered says "covered" at every call, and no word of any frame is false
  pub defaults_covered : (w h : ℕ) (binned : Bool) (words : List ℤ) → open_answer words w h binned ≡ Ok tt → (calls : List Call)
      → EveryLent WaitingStays (opening w h binned) (opened_words words w h binned) calls
      → EveryLent (λ at c. SaidCovered at × NoFalseWord at c) (opening w h binned) (opened_words words w h binned) calls
  -- and what is true of both engines
  pub stored_exactly : AlwaysLent StoredExactly
  pub equal_frames : AlwaysLent (λ at c. AlwaysLent (λ other d. EqualFrames at c other d))
