-- Known words of boards, and words that hold no board, in one table that one statement covers. `proofs/Known.antt` shows it.
use Rattle.std.specs.Prelude.{ℕ, true, false, List, [], ◌∷◌, ◌++◌, ◌≡◌, ℤ, pos, neg_ℤ, take, set}
use Rattle.laws.specs.Tables.{AllHold}
use Rattle.settings.specs.declared.Settings.{Settings}
use Rattle.settings.specs.Settings.{with_weights, with_threshold}
use Rattle.board.specs.declared.Board.{Board}
use Rattle.board.specs.Board.{with_settings, with_ramp}
use Rattle.board.specs.Open.{no_board}
use Rattle.board_words.specs.Words.{words_of, held}

-- a board and its words, each from the other; words, and the board that they hold; words that hold none; `running_words` with word i another one, which hold
-- none
pub data Known : Type 0 where
  board : (b : Board) (words : List ℤ) → Known
  holds : (words : List ℤ) (b : Board) → Known
  none : (words : List ℤ) → Known
  changed : (i : ℕ) (word : ℤ) → Known

-- settings that wait, and others in force
abbrev first_settings : Settings
first_settings = record {
  weights = neg_ℤ (pos 1) ∷ neg_ℤ (pos 2) ∷ neg_ℤ (pos 3) ∷ neg_ℤ (pos 4) ∷ neg_ℤ (pos 5) ∷ neg_ℤ (pos 6) ∷ neg_ℤ (pos 7) ∷ neg_ℤ (pos 8) ∷ neg_ℤ (pos 9) ∷ [];
  threshold = 5000;
  truncation = 3;
  samples = 8;
}

abbrev last_settings : Settings
last_settings = record {
  weights = pos 10 ∷ pos 11 ∷ pos 12 ∷ pos 13 ∷ pos 14 ∷ pos 15 ∷ neg_ℤ (pos 13) ∷ neg_ℤ (pos 14) ∷ neg_ℤ (pos 15) ∷ [];
  threshold = 6000;
  truncation = 2;
  samples = 7;
}

abbrev settings_after : List ℤ
settings_after =
    neg_ℤ (pos 1) ∷ neg_ℤ (pos 2) ∷ neg_ℤ (pos 3) ∷ neg_ℤ (pos 4) ∷ neg_ℤ (pos 5) ∷ neg_ℤ (pos 6) ∷ neg_ℤ (pos 7) ∷ neg_ℤ (pos 8) ∷ neg_ℤ (pos 9)
    ∷ pos 5000 ∷ pos 3 ∷ pos 8
    ∷ pos 10 ∷ pos 11 ∷ pos 12 ∷ pos 13 ∷ pos 14 ∷ pos 15 ∷ neg_ℤ (pos 13) ∷ neg_ℤ (pos 14) ∷ neg_ℤ (pos 15)
    ∷ pos 6000 ∷ pos 2 ∷ pos 7
    ∷ []

-- a ramp runs on a board of 40 by 30 that isn't binned, with 1,234 readings fed
abbrev running : Board
running = record {
  sides = record { width = 40; height = 30; binned = false };
  waiting = first_settings;
  in_force = last_settings;
  running = true;
  fed = 1234;
}

abbrev running_words : List ℤ
running_words = pos 40 ∷ pos 30 ∷ pos 0 ∷ pos 1 ∷ pos 1234 ∷ settings_after

-- none runs on a binned one
abbrev idle : Board
idle = record {
  sides = record { width = 40; height = 30; binned = true };
  waiting = first_settings;
  in_force = last_settings;
  running = false;
  fed = 0;
}

abbrev idle_words : List ℤ
idle_words = pos 40 ∷ pos 30 ∷ pos 1 ∷ pos 0 ∷ pos 0 ∷ settings_after

-- a row follows from the definitions
abbrev pub Holds : Known → Type 0
Holds (board b words) = (words_of b ≡ words) × (held words ≡ b)
Holds (holds words b) = held words ≡ b
Holds (none words) = held words ≡ no_board
Holds (changed i word) = held (set running_words i word) ≡ no_board

abbrev pub table : List Known
table =
    board running running_words
    ∷ board idle idle_words
    -- 28 words, 30, and none
    ∷ none (take 28 running_words)
    ∷ none (running_words ++ (pos 0 ∷ []))
    ∷ none []
    -- no side, and no number of readings, is negative
    ∷ changed 0 (neg_ℤ (pos 1))
    ∷ changed 1 (neg_ℤ (pos 1))
    ∷ changed 4 (neg_ℤ (pos 1))
    -- yes is 1 alone
    ∷ changed 2 (pos 2)
    ∷ changed 2 (neg_ℤ (pos 1))
    ∷ changed 3 (pos 2)
    ∷ changed 3 (neg_ℤ (pos 1))
    -- a weight has 32 bits with a sign: the first and the last of both settings, and a good one with more bits
    ∷ changed 5 (pos 4294967295)
    ∷ changed 13 (pos 4294967287)
    ∷ changed 17 (pos 4294967306)
    ∷ changed 25 (pos 4294967281)
    ∷ changed 5 (pos 2147483648)
    ∷ changed 5 (neg_ℤ (pos 2147483649))
    -- threshold, r and N have 16 with none
    ∷ changed 14 (pos 70536)
    ∷ changed 15 (pos 65539)
    ∷ changed 16 (pos 65544)
    ∷ changed 26 (pos 71536)
    ∷ changed 27 (pos 65538)
    ∷ changed 28 (pos 65543)
    ∷ changed 14 (pos 65536)
    ∷ changed 14 (neg_ℤ (pos 1))
    ∷ changed 28 (neg_ℤ (pos 65529))
    -- what a field has room for is held, though no such board is sound
    ∷ holds (set running_words 4 (pos 1201234)) (with_ramp true 1201234 running)
    ∷ holds (set running_words 13 (pos 2147483647)) (with_settings (with_weights (set first_settings.weights 8 (pos 2147483647)) first_settings) last_settings running)
    ∷ holds (set running_words 17 (neg_ℤ (pos 2147483648))) (with_settings first_settings (with_weights (set last_settings.weights 0 (neg_ℤ (pos 2147483648))) last_settings) running)
    ∷ holds (set running_words 26 (pos 65535)) (with_settings first_settings (with_threshold 65535 last_settings) running)
    ∷ []

-- every row follows from the definitions
abbrev pub AllKnown : Type 0
AllKnown = AllHold Holds table
