-- A board in lent memory: 29 words, each a number of 64 bits with a sign, and the board that they hold.
use Rattle.std.specs.Prelude.{ℕ, ◌+◌, Bool, true, false, cond, ◌&&◌, eqb, ltb, List, [], ◌∷◌, ◌++◌, ℤ, pos, negsuc, neg_ℤ, length, get_or, take, drop}
use Rattle.std.specs.Int.Signed.{le_z, lt_z}
use Rattle.laws.specs.Lists.{each, every}
use Rattle.settings.specs.declared.Settings.{Settings}
use Rattle.settings.specs.Settings.{weight_at}
use Rattle.board.specs.declared.Board.{Board}
use Rattle.board.specs.Open.{no_board}

-- ---- the words of a board

-- how many there are, and how many of them settings take
abbrev pub board_length : ℕ
board_length = 29

abbrev pub settings_length : ℕ
settings_length = 12

-- 0 for no, 1 for yes
abbrev pub truth_word : Bool → ℤ
truth_word false = pos 0
truth_word true = pos 1

-- weights 1 to 9, the threshold, r and N
abbrev pub words_of_settings : Settings → List ℤ
words_of_settings s = each (λ i. weight_at s (i + 1)) 9 ++ (pos s.threshold ∷ pos s.truncation ∷ pos s.samples ∷ [])

-- width and height, whether the board is binned, whether a ramp runs, how many readings are fed; the settings that wait, and those in force
abbrev pub words_of : Board → List ℤ
words_of b =
    (pos b.sides.width ∷ pos b.sides.height ∷ truth_word b.sides.binned ∷ truth_word b.running ∷ pos b.fed ∷ [])
    ++ words_of_settings b.waiting ++ words_of_settings b.in_force

-- ---- which words hold a board: each is one that its field can have

-- of a truth value: 0 or 1
abbrev pub truth_fits : ℤ → Bool
truth_fits (pos n) = ltb n 2
truth_fits (negsuc n) = false

-- of a side, and of the readings fed: any that isn't negative
abbrev pub count_fits : ℤ → Bool
count_fits (pos n) = true
count_fits (negsuc n) = false

-- of a threshold, r and N: 16 bits with no sign
abbrev pub short_fits : ℤ → Bool
short_fits (pos n) = ltb n 65536
short_fits (negsuc n) = false

-- of a weight: 32 bits with a sign
abbrev pub weight_fits : ℤ → Bool
weight_fits w = le_z (neg_ℤ (pos 2147483648)) w && lt_z w (pos 2147483648)

-- word i, from 0
abbrev pub word_at : List ℤ → ℕ → ℤ
word_at words i = get_or words i (pos 0)

-- the words of settings: the first nine are weights
unfoldable pub settings_fit : List ℤ → Bool
settings_fit words = every weight_fits (take 9 words) && every short_fits (drop 9 words)

-- the parts of a board's words: five, then those of the settings that wait, then those of the settings in force
abbrev pub first_words : List ℤ → List ℤ
first_words words = take 5 words

abbrev pub waiting_words : List ℤ → List ℤ
waiting_words words = take settings_length (drop 5 words)

abbrev pub in_force_words : List ℤ → List ℤ
in_force_words words = drop settings_length (drop 5 words)

unfoldable pub first_fit : List ℤ → Bool
first_fit words =
    count_fits (word_at words 0) && count_fits (word_at words 1)
    && truth_fits (word_at words 2) && truth_fits (word_at words 3)
    && count_fits (word_at words 4)

unfoldable pub board_fits : List ℤ → Bool
board_fits words = first_fit (first_words words) && settings_fit (waiting_words words) && settings_fit (in_force_words words)

-- ---- the board that words hold

-- what a word says: a truth value, a number that isn't negative. A weight's word is the weight
abbrev pub truth_in : ℤ → Bool
truth_in (pos n) = eqb n 1
truth_in (negsuc n) = false

abbrev pub count_in : ℤ → ℕ
count_in (pos n) = n
count_in (negsuc n) = 0

abbrev pub settings_in : List ℤ → Settings
settings_in words = record {
  weights = each (word_at words) 9;
  threshold = count_in (word_at words 9);
  truncation = count_in (word_at words 10);
  samples = count_in (word_at words 11);
}

abbrev pub board_in : List ℤ → Board
board_in words =
    let first = first_words words in
    record {
      sides = record { width = count_in (word_at first 0); height = count_in (word_at first 1); binned = truth_in (word_at first 2) };
      waiting = settings_in (waiting_words words);
      in_force = settings_in (in_force_words words);
      running = truth_in (word_at first 3);
      fed = count_in (word_at first 4);
    }

-- whether words hold a board: they are as many as one takes, and each fits
unfoldable pub holds_board : List ℤ → Bool
holds_board words = eqb (length words) board_length && board_fits words

-- the board that words hold; where they hold none, no board, which isn't sound
unfoldable pub held : List ℤ → Board
held words = cond (holds_board words) (board_in words) no_board
