-- The lines of a frame, as bytes in ASCII.
use Rattle.std.specs.Prelude.{ℕ, zero, suc, ◌/◌, ◌%◌, List, [], ◌++◌, get_or}
use Rattle.meaning.specs.Meaning.{read_word}
use Rattle.jig_text.specs.Text.{decimal, space, newline, meaning_text}

-- a number, and a space after it
abbrev pub field_text : ℕ → List ℕ
field_text n = decimal n ++ space

-- a word's line: its row and column, the word, and what it means with an r
abbrev pub line_text : ℕ → ℕ → ℕ → ℕ → List ℕ
line_text row column r word = field_text row ++ (field_text column ++ (field_text word ++ (meaning_text (read_word r word) ++ newline)))

-- the lines of the first n words, row by row, so many columns to a row
unfoldable pub lines_text : ℕ → ℕ → List ℕ → ℕ → List ℕ
lines_text columns r words zero = []
lines_text columns r words (suc i) = lines_text columns r words i ++ line_text (i / columns) (i % columns) r (get_or words i 0)
