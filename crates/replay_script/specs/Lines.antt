-- The lines of a script.
use Rattle.std.specs.Prelude.{◌≡◌, ℕ, ◌+◌, ◌-◌, ◌≤◌, Bool, ◌==◌, ◌||◌, List, length, take, drop, Option, Some, None}
use Rattle.std.specs.Char.{is_ascii_digit}
use Rattle.std.specs.List.{position, position_or_len}
use Rattle.std.specs.Option.{option_map, unwrap_or}

-- where a byte stands first, or the length of a list that doesn't hold it
abbrev pub position_or_end : ℕ → List ℕ → ℕ
position_or_end byte bytes = position_or_len (λ b. b == byte) bytes

-- where the line that begins at a place ends: at the first line feed from there on, or else where the script ends
abbrev pub line_end : List ℕ → ℕ → ℕ
line_end script at = at + position_or_end 10 (drop at script)

-- whether a byte begins a number: a minus sign or a digit
abbrev pub begins_number : ℕ → Bool
begins_number byte = byte == 45 || is_ascii_digit byte

-- where the word of a line ends: before the space in front of its first digit or minus sign, or else where the line ends. So a word may have a space of its own
abbrev pub word_end : List ℕ → ℕ
word_end line = unwrap_or (option_map (λ first. first - 1) (position begins_number line)) (length line)

-- the line that a script begins with, if it isn't empty, and what follows the line's end
abbrev pub NextLine : List ℕ → List ℕ → List ℕ → Type 0
NextLine script line rest = (1 ≤ length script) × (line ≡ take (line_end script 0) script) × (rest ≡ drop (line_end script 0 + 1) script)

-- the number of a line, counted from 1: a script has no more lines than bytes
abbrev pub Numbered : List ℕ → Option ℕ → Type 0
Numbered script (Some line) = (1 ≤ line) × (line ≤ length script)
Numbered script None = Unit {0}
