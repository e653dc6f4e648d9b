-- The ranges of a command's numbers, as far as their types don't say them.
use Rattle.std.specs.Prelude.{◌≤◌}
use Rattle.replay_commands.specs.declared.Command.{Command}
use Rattle.replay_commands.specs.declared.Command.TheVariants.{Open, Board, Update, Start, Feed, ReadOut, Drop, Covered, Word, Replace, Poke, Swap, Print, Words, Nearest, Count}

-- sides that are opened up to 65,535; sides of a board that is set, and the readings that it was fed, up to 9,999,999,999; lists, lengths and outputs up to 4,096; an r up to 255; the index of an entry up to 4,095
abbrev pub InRange : Command → Type 0
InRange (Open sides) = (sides.width ≤ 65535) × (sides.height ≤ 65535)
InRange (Board board) = (board.sides.width ≤ 9999999999) × (board.sides.height ≤ 9999999999) × (board.fed ≤ 9999999999)
InRange (Update count) = count ≤ 4096
InRange Start = Unit {0}
InRange (Feed kind count same) = count ≤ 4096
InRange (ReadOut kind count) = count ≤ 4096
InRange Drop = Unit {0}
InRange Covered = Unit {0}
InRange (Word word r) = r ≤ 255
InRange (Replace length entry) = length ≤ 4096
InRange (Poke index entry) = index ≤ 4095
InRange (Swap kind) = Unit {0}
InRange (Print kind start count) = (start ≤ 4096) × (count ≤ 4096)
InRange (Words count) = count ≤ 4096
InRange (Nearest width height place) = Unit {0}
InRange (Count width height first last) = Unit {0}
