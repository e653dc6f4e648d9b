-- After some rows the words of those rows are the frame's.
use Rattle.std.proofs.Common.{◌≡◌, ◌*◌, take, true}
use Rattle.laws.specs.Lists.{each}
use Rattle.encoding.specs.Frame.{word_in}
use Rattle.layout.proofs.write_squares.Given as goal

abbrev pub invariant-loop-row : goal.invariant-loop-row
invariant-loop-row g l = take (l.row * l.half) l.words ≡ each (word_in g.E.Entry.engine l.fn.sides.width true l.truncation l.sums) (l.row * l.half)
