-- After i turns the first i words are the frame's.
use Rattle.std.proofs.Common.{◌≡◌, take, false}
use Rattle.laws.specs.Lists.{each}
use Rattle.encoding.specs.Frame.{word_in}
use Rattle.layout.proofs.write_pixels.Given as goal

abbrev pub invariant-loop-i : goal.invariant-loop-i
invariant-loop-i g l = take l.i l.words ≡ each (word_in g.E.Entry.engine l.fn.sides.width false l.truncation l.sums) l.i
