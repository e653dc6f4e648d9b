-- After i turns the first i words are the row's.
use Rattle.std.proofs.Common.{◌≡◌, take}
use Rattle.laws.specs.Lists.{each}
use Rattle.layout.specs.SupportRequires.{row_word}
use Rattle.layout.proofs.write_row.Given as goal

abbrev pub invariant-loop-i : goal.invariant-loop-i
invariant-loop-i g l = take l.i l.words ≡ each (row_word g.E.Entry.engine l.truncation l.upper l.lower) l.i
