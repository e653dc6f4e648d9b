-- The lines so far.
use Rattle.std.proofs.Common.{◌≡◌, ◌+◌, ◌*◌, ◌≤◌, ◌++◌, length, take}
use Rattle.jig_lines.specs.Lines.{lines_text}
use Rattle.jig_lines.proofs.slices.put_lines_at.Given as goal

abbrev pub invariant-loop-i : goal.invariant-loop-i
invariant-loop-i l = record {
  room : length l.out ≡ length l.initial.out;
  end : l.end ≤ l.at + l.i * 106;
  text : take l.end l.out ≡ take l.at l.initial.out ++ lines_text l.columns l.truncation l.words l.i;
}
