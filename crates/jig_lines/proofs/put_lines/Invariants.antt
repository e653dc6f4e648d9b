-- The lines so far.
use Rattle.std.proofs.Common.{◌≡◌, ◌+◌, ◌*◌, ◌≤◌, ◌++◌}
use Rattle.arrayvec.specs.ArrayVec.{array_vec_len}
use Rattle.jig_lines.specs.Lines.{lines_text}
use Rattle.jig_lines.proofs.put_lines.Given as goal

abbrev pub invariant-loop-i : goal.invariant-loop-i
invariant-loop-i g l = record {
  end : array_vec_len l.out ≤ array_vec_len l.initial.out + l.i * 106;
  text : l.out.items ≡ l.initial.out.items ++ lines_text l.columns l.truncation l.words l.i;
}
