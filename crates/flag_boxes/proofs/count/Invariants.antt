-- `flag_boxes::count`: the flags before the current word have been counted.
use mathlib.Core.Path.{◌≡◌}
use Rattle.std.specs.Prelude.{take, count_by}
use Rattle.meaning.specs.Meaning.{is_flag}
use Rattle.flag_boxes.proofs.count.Given as goal

abbrev pub invariant-loop-w : goal.invariant-loop-w
invariant-loop-w l = l.flags ≡ count_by is_flag (take l.w-index l.words)
