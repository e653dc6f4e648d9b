-- `flag_boxes::count_in_box`: the flags in the rows of the box before `row` have been counted.
use mathlib.Core.Path.{◌≡◌}
use Prim.Native.Nat.{◌*◌}
use Rattle.places.specs.Counting.{how_many, flag_within}
use Rattle.flag_boxes.proofs.count_in_box.Given as goal

abbrev pub invariant-loop-row : goal.invariant-loop-row
invariant-loop-row l = l.n ≡ how_many (l.row * l.frame.width) (flag_within l.frame.words.now l.frame.width l.first l.last)
