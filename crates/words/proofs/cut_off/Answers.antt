-- `words::cut_off` meets its contract.
use mir.Facts.{to_z-of_z}
use Rattle.words.proofs.cut_off.Goals as goal

pub returns-else-total-lt0 : goal.returns-else-total-lt0
returns-else-total-lt0 c = let held = to_z-of_z c.ranges.total in rw (held, rw held at c.if-total-lt0.false)
