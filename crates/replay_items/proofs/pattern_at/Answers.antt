-- Past the end the pattern is that of no number.
use Rattle.std.proofs.Common.{◌≡◌, refl, rules, get_or}
use Rattle.std.specs.Float.{nan}
use Rattle.std.specs.Float.Ieee.{to_bits}
use Rattle.replay_items.proofs.pattern_at.Goals as goal

pub returns-in-None : goal.returns-in-None
unfolding to_bits
returns-in-None c =
    let past : get_or c.args.floats.now c.args.i nan ≡ nan = search rules in
    rw past refl
