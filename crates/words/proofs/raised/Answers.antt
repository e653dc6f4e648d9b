-- `words::raised` meets its contract.
use Rattle.std.proofs.Common.{◌∙◌, w32, pos, arith}
use Rattle.std.proofs.lemmas.Int.{wrapping_add_is}
use Rattle.words.proofs.Raising.{raise}
use Rattle.words.proofs.raised.Goals as goal

pub returns : goal.returns
returns c = wrapping_add_is w32 c.args.entry (pos 1073741824) c.ranges.entry (record { sfits = omega arith }) ∙ raise c.args.entry c.requires
