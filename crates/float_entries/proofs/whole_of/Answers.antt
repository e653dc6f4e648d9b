use mathlib.Core.Path.{◌∙◌}
use Rattle.laws.proofs.Ints.{back}
use Rattle.laws.proofs.Tests.{and_true}
use mir.Syntax.{w32}
use Rattle.entries.specs.SupportRange.{entry_in_range}
use Rattle.engines.specs.Engine.{in_floats}
use Rattle.float_laws.proofs.Integers.{whole_number, moved_number, low_whole_is}
use Rattle.float_entries.proofs.whole_of.Goals as goal

pub float_to_bits-entry : goal.float_to_bits-entry
float_to_bits-entry c =
    let e = c.args.entry in
    rw (moved_number e (whole_number e (and_true (in_floats.is_whole e) (entry_in_range (in_floats.value_of e)) c.requires).0)) tt

pub returns : goal.returns
returns c =
    let e = c.args.entry in
    back w32 c.low_whole.result c.low_whole.type_inv ∙ c.low_whole.ensures ∙ low_whole_is e c.well_formed.0.1 (and_true (in_floats.is_whole e) (entry_in_range (in_floats.value_of e)) c.requires).0
