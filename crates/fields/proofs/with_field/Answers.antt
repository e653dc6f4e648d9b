use Rattle.std.proofs.Common.{◌<◌, arith, sym}
use Rattle.record.proofs.Fields.{weight_below}
use Rattle.fields.proofs.with_field.Goals as goal

pub offset_bounds-settings-i : goal.offset_bounds-settings-i
offset_bounds-settings-i c =
    let below : c.in-Weight.i < 9 = weight_below c.args.bit c.in-Weight.i (sym c.in-Weight.ensures) in
    record { fits = omega arith }

pub bounds-settings-i : goal.bounds-settings-i
bounds-settings-i c = weight_below c.args.bit c.in-Weight.i (sym c.in-Weight.ensures)
