-- Each call says its part of the step.
use mathlib.Core.Path.{◌∙◌}
use mir.Facts.{to_z-of_z}
use Rattle.float_laws.proofs.Bits.{raised_back}
use Rattle.step.proofs.Numbers.{number, new_mark, weight}
use Rattle.float_step.proofs.Steps.{shift_bits, shift_number, over_number, marked_number, small_reading, stored_is}
use Rattle.float_step.proofs.accumulate.Goals as goal

pub float_to_bits-shift_bits : goal.float_to_bits-shift_bits
float_to_bits-shift_bits c = rw shift_number tt

pub raised-raised_reading-requires : goal.raised-raised_reading-requires
raised-raised_reading-requires c = shift_bits

pub raised-requires : goal.raised-requires
raised-requires c = shift_bits

pub is_below-above-requires : goal.is_below-above-requires
is_below-above-requires c =
    rw (c.raised.ensures, c.raised-raised_reading.ensures) (over_number c.args.sample c.args.reading c.requires.sample_value c.requires.reading_value)

pub is_below-requires : goal.is_below-requires
is_below-requires c =
    let a = c.args in
    let r = c.requires in
    let added = c.pedestal_or_stored-addend in
    rw c.from-mark_base.ensures (marked_number a.sample a.reading r.sample_value r.reading_value a.stored.now added.result r.stored_value added.type_inv added.ensures)

pub returns : goal.returns
returns c =
    let a = c.args in
    let r = c.requires in
    let n = r.sample_value.number.1 in
    let added = c.pedestal_or_stored-addend in
    simp (
      c.is_below.ensures,
      c.pick.ensures,
      c.from-mark_base.ensures,
      c.is_below-above.ensures,
      c.from.ensures,
      weight a.sample.weight r.sample_value.weight,
      c.raised-raised_reading.ensures,
      c.raised.ensures,
      raised_back a.reading (small_reading a.sample a.reading r.sample_value r.reading_value),
      c.from-mark.ensures,
      number a.sample.n n,
      to_z-of_z,
      new_mark a.sample.n n,
    ) at c.pick-2.ensures
    ∙ stored_is a.sample a.reading r.sample_value r.reading_value a.stored.now added.result r.stored_value added.type_inv added.ensures
