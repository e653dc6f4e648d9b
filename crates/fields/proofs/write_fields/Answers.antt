use Rattle.std.proofs.Common.{◌+◌, ◌*◌, ◌≤◌, ◌≡◌, ◌∙◌, arith, refl, add-one}
use Rattle.laws.specs.Lists.{each}
use Rattle.checks.specs.Checks.{verdict}
use Rattle.checks.proofs.Laws.{first_taken, verdict_each}
use Rattle.record.specs.Record.{map_of, field_of, number_of, offset_of}
use Rattle.record.proofs.Fields.{size_small, offset_small}
use Rattle.fields.specs.Fields.{field_check, with_bits}
use Rattle.fields.proofs.And.{and_first}
use Rattle.fields.proofs.write_fields.Goals as goal
use Rattle.fields.proofs.write_fields.Goals.{then-bit_set, else-bit_set}

pub loop-bit-init : goal.loop-bit-init
unfolding offset_of verdict each with_bits
loop-bit-init c = (refl, refl, refl)

pub overflow_add-at : goal.overflow_add-at
overflow_add-at c =
    let p : offset_of (map_of c.args.bytes.now) c.loop-bit.bit ≤ 2 + 2 * c.loop-bit.bit = offset_small (map_of c.args.bytes.now) c.loop-bit.bit in
    let w : c.size-at.result ≤ 2 = rw c.size-at.ensures (size_small c.of_bit-field.result) in
    record { fits = omega arith }

pub loop-bit-preserved : goal.loop-bit-preserved
unfolding offset_of with_bits
loop-bit-preserved c =
    let l = c.loop-bit in
    let bytes = c.args.bytes.now in
    let t = rw c.u16_le_at-map.ensures at c.bit_set.ensures in
    let more = add-one l.bit in
    let check = field_check bytes in
    elim c.if-bit_set.branch [
      | then-bit_set w ↦
          let number : w.number_at-number.result ≡ number_of bytes l.bit = w.number_at-number.ensures ∙ rw (w.of_bit-field.ensures, l.invariant.0) in (
            w.at-is ∙ rw (w.size-at.ensures, w.of_bit-field.ensures, l.invariant.0, more, ← t, w.if-bit_set.true),
            w.answer-is ∙ w.and-answer.ensures ∙ and_first l.answer w.check.result
                ∙ rw (w.check.ensures, w.of_bit-field.ensures, number, l.invariant.1, more, verdict_each check l.bit, ← t, w.if-bit_set.true),
            w.settings-is ∙ w.with_field.ensures ∙ rw (number, l.invariant.2, more, ← t, w.if-bit_set.true),
          )
      | else-bit_set w ↦ (
        w.at-is ∙ l.invariant.0 ∙ rw (more, ← t, w.if-bit_set.false),
        w.answer-is ∙ l.invariant.1 ∙ rw (more, verdict_each check l.bit, ← t, w.if-bit_set.false, first_taken),
        w.settings-is ∙ l.invariant.2 ∙ rw (more, ← t, w.if-bit_set.false),
      )
    ]
