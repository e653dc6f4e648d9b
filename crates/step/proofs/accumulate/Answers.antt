-- The sum and the mark fit, and each call says its part of the definition.
use mathlib.Core.Path.{◌≡◌, ◌∙◌}
use mathlib.Core.Bool.{true}
use Prim.Native.Nat.{ℕ, ◌<◌, ◌≤◌}
use lib.IntN.{ℤ, pos, ◌+ℤ◌, ◌*ℤ◌}
use mir.Syntax.{w32}
use mir.Val.{SFits}
use mir.Facts.{to_z-of_z}
use Rattle.laws.proofs.Ints.{sum, fits, signed, back}
use Rattle.settings.specs.Settings.{weight_in_range}
use Rattle.readings.specs.Readings.{reading_in_range}
use Rattle.entries.specs.SupportRange.{entry_in_range}
use Rattle.entries.proofs.Range.{range}
use Rattle.step.specs.Step.{pedestal_or_stored}
use Rattle.step.proofs.Numbers.{number, new_mark, weight}
use Rattle.step.proofs.Products.{product}
use Rattle.step.proofs.Steps.{addend_in_range}
use Rattle.step.proofs.accumulate.Goals as goal

-- the product, and what is added to it
fits_sum : (n : ℕ) (w : ℤ) (x : ℕ) (e : ℤ) → 1 ≤ n → weight_in_range w ≡ true → reading_in_range x ≡ true → (1 < n → entry_in_range e ≡ true)
    → SFits w32 (w *ℤ pos x +ℤ pedestal_or_stored n e)
fits_sum n w x e some hw hx he =
    fits w32 _
    (omega (
      signed,
      product w x hw hx,
      range (pedestal_or_stored n e) (addend_in_range n e some he),
      sum (w *ℤ pos x) (pedestal_or_stored n e),
    ))

pub overflow_add-sum : goal.overflow_add-sum
overflow_add-sum c =
    let a = c.args in
    let r = c.requires in
    let multiplied = back w32 c.multiply-product.result c.multiply-product.type_inv ∙ rw (weight a.sample.weight r.sample_value.weight) at c.multiply-product.ensures in
    let added = back w32 c.pedestal_or_stored-addend.result c.pedestal_or_stored-addend.type_inv ∙ c.pedestal_or_stored-addend.ensures in
    rw (multiplied, added) (fits_sum a.sample.n a.sample.weight a.reading a.stored.now r.sample_value.number.0 r.sample_value.weight r.reading_value r.stored_value)

pub returns : goal.returns
returns c =
    let a = c.args in
    let r = c.requires in
    let multiplied = back w32 c.multiply-product.result c.multiply-product.type_inv ∙ rw (weight a.sample.weight r.sample_value.weight) at c.multiply-product.ensures in
    let added = back w32 c.pedestal_or_stored-addend.result c.pedestal_or_stored-addend.type_inv ∙ c.pedestal_or_stored-addend.ensures in
    let s = fits_sum a.sample.n a.sample.weight a.reading a.stored.now r.sample_value.number.0 r.sample_value.weight r.reading_value r.stored_value in
    back w32 c.sum_or_mark.result c.sum_or_mark.type_inv
    ∙ simp (multiplied, added, to_z-of_z, s, number a.sample.n r.sample_value.number.1, new_mark a.sample.n r.sample_value.number.1, c.is_above.ensures) at c.sum_or_mark.ensures
