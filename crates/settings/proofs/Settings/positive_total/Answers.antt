use Rattle.std.proofs.Common.{◌<◌, ◌^◌, w32, arith, refl, add-one}
use Rattle.laws.proofs.Ints.{back}
use Rattle.settings.specs.Covered.{positives}
use Rattle.settings.proofs.Weights.{positive_small}
use Rattle.settings.proofs.Settings.positive_total.Goals as goal

pub loop-i-init : goal.loop-i-init
unfolding positives
loop-i-init c = (omega arith, (refl, omega arith))

pub loop-i-preserved : goal.loop-i-preserved
unfolding positives
loop-i-preserved c =
    let p = c.positive_part-total in
    let w = c.weight in
    let small : p.result < 2 ^ 31 = rw (p.ensures, back w32 w.result w.type_inv) (positive_small w.result w.type_inv) in
    (omega arith, (rw (add-one, c.loop-i.invariant.1.0, p.ensures, back w32 w.result w.type_inv, w.ensures, add-one), omega arith))
