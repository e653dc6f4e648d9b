use mathlib.Core.Path.{◌≡◌}
use native.Mathlib.Omega.{arith}
use Rattle.std.proofs.Common.{rules}
use Rattle.std.proofs.lemmas.Iterator.{YieldsList-from_slice, YieldsList-from_zip}
use Rattle.std.specs.List.{fold, zip}
use Rattle.readings.proofs.Bits.{bits_of_four, four_together}
use Rattle.laws.proofs.Folds.{fold_from_yields_List}
use Rattle.readings.proofs.four_in_range.Goals as goal

pub returns : goal.returns
returns c =
    let t = c.args in
    let bits : c.fold.result ≡ fold bits_of_four 0 (zip (zip t.a.now t.b.now) (zip t.c.now t.d.now)) =
    fold_from_yields_List bits_of_four c.fold.ensures.ran
    (YieldsList-from_zip (YieldsList-from_zip (YieldsList-from_slice t.a.now cc) (YieldsList-from_slice t.b.now cc)) (YieldsList-from_zip (YieldsList-from_slice t.c.now cc) (YieldsList-from_slice t.d.now cc)))
    (λ bits row more f' k. search rules) in
    rw bits (four_together 0 t.a.now t.b.now t.c.now t.d.now (omega arith) (omega arith) (omega arith))
