-- The laws of a ramp.
use Prim.Native.Nat.{◌*◌, ◌≤◌}
use mathlib.Core.List.{[]}
use mathlib.Core.Path.{refl}
use native.Mathlib.Nat.{mul-le-mul_right}
use native.Mathlib.Omega.{arith}
use lib.ListN.{length}
use Rattle.laws.proofs.Tests.{cases}
use Rattle.laws.proofs.Ints.{signed}
use Rattle.settings.specs.Covered.{is_covered}
use Rattle.settings.proofs.Parts.{in_range_parts}
use Rattle.engines.specs.Engine.{step_in, engine_of}
use Rattle.engines.proofs.Laws.{stands_for}
use Rattle.sums.specs.Laws.{RampLaws}
use Rattle.sums.proofs.Feeding.{feed_length, feed_append}
use Rattle.sums.proofs.Bounds.{cover_holds, cover_breaks, at_most, worst, worst_le}
use Rattle.sums.proofs.Agrees.{agrees_none, agrees_all}

pub laws : RampLaws
laws = record {
  in_two = λ kind s f xs ys sums.
      let engine = engine_of kind in
      rw (feed_length engine.absent (step_in engine s) (length sums) xs f sums) (feed_append engine.absent (step_in engine s) (length sums) xs ys f sums);
  entry_is = λ kind s e xs sums p k h few here last.
      let engine = engine_of kind in
      let r = in_range_parts s e in
      let m = length sums in
      let ten : length xs ≤ 10 * m = omega (arith, mul-le-mul_right {m = k} {n = 8} m few) in
      (agrees_all engine s r m (omega arith) (stands_for kind) [] xs sums ten (agrees_none engine s r m (omega arith) sums refl)).entry p k h here last;
  covered_is = λ s. (
    (λ c x low over. omega (signed, cover_holds s c x (λ n a l. at_most s n (x n) (low n a l)))),
    λ h. cases (is_covered s) (λ t. t) (λ t. absurd (h (worst s) (λ n a l. worst_le s n) (cover_breaks s t))),
  );
}
